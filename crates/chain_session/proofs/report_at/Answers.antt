-- No place, a place beyond the chain, or a record of it.
use mathlib.Core.Path.{◌≡◌}
use lib.ListN.{length}
use Rattle.view.proofs.Telling.{unmapped}
use Rattle.chain_session.proofs.Turns.{no_place, beyond, reported_at}
use borrow.Author.Rules.{rules}
use Rattle.chain_session.proofs.report_at.Goals as goal
use Rattle.chain_session.proofs.report_at.Goals.{then-place-eq0-via-then-place-eq0, then-place-eq0-via-else-place-eq0+then-min-place}

pub returns-then-place-eq0 : goal.returns-then-place-eq0
returns-then-place-eq0 c =
    let a = c.args in
    let sixteen : length a.c.devices ≡ 16 = search (rules, unmapped) in
    rw c.missed.ensures
    (elim c.then-place-eq0.branch [
      | then-place-eq0-via-then-place-eq0 w ↦ no_place a.c a.place a.report a.alert.now w.if-place-eq0.true
      | then-place-eq0-via-else-place-eq0+then-min-place w ↦ beyond a.c a.place a.report a.alert.now sixteen w.min.ensures w.if-min-place.true
    ])

pub returns : goal.returns
returns c =
    let a = c.args in
    let sixteen : length a.c.devices ≡ 16 = search (rules, unmapped) in
    reported_at a.c a.place a.report a.alert.now sixteen c.min.ensures
    c.if-place-eq0.false c.if-min-place.false _ c.report-a.ensures
