-- The rows above the last, and where none of them applies the last one.
-- Assumes that x is what the command demands.
use mathlib.Core.Path.{◌≡◌, sym, ap, ◌∙◌}
use mathlib.Core.Bool.{true, false}
use Rattle.std.proofs.Common.{rules}
use Rattle.rules.proofs.OnlyShows.{shows_permitted}
use Rattle.rules.proofs.Standing.{stands, last_row}
use Rattle.rules.proofs.refusals.refusal.Goals as goal

pub returns-in_err-standing : goal.returns-in_err-standing
returns-in_err-standing c =
    let a = c.args in
    let same : c.from_residual.result ≡ c.standing.result = search rules in
    same ∙ stands a.d a.k a.c a.x c.standing.ensures c.in_err-standing.was

pub returns-then-x : goal.returns-then-x
returns-then-x c =
    let a = c.args in
    last_row a.d a.k a.c a.x c.standing.ensures c.in_ok-standing.was false
    (shows_permitted a.d a.k a.c (sym (ap (λ q. q.shows) c.requires) ∙ c.if-x.true))

pub returns-then-bad_data : goal.returns-then-bad_data
returns-then-bad_data c =
    let a = c.args in
    last_row a.d a.k a.c a.x c.standing.ensures c.in_ok-standing.was true
    (sym c.bad_data.ensures ∙ c.if-bad_data.true)

pub returns : goal.returns
returns c =
    let a = c.args in
    last_row a.d a.k a.c a.x c.standing.ensures c.in_ok-standing.was false
    (sym c.bad_data.ensures ∙ c.if-bad_data.false)
