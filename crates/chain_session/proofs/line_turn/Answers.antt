-- The answers of the chain are printed, and its next records go on.
use mathlib.Core.Path.{◌≡◌, sym}
use lib.ListN.{length}
use Rattle.view.proofs.Telling.{unmapped}
use native.Mathlib.Omega.{arith}
use lib.Seq.{length-take-le}
use Rattle.chain_session.proofs.Turns.{took_line}
use borrow.Author.Rules.{rules}
use Rattle.chain_session.proofs.line_turn.Goals as goal

pub slice_bounds-hear-end : goal.slice_bounds-hear-end
slice_bounds-hear-end c = sym (length-take-le _ _ (omega (arith, c.min-room.ensures)))

pub returns : goal.returns
returns c =
    let sixteen : length c.args.c.devices ≡ 16 = search (rules, unmapped) in
    took_line c.args.c sixteen c.min-room.ensures c.args.part.now
    (length-take-le _ _ (omega (arith, c.min-room.ensures))) _ c.hear-h.ensures (rw c.number_of.ensures at c.put_answer.ensures)
