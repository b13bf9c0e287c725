-- `session::line_turn` meets its contract: what `step` answers is printed, and its next record goes on.
use Rattle.session.proofs.Turns.{took_line}
use Rattle.session.proofs.line_turn.Goals as goal

pub returns : goal.returns
returns c =
    took_line _ _ c.step-a.ensures (rw c.number_of.ensures at c.put_answer.ensures)
