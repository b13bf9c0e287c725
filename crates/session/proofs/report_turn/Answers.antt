-- `session::report_turn` meets its contract: the report's number and its alert are printed, and its next record goes on.
use Rattle.session.proofs.Turns.{took_report}
use Rattle.session.proofs.report_turn.Goals as goal

pub returns : goal.returns
returns c = took_report _ _ c.read_report.ensures.read c.report_answer-a.ensures (rw c.number_of.ensures at c.put_reported.ensures)
