-- The report's number and its alert are printed, and the chain goes on.
use Rattle.chain_session.proofs.Turns.{took_report}
use Rattle.chain_session.proofs.report_turn.Goals as goal

pub returns : goal.returns
returns c = took_report _ _ c.read_placed.ensures.read c.report-h.ensures (rw c.number_of.ensures at c.put_reported.ensures)
