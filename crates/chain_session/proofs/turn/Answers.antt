-- A report, or a line.
use Rattle.chain_session.proofs.Turns.{turn_report, turn_line}
use Rattle.chain_session.proofs.turn.Goals as goal

pub returns-then-is_report : goal.returns-then-is_report
returns-then-is_report c =
    turn_report _ _ c.is_report.ensures c.if-is_report.true c.report_turn.ensures

pub returns-else-is_report : goal.returns-else-is_report
returns-else-is_report c =
    turn_line _ _ c.is_report.ensures c.if-is_report.false c.line_turn.ensures
