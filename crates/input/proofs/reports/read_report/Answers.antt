-- `input::reports::read_report` meets its contract: three numbers behind `R`.
use Rattle.input.proofs.ReportLines.{report_told}
use Rattle.input.proofs.reports.read_report.Goals as goal

pub returns : goal.returns
returns c =
    let both = report_told _ c.behind_r.ensures c.three_at.ensures in
    record { read = both.0; number = both.1 }
