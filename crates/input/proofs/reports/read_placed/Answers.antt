-- `input::reports::read_placed` meets its contract: the place and three numbers behind `R`.
use Rattle.input.proofs.ReportLines.{placed_told}
use Rattle.input.proofs.reports.read_placed.Goals as goal

pub returns : goal.returns
returns c =
    let both = placed_told _ c.behind_r-b.ensures c.number_at-number.ensures.number c.number_at-number.ensures.others
    c.three_at.ensures c.at_place.ensures in
    record { read = both.0; number = both.1 }
