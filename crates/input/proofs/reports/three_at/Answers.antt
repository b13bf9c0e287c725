-- `input::reports::three_at` meets its contract: three words as numbers, and no word behind them.
use lib.ListN.{drop}
use Rattle.words.specs.Cutting.{cut}
use Rattle.words.proofs.Cut.{left_none, left_some}
use Rattle.input.proofs.ReportLines.{too_many, just_three}
use Rattle.input.proofs.reports.three_at.Goals as goal

pub returns-then-start_of-s : goal.returns-then-start_of-s
returns-then-start_of-s c =
    let args = c.args in
    too_many (cut (drop args.at args.s.now)) _ _ _ c.number_at-axis.ensures.others c.number_at-kind.ensures.others
    c.number_at-last.ensures.others (left_some _ c.number_at-last.result.end c.start_of.ensures c.if-start_of-s.true)

pub returns : goal.returns
returns c =
    let args = c.args in
    just_three (cut (drop args.at args.s.now)) _ _ _ c.number_at-axis.ensures.others c.number_at-kind.ensures.others
    c.number_at-last.ensures.others (left_none _ c.number_at-last.result.end c.start_of.ensures c.if-start_of-s.false)
    c.number_at-axis.ensures.number c.number_at-kind.ensures.number c.number_at-last.ensures.number c.numbers.ensures
