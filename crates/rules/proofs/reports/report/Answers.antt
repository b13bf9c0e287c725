-- The next record where there is no refusal, and the record as it was where there is one.
use mathlib.Core.Path.{sym, ◌∙◌}
use Rattle.laws.proofs.Refusals.{accepted_is}
use Rattle.rules.proofs.ReportAxis.{told_range, taken_next, refused_next}
use Rattle.rules.proofs.reports.report.Goals as goal

pub reported_at-d-requires : goal.reported_at-d-requires
reported_at-d-requires c =
    told_range _ _ _ (sym c.report_refusal-verdict.ensures ∙ accepted_is _ (sym c.is_ok.ensures.value ∙ c.if-is_ok.true))

pub returns-then-is_ok : goal.returns-then-is_ok
returns-then-is_ok c =
    let p = c.place-k.ensures in
    taken_next c.args.d c.args.axis c.args.r (simp p at c.report_refusal-verdict.ensures)
    (sym c.is_ok.ensures.value ∙ c.if-is_ok.true) (simp p at c.reported_at-d.ensures)

pub returns-else-is_ok : goal.returns-else-is_ok
returns-else-is_ok c =
    refused_next c.args.d c.args.axis c.args.r (simp c.place-k.ensures at c.report_refusal-verdict.ensures)
    (sym c.is_ok.ensures.value ∙ c.if-is_ok.false)
