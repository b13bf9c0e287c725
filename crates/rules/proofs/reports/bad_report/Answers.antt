-- The axis, where there is one of that number, and what it takes.
-- Assumes that there are four at most.
use mathlib.Core.Bool.{not}
use mathlib.Core.Path.{sym, ap, ◌∙◌}
use native.Mathlib.Omega.{arith}
use Rattle.rules.proofs.ReportAxis.{axis_range, refused_one, no_axis}
use Rattle.rules.proofs.reports.bad_report.Goals as goal
use Rattle.rules.proofs.reports.bad_report.Goals.{then-is_axis, else-is_axis}

pub takes_at-requires : goal.takes_at-requires
takes_at-requires c =
    let range = axis_range _ _ (sym c.is_axis.ensures ∙ c.if-is_axis.true) in
    (range.0, omega (arith, range.1, c.requires))

pub returns : goal.returns
returns c = elim c.if-is_axis.branch [
  | then-is_axis w ↦ ap not w.result-is ∙ refused_one _ _ _ (sym c.is_axis.ensures ∙ w.if-is_axis.true) w.takes_at.ensures
  | else-is_axis w ↦ ap not (w.result-is ∙ w.if-is_axis.false) ∙ no_axis _ _ _ (sym c.is_axis.ensures ∙ w.if-is_axis.false)
]
