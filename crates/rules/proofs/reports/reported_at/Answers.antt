-- The one place that the number means.
use mathlib.Core.Path.{◌≡◌, ap, ◌∙◌}
use Prim.Native.Nat.{◌-◌}
use native.Mathlib.Omega.{arith}
use lib.ListN.{length, set}
use Rattle.axis.specs.declared.Axis.{Axis}
use Rattle.axis.specs.Reports.{reported}
use Rattle.rules.proofs.ReportAxis.{change_one}
use borrow.Author.Rules.{rules}
use Rattle.rules.proofs.reports.reported_at.Goals as goal

pub returns : goal.returns
returns c =
    let k : length c.args.axes ≡ 4 = search rules in
    ap (λ (x : Axis). set c.args.axes (c.args.k - 1) x) c.reported.ensures
    ∙ change_one c.args.axes _ (c.args.k - 1) (omega (arith, c.requires)) (reported c.args.r)
