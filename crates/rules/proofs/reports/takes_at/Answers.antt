-- The one place that the number means.
use mathlib.Core.Path.{◌≡◌, ◌∙◌}
use Prim.Native.Nat.{◌-◌}
use native.Mathlib.Omega.{arith}
use lib.ListN.{length}
use Rattle.axis.specs.Reports.{takes}
use Rattle.rules.proofs.ReportAxis.{ask_one}
use borrow.Author.Rules.{rules}
use Rattle.rules.proofs.reports.takes_at.Goals as goal

pub returns : goal.returns
returns c =
    let k : length c.args.axes ≡ 4 = search rules in
    c.takes.ensures ∙ ask_one c.args.axes _ (c.args.k - 1) (omega (arith, c.requires)) (takes c.args.r)
