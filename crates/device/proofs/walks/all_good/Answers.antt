-- The library's `all` asks the same of each of the first n axes.
use mathlib.Core.Path.{◌∙◌}
use Rattle.std.proofs.Common.{rules, tests}
use Rattle.std.proofs.lemmas.Iterator.{YieldsList-from_slice, YieldsList-from_take}
use Rattle.std.proofs.lemmas.Iterator.Search.{all_from_yields_List}
use Rattle.laws.proofs.Listed.{all_listed}
use Rattle.axis.specs.Good.{good_axis}
use Rattle.device.proofs.walks.all_good.Goals as goal

pub returns : goal.returns
returns c =
    let met = YieldsList-from_take {s = c.take.result} c.args.n (YieldsList-from_slice c.args.axes cc) c.take.ensures.count in
    all_from_yields_List good_axis _ _ c.all.result c.all.ensures.ran met (λ x b q k. search (rules, tests))
    ∙ all_listed good_axis _
