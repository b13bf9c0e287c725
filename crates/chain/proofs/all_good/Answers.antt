-- The library's `all` asks each record whether it is good.
use mathlib.Core.Path.{◌∙◌}
use Rattle.std.proofs.Common.{rules, tests}
use Rattle.std.proofs.lemmas.Iterator.{YieldsList-from_slice}
use Rattle.std.proofs.lemmas.Iterator.Search.{all_from_yields_List}
use Rattle.laws.proofs.Listed.{all_listed}
use Rattle.device.specs.Good.{good}
use Rattle.chain.proofs.all_good.Goals as goal

pub returns : goal.returns
returns c =
    let met = YieldsList-from_slice c.args.devices.now cc in
    all_from_yields_List good _ _ c.all.result c.all.ensures.ran met (λ x b q k. search (rules, tests))
    ∙ all_listed good _
