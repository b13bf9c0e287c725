-- The tests of the positions, taken together from the first to the last.
use mathlib.Core.Path.{◌≡◌, ◌∙◌}
use mathlib.Core.Bool.{Bool, true, ◌&&◌}
use Rattle.std.proofs.Common.{rules, tests}
use Rattle.std.proofs.lemmas.Iterator.{YieldsList-from_slice}
use Rattle.std.proofs.lemmas.Iterator.Consumers.{fold_from_yields_List}
use Rattle.laws.proofs.Listed.{all_folded}
use Rattle.units.specs.declared.Position.{Position}
use Rattle.axis.specs.Good.{good_position}
use Rattle.axis.proofs.good.all_bounded.Goals as goal

pub returns : goal.returns
returns c =
    fold_from_yields_List _ (λ (b : Bool) (p : Position). b && good_position p) true c.fold.result c.fold.ensures.ran
    (YieldsList-from_slice c.args.stored.now cc) (λ b p r q k. search (rules, tests))
    ∙ all_folded good_position true _
