-- Every byte passes, as the library's `fold` asks them one by one.
use mathlib.Core.Path.{◌∙◌}
use mathlib.Core.Bool.{Bool, true, ◌&&◌}
use Prim.Native.Nat.{ℕ}
use Rattle.std.proofs.Common.{rules, tests}
use Rattle.std.proofs.lemmas.Iterator.{YieldsList-from_slice}
use Rattle.std.proofs.lemmas.Iterator.Consumers.{fold_from_yields_List}
use Rattle.laws.proofs.Listed.{all_folded}
use Rattle.line.specs.Reading.{printable, no_colon}
use Rattle.line.specs.FromTheEnd.{plain}
use Rattle.line.proofs.framing.all_plain.Goals as goal

pub returns : goal.returns
unfolding plain printable no_colon
returns c =
    let s = c.args.s.now in
    fold_from_yields_List _ (λ (b : Bool) (x : ℕ). b && plain x) true c.fold.result c.fold.ensures.ran
    (YieldsList-from_slice s cc) (λ b x r q k. search (rules, tests))
    ∙ all_folded plain true s
