-- The bytes summed in one byte, and the sum negated there.
use Rattle.std.proofs.Common.{◌+◌, ◌%◌, arith, rules, tests}
use Rattle.std.proofs.lemmas.Iterator.{YieldsList-from_slice}
use Rattle.std.proofs.lemmas.Iterator.Consumers.{fold_from_yields_List}
use Rattle.numbers.specs.Checksum.{checksum}
use Rattle.numbers.proofs.Sum.{total_folded}
use Rattle.numbers.proofs.checksum.Goals as goal

pub returns : goal.returns
unfolding checksum
returns c =
    let s = c.args.s.now in
    let folded = fold_from_yields_List _ (λ n x. (n + x) % 256) 0 c.fold-sum.result c.fold-sum.ensures.ran (YieldsList-from_slice s (cc)) (λ a x b q k. search (rules, tests)) in
    omega (arith, folded, total_folded s 0 (omega arith))
