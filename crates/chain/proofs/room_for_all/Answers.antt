-- No more than 1,152 bytes, times 16 records at most.
use native.Mathlib.Omega.{arith}
use Rattle.chain.proofs.Chains.{all_within}
use Rattle.chain.proofs.room_for_all.Goals as goal

pub overflow_mul-result : goal.overflow_mul-result
overflow_mul-result c =
    record { fits = omega (arith, all_within c.args.n c.requires c.args.read c.room_for.ensures) }
