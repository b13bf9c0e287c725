-- The `or` of two masks is taken bit by bit, and so is the union of their flags.
use Rattle.flags.proofs.Bits.{union_is}
use Rattle.flags.proofs.union.Goals as goal

pub returns : goal.returns
returns c = union_is _ _
