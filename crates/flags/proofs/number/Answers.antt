-- The bits that are set are the flags that are active.
use Rattle.flags.proofs.Bits.{number_is}
use Rattle.flags.proofs.number.Goals as goal

pub returns : goal.returns
returns c = number_is _
