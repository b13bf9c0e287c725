-- `carriage::heading_of` meets its contract: the head of the record, and its comm.checksum.
use Rattle.carriage.specs.Step.{wants_sum}
use Rattle.carriage.proofs.heading_of.Goals as goal

pub returns : goal.returns
unfolding wants_sum
returns c = simp (c.place.ensures, c.head.ensures)
