-- The seven flags of the record below, and WR above them.
use Rattle.flags.proofs.Bits.{active_yes, active_no}
use Rattle.flags.proofs.active.Goals as goal

pub returns-then-wr : goal.returns-then-wr
returns-then-wr c = rw c.if-wr.true (active_yes c.args.m)

pub returns-else-wr : goal.returns-else-wr
returns-else-wr c = rw c.if-wr.false (active_no c.args.m)
