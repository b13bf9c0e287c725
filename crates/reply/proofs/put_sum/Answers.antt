-- `reply::put_sum` meets its contract: the checksum of what stands before, or nothing.
use Rattle.laws.specs.Text.{text}
use Rattle.buffer.proofs.Wrote.{◌▸◌, wrote_none}
use Rattle.reply.proofs.Texts.{sum_wanted, sum_unwanted}
use Rattle.reply.proofs.put_sum.Goals as goal

pub returns-else-wanted : goal.returns-else-wanted
returns-else-wanted c = rw (sum_unwanted _ _ c.if-wanted.false) (wrote_none _ _)

pub returns-then-wanted : goal.returns-then-wanted
unfolding text
returns-then-wanted c =
    rw (sum_wanted _ _ c.if-wanted.true, ← c.summed-c.ensures) (c.put_byte-colon.ensures ▸ c.put_pair.ensures)
