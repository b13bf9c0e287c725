-- `reply::put_front` meets its contract: four writes, one behind the other.
use Rattle.buffer.proofs.Wrote.{◌▸◌}
use Rattle.reply.proofs.Texts.{front_is}
use Rattle.reply.proofs.put_front.Goals as goal

pub returns : goal.returns
returns c =
    rw (← front_is _ _)
    (c.put_byte-a.ensures ▸ (c.put_two-b.ensures ▸ c.put_byte-c.ensures ▸ c.put_number.ensures))
