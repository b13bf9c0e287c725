-- `host_writer::lines::put_front` meets its contract: four writes, one behind the other.
use Rattle.laws.specs.Text.{text}
use Rattle.buffer.proofs.Wrote.{◌▸◌}
use Rattle.host_writer.proofs.LineTexts.{front_is}
use Rattle.host_writer.proofs.lines.put_front.Goals as goal

pub returns : goal.returns
unfolding text
returns c =
    rw (← front_is _ _) (c.put_byte-a.ensures ▸ c.put_two-b.ensures ▸ c.put_byte-c.ensures ▸ c.put_number.ensures)
