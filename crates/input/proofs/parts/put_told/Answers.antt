-- `input::parts::put_told` meets its contract: name, number and LF, one behind the other.
use Rattle.laws.specs.Text.{text}
use Rattle.buffer.proofs.Wrote.{◌▸◌}
use Rattle.input.specs.Prints.{told}
use Rattle.input.proofs.parts.put_told.Goals as goal

pub returns : goal.returns
unfolding told text
returns c =
    c.put_text-number.ensures ▸ c.put_number-end.ensures ▸ c.put_byte.ensures
