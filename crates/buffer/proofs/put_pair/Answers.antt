-- The higher hex digit and then the lower.
use Rattle.numbers.specs.Decimal.{hex_pair}
use Rattle.buffer.proofs.Wrote.{◌▸◌}
use Rattle.buffer.proofs.put_pair.Goals as goal

pub returns : goal.returns
unfolding hex_pair
returns c =
    rw (← c.hex_digit.ensures, ← c.hex_digit-2.ensures) (c.put_byte-next.ensures ▸ c.put_byte.ensures)
