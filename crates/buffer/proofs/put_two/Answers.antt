-- The tens and then the ones.
use Rattle.numbers.specs.Decimal.{two_digits}
use Rattle.buffer.proofs.Wrote.{◌▸◌}
use Rattle.buffer.proofs.put_two.Goals as goal

pub returns : goal.returns
unfolding two_digits
returns c = c.put_byte-next.ensures ▸ c.put_byte.ensures
