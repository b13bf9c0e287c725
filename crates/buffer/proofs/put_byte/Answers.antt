-- One byte, where it has a place.
use Rattle.buffer.proofs.Wrote.{wrote_byte}
use Rattle.buffer.proofs.put_byte.Goals as goal

pub returns : goal.returns
returns c = wrote_byte _ _ _ c.if-buf-at.false
