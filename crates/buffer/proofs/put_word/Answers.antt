-- `buffer::put_word` meets its contract: two writes, one behind the other.
use Rattle.buffer.proofs.Wrote.{◌▸◌}
use Rattle.buffer.proofs.put_word.Goals as goal

pub returns : goal.returns
returns c = c.put_byte-next.ensures ▸ c.put_text.ensures
