-- `buffer::put_numbered` meets its contract: two writes, one behind the other.
use Rattle.buffer.proofs.Wrote.{◌▸◌}
use Rattle.buffer.proofs.put_numbered.Goals as goal

pub returns : goal.returns
returns c = c.put_text-next.ensures ▸ c.put_signed.ensures
