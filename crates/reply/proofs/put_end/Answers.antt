-- `reply::put_end` meets its contract: the checksum, where it is wanted, and the footer.
use Rattle.laws.specs.Text.{text}
use Rattle.buffer.proofs.Wrote.{◌▸◌}
use Rattle.reply.specs.Reply.{ending}
use Rattle.reply.proofs.put_end.Goals as goal

pub returns : goal.returns
unfolding ending text
returns c = c.put_sum-end.ensures ▸ c.put_text.ensures
