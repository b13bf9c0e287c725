-- `reply::put_info` meets its contract: front and text.
use Rattle.buffer.proofs.Wrote.{◌▸◌}
use Rattle.reply.proofs.Texts.{info_is}
use Rattle.reply.proofs.put_info.Goals as goal

pub returns : goal.returns
returns c =
    rw (← info_is _ _ _) (c.put_front-front.ensures ▸ c.put_help.ensures)
