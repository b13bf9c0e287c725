-- `reply::put_alert` meets its contract: front and state.
use Rattle.buffer.proofs.Wrote.{◌▸◌}
use Rattle.reply.proofs.Texts.{alert_is}
use Rattle.reply.proofs.put_alert.Goals as goal

pub returns : goal.returns
returns c =
    rw (← alert_is _) (c.put_front-front.ensures ▸ c.put_state.ensures)
