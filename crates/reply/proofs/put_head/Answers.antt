-- `reply::put_head` meets its contract: front, verdict, state and a space.
use Rattle.laws.specs.Text.{text}
use Rattle.buffer.proofs.Wrote.{◌▸◌}
use Rattle.reply.proofs.Texts.{verdict_is, head_is}
use Rattle.reply.proofs.put_head.Goals as goal

pub returns : goal.returns
unfolding text
returns c =
    rw (← head_is _, ← verdict_is _)
    (c.put_front-front.ensures ▸ c.put_either-verdict.ensures ▸ c.put_state-state.ensures ▸ c.put_byte.ensures)
