-- `reply::put_state` meets its contract: status and highest warning.
use Rattle.laws.specs.Text.{text}
use Rattle.buffer.proofs.Wrote.{◌▸◌}
use Rattle.reply.proofs.Texts.{highest_is, state_is}
use Rattle.reply.proofs.put_state.Goals as goal

pub returns : goal.returns
unfolding text
returns c =
    rw (← state_is _ _, ← highest_is _, ← c.highest.ensures, ← c.warning_name.ensures) (c.put_either-flag.ensures ▸ c.put_text.ensures)
