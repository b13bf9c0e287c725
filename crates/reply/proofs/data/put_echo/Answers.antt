-- `reply::data::put_echo` meets its contract: a zero where there is no word, or the first word and then the others.
use Rattle.laws.specs.Text.{text}
use Rattle.words.proofs.Cut.{word_empty, word_full}
use Rattle.buffer.proofs.Wrote.{◌▸◌}
use Rattle.reply.proofs.Lists.{echo_none, echo_some}
use Rattle.reply.proofs.data.put_echo.Goals as goal

pub returns-then-start-end : goal.returns-then-start-end
unfolding text
returns-then-start-end c =
    rw (echo_none _ (word_empty _ _ c.word_at-start.ensures.found c.if-start-end.true)) c.put_byte.ensures

pub returns : goal.returns
returns c =
    rw (echo_some _ (word_full _ _ c.word_at-start.ensures.found c.if-start-end.false)) (c.put_text-next.ensures ▸ c.put_more.ensures)
