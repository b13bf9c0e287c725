-- `host_writer::names::put_message` meets its contract. Invariant: what is written, with the words that are left, is the whole.
use Rattle.words.proofs.Cut.{word_none, word_some}
use Rattle.reply.proofs.Writing.{writing_first, writing_more, writing_end}
use Rattle.host_writer.proofs.RowWalks.{no_words, fewer}
use Rattle.host_writer.proofs.names.put_message.Goals as goal

pub loop-place-init : goal.loop-place-init
loop-place-init c = writing_first _ _ _

pub returns-then-w-eq0 : goal.returns-then-w-eq0
returns-then-w-eq0 c = writing_end (rw (word_none _ _ c.first_word-w.ensures c.if-w-eq0.true) at c.loop-place.invariant)

pub loop-place-preserved : goal.loop-place-preserved
loop-place-preserved c =
    writing_more (rw (word_some _ _ _ c.first_word-w.ensures c.past_word-place.ensures.others c.if-w-eq0.false) at c.loop-place.invariant) c.put_word-next.ensures

pub returns : goal.returns
returns c = writing_end (rw (no_words _ c.loop-place.place c.loop-place-test.false) at c.loop-place.invariant)

pub loop-place-smaller : goal.loop-place-smaller
loop-place-smaller c =
    fewer (word_some _ _ _ c.first_word-w.ensures c.past_word-place.ensures.others c.if-w-eq0.false)
