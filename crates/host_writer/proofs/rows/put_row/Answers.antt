-- `host_writer::rows::put_row` meets its contract. Invariant: what is written, with what is left of the row, is the whole.
use Rattle.std.proofs.Common.{rules}
use Rattle.words.proofs.Cut.{word_none, word_some}
use Rattle.reply.proofs.Writing.{writing_first}
use Rattle.host_writer.proofs.RowWalks.{no_words, fewer, walk_none, walk_more}
use Rattle.host_writer.proofs.rows.put_row.Goals as goal

pub loop-place-init : goal.loop-place-init
loop-place-init c = writing_first _ _ _

pub returns-then-is_empty : goal.returns-then-is_empty
returns-then-is_empty c =
    walk_none _ _ c.loop-place.invariant (word_none _ _ c.first_word-w.ensures (search rules))

pub loop-place-preserved : goal.loop-place-preserved
loop-place-preserved c =
    let is = word_some _ _ _ c.first_word-w.ensures c.past_word-place.ensures.others (search rules) in
    walk_more _ _ c.loop-place.invariant is c.put_place-next.ensures

pub returns : goal.returns
returns c = walk_none _ _ c.loop-place.invariant (no_words _ c.loop-place.place c.loop-place-test.false)

pub loop-place-smaller : goal.loop-place-smaller
loop-place-smaller c =
    fewer (word_some _ _ _ c.first_word-w.ensures c.past_word-place.ensures.others (search rules))
