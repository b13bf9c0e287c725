-- Invariant: so many words are passed.
use Rattle.words.proofs.Cut.{nth_more}
use Rattle.words.proofs.nth_word.Goals as goal

pub loop-preserved : goal.loop-preserved
loop-preserved c = nth_more _ c.loop.counter _ _ c.past_word-place.ensures.others c.loop.invariant
