-- The end of what `word_at` finds: the words from there on are the others.
use Rattle.words.proofs.Cut.{word_past, word_tail}
use Rattle.words.proofs.past_word.Goals as goal

pub returns : goal.returns
returns c = record { place = word_past _ _ c.word_at.ensures.found; others = word_tail _ c.args.at c.word_at.ensures.found }
