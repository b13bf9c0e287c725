-- The part of the content that `word_at` finds.
use Rattle.words.proofs.Cut.{word_head}
use Rattle.words.proofs.first_word.Goals as goal

pub returns : goal.returns
returns c = word_head _ c.args.at c.word_at-start.ensures.found
