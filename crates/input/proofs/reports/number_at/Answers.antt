-- The word that `word_at` finds, read as a number.
use mathlib.Core.Path.{ap, ◌∙◌}
use Rattle.numbers.specs.Reading.{read_number}
use Rattle.std.specs.Result.{result_ok}
use Rattle.words.proofs.Cut.{word_head, word_tail}
use Rattle.input.proofs.reports.number_at.Goals as goal

pub returns : goal.returns
returns c =
    let at = c.args.at in
    record {
      number = c.ok.ensures.value ∙ ap result_ok (c.read_number.ensures ∙ ap read_number (word_head _ at c.word_at-start.ensures.found));
      others = word_tail _ at c.word_at-start.ensures.found;
    }
