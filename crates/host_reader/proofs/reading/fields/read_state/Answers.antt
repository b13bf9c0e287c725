-- `host_reader::reading::fields::read_state` meets its contract: status and warning at their places, and the code's lists of words
-- are the rule's.
use Rattle.std.proofs.Common.{rules}
use Rattle.laws.specs.Text.{text}
use Rattle.words.specs.Cutting.{cut, is_space, no_space, grow_at, words_from}
use Rattle.words.specs.Find.{index}
use Rattle.flags.specs.Flags.{warning_names}
use Rattle.host_reader.specs.Reading.{statuses, warnings}
use Rattle.host_reader.proofs.reading.fields.read_state.Goals as goal

pub returns-in_err-busy : goal.returns-in_err-busy
unfolding statuses text cut is_space no_space grow_at words_from
returns-in_err-busy c = search rules

pub returns : goal.returns
unfolding statuses warnings warning_names text cut is_space no_space grow_at words_from index
returns c = search rules

pub returns-in_err-warning : goal.returns-in_err-warning
unfolding statuses warnings warning_names text cut is_space no_space grow_at words_from index
returns-in_err-warning c = search rules
