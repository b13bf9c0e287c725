-- `host_reader::reading::reply_in` meets its contract: each field stands at its place.
use Rattle.std.proofs.Common.{rules}
use Rattle.laws.specs.Text.{text}
use Rattle.words.specs.Cutting.{cut, is_space, no_space, grow_at, words_from}
use Rattle.host_reader.specs.Reading.{verdicts}
use Rattle.host_reader.proofs.reading.reply_in.Goals as goal

pub returns-in_err-ok : goal.returns-in_err-ok
unfolding verdicts text cut is_space no_space grow_at words_from
returns-in_err-ok c = search rules

pub returns : goal.returns
unfolding verdicts text cut is_space no_space grow_at words_from
returns c = search rules
