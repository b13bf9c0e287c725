-- Each part takes some of what is left of the input.
use Rattle.std.proofs.Common.{length, ◌-◌}
use Rattle.cable.proofs.answer_each.Given as goal

abbrev pub decreases-loop-at : goal.decreases-loop-at
decreases-loop-at g l = length l.input - l.at
