-- Each message takes some of what is left of what was sent.
use Rattle.std.proofs.Common.{length, ◌-◌}
use Rattle.dialogue.proofs.say_sent.Given as goal

abbrev pub decreases-loop-at : goal.decreases-loop-at
decreases-loop-at g l = length l.sent - l.at
