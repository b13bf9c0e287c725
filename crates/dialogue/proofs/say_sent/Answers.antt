-- A message begins and ends inside what was sent, and is not empty.
use Rattle.std.proofs.Common.{arith}
use Rattle.input.proofs.Parted.{part_past, part_inside}
use Rattle.dialogue.proofs.say_sent.Goals as goal

pub slice_bounds-say_read-end : goal.slice_bounds-say_read-end
slice_bounds-say_read-end g c = part_inside _ _ c.loop-at-test.true c.part_end-end.ensures

pub loop-at-smaller : goal.loop-at-smaller
loop-at-smaller g c = omega (arith, part_past _ _ c.loop-at-test.true c.part_end-end.ensures)
