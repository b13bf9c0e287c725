-- A part begins and ends inside the input, and is not empty.
use Rattle.std.proofs.Common.{arith}
use Rattle.input.proofs.Parted.{part_past, part_inside}
use Rattle.cable.proofs.answer_each.Goals as goal

pub slice_bounds-answer-end : goal.slice_bounds-answer-end
slice_bounds-answer-end g c = part_inside _ _ c.loop-at-test.true c.part_end-end.ensures

pub loop-at-smaller : goal.loop-at-smaller
loop-at-smaller g c = omega (arith, part_past _ _ c.loop-at-test.true c.part_end-end.ensures)
