-- The first of the axes that the stretch covers are changed, as many as were met.
use mathlib.Core.Path.{◌≡◌}
use Rattle.laws.specs.Lists.{change_first}
use Rattle.axis.specs.Commands.{axis_after}
use Rattle.device.proofs.walks.change_each.Given as goal

abbrev pub invariant-loop-a : goal.invariant-loop-a
invariant-loop-a l = l.a-items ≡ change_first (axis_after l.c) l.a-index l.initial.a-items
