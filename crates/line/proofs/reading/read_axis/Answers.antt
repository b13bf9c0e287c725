-- The first word behind the address is the axis, or the command begins with it.
use mathlib.Core.Path.{refl}
use Prim.Native.Nat.{◌≤◌}
use native.Mathlib.Omega.{arith}
use Rattle.numbers.proofs.Value.{told_some, told_none}
use Rattle.line.specs.Opening.{digit_at}
use Rattle.line.proofs.Steps.{axis_there, with_axis, without_axis}
use Rattle.line.proofs.reading.read_axis.Goals as goal
use Rattle.line.proofs.reading.read_axis.Goals.{in_default-via-in-Some+else-d-lt10, in_default-via-in_default}

pub overflow_add-i : goal.overflow_add-i
overflow_add-i c = omega (arith, axis_there _ _ (told_some _ c.in-Some.ensures).0 c.if-d-lt10.true)

pub returns-in-Some : goal.returns-in-Some
returns-in-Some c =
    with_axis _ _ c.start_of-i.ensures _ (told_some _ c.in-Some.ensures).0 c.if-d-lt10.true c.addressed.ensures

pub returns-in_default : goal.returns-in_default
returns-in_default c =
    let past : 10 ≤ digit_at c.args.s.now c.start_of-i.result =
    elim c.in_default.branch [
      | in_default-via-in-Some+else-d-lt10 w ↦ omega (arith, (told_some _ w.in-Some.ensures).0, w.if-d-lt10.false)
      | in_default-via-in_default w ↦ omega (arith, told_none _ w.in_default.ensures)
    ]
    in
    without_axis _ _ c.start_of-i.ensures _ refl past c.addressed-in_default.ensures
