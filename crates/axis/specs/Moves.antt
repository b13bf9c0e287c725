-- What a command makes of an axis: a move, a stored position, cleared warnings.
-- An axis that may not do it stays as it is.
use Rattle.std.specs.Prelude.{cond, ◌-◌, set}
use Rattle.units.specs.Units.{position, place}
use Rattle.settings.specs.Types.{Position, Number, Target}
use Rattle.axis.specs.declared.Motion.TheVariants.{To}
use Rattle.axis.specs.declared.Axis.{Axis}
use Rattle.axis.specs.Record.{with_motion, with_warnings, with_stored}
use Rattle.axis.specs.Travel.{is_place, target, may_move_to}
use Rattle.axis.specs.Warnings.{only_fd}

-- an axis goes to its target, and nowhere else
unfoldable pub moved : Target → Axis → Axis
moved t a = cond (may_move_to t a) (with_motion (To (position (target t a))) a) a

-- there are sixteen stored positions, and no others
unfoldable pub store : Number → Position → Axis → Axis
store n p a = cond (is_place n) (with_stored (set a.stored (place n.0 - 1) p) a) a

abbrev pub cleared : Axis → Axis
cleared a = with_warnings (only_fd a.warnings) a
