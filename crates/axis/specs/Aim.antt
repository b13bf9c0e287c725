-- Where a move ends, as an answer: the target if the axis may move to it, and none otherwise.
-- First without the reference, then with it.
use Rattle.std.specs.Prelude.{cond, Option, Some, None}
use Rattle.units.specs.Units.{position, ◌to◌}
use Rattle.units.specs.Reach.{reach}
use Rattle.settings.specs.Types.{Position, Target}
use Rattle.axis.specs.declared.Axis.{Axis}
use Rattle.axis.specs.Travel.{limit_min, limit_max, target, exists, may_move_to}

abbrev pub within : Target → Axis → Option Position
within t a = cond (exists t) (reach (limit_min a to limit_max a) (target t a)) None

unfoldable pub aim : Target → Axis → Option Position
aim t a = cond (may_move_to t a) (Some (position (target t a))) None
