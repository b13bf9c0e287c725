-- When the record of one axis is good.
-- "all settings are in range, stored positions, targets and speeds under way lie within ±1000000000"
use Rattle.std.specs.Prelude.{Bool, true, ◌&&◌}
use Rattle.laws.specs.Lists.{all}
use Rattle.units.specs.Units.{within, bound}
use Rattle.command.specs.Settings.{axis_settings}
use Rattle.settings.specs.Types.{Position}
use Rattle.axis.specs.declared.Motion.{Motion}
use Rattle.axis.specs.declared.Motion.TheVariants.{Idle, Homing, To, At, Stopping}
use Rattle.axis.specs.declared.Axis.{Axis}
use Rattle.settings.specs.Settings.{in_range}

abbrev pub good_position : Position → Bool
good_position p = within bound p.0

abbrev pub good_motion : Motion → Bool
good_motion Idle = true
good_motion Homing = true
good_motion (To p) = within bound p.0
good_motion (At v) = within bound v.0
good_motion Stopping = true

unfoldable pub good_axis : Axis → Bool
good_axis a = all (in_range a.settings) axis_settings && (all good_position a.stored && good_motion a.motion)
