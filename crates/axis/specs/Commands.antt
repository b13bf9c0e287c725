-- What each command of the scope "axis" asks of an axis that it concerns, what it makes of such an axis, and whether it unparks.
-- One line a command. What is constant of it, as its access, is in the crate `command`.
use Rattle.std.specs.Prelude.{Bool, true, false}
use Rattle.command.specs.declared.AxisCommand.{AxisCommand}
use Rattle.command.specs.declared.AxisCommand.TheVariants.{Nothing, Home, Stop, Estop, MoveTo, MoveVel, Get, Set, Storepos, StoreposAt, StoreposCurrent, Warnings, WarningsClear}
use Rattle.settings.specs.Settings.{allows, put}
use Rattle.axis.specs.declared.Motion.TheVariants.{Idle, Homing, At}
use Rattle.axis.specs.declared.Axis.{Axis}
use Rattle.axis.specs.Record.{with_settings, with_motion, stopped}
use Rattle.axis.specs.Travel.{is_place, may_move_to, may_run_at, may_store}
use Rattle.axis.specs.Moves.{moved, store, cleared}

-- "an all-axes command is accepted only if each axis permits it": BADDATA is for "value, target, reference or range"
abbrev pub permits : AxisCommand → Axis → Bool
permits Nothing a = true
permits Home a = true
permits Stop a = true
permits Estop a = true
permits (MoveTo t) a = may_move_to t a
permits (MoveVel v) a = may_run_at v a
permits (Get s) a = true
permits (Set s n) a = allows s n a.settings
permits (Storepos n) a = is_place n
permits (StoreposAt n p) a = may_store n p a
permits (StoreposCurrent n) a = may_store n a.settings.pos a
permits Warnings a = true
permits WarningsClear a = true

-- one axis that the command concerns: "home: homing"; "estop: idle at once"; "A move on a moving axis replaces the motion."
abbrev pub axis_after : AxisCommand → Axis → Axis
axis_after Nothing a = a
axis_after Home a = with_motion Homing a
axis_after Stop a = stopped a
axis_after Estop a = with_motion Idle a
axis_after (MoveTo t) a = moved t a
axis_after (MoveVel v) a = with_motion (At v) a
axis_after (Get s) a = a
axis_after (Set s n) a = with_settings (put s n a.settings) a
axis_after (Storepos n) a = a
axis_after (StoreposAt n p) a = store n p a
axis_after (StoreposCurrent n) a = store n a.settings.pos a
axis_after Warnings a = a
axis_after WarningsClear a = cleared a

-- the device itself. 02, order 4: "home, of any accepted scope, is accepted there and unparks"
abbrev pub unparks : AxisCommand → Bool
unparks Nothing = false
unparks Home = true
unparks Stop = false
unparks Estop = false
unparks (MoveTo t) = false
unparks (MoveVel v) = false
unparks (Get s) = false
unparks (Set s n) = false
unparks (Storepos n) = false
unparks (StoreposAt n p) = false
unparks (StoreposCurrent n) = false
unparks Warnings = false
unparks WarningsClear = false
