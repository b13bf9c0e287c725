-- No command is answered with info lines but `help commands`.
-- Assumes nothing.
use mathlib.Core.Path.{◌≡◌, refl}
use mathlib.Core.Bool.{true, false}
use Rattle.laws.proofs.Bools.{clash}
use Rattle.command.specs.declared.Target.{Target}
use Rattle.command.specs.declared.AxisCommand.{AxisCommand}
use Rattle.command.specs.declared.AxisCommand.TheVariants.{Nothing, Home, Stop, Estop, MoveTo, MoveVel, Get, Set, Storepos, StoreposAt, StoreposCurrent, Warnings, WarningsClear}
use Rattle.command.specs.declared.DeviceCommand.TheVariants as Device
use Rattle.command.specs.declared.DeviceCommand.TheVariants.{ParkingState, Park, Unpark, Echo, Help}
use Rattle.command.specs.declared.Command.{Command}
use Rattle.command.specs.declared.Command.TheVariants.{OfAxes, OfDevice}
use Rattle.command.specs.Commands.{informs}

moves_inform_not : (t : Target) → informs (OfAxes (MoveTo t)) ≡ false
moves_inform_not (Target.Abs p) = refl
moves_inform_not (Target.Rel p) = refl
moves_inform_not Target.Min = refl
moves_inform_not Target.Max = refl
moves_inform_not (Target.Stored n) = refl

pub axes_inform_not : (c : AxisCommand) → informs (OfAxes c) ≡ false
axes_inform_not Nothing = refl
axes_inform_not Home = refl
axes_inform_not Stop = refl
axes_inform_not Estop = refl
axes_inform_not (MoveTo t) = moves_inform_not t
axes_inform_not (MoveVel v) = refl
axes_inform_not (Get s) = refl
axes_inform_not (Set s n) = refl
axes_inform_not (Storepos n) = refl
axes_inform_not (StoreposAt n p) = refl
axes_inform_not (StoreposCurrent n) = refl
axes_inform_not Warnings = refl
axes_inform_not WarningsClear = refl

pub only_help_informs : (c : Command) → informs c ≡ true → c ≡ OfDevice Help
only_help_informs (OfAxes a) e = clash e (axes_inform_not a)
only_help_informs (OfDevice (Device.Get s)) e = clash e refl
only_help_informs (OfDevice (Device.Set s n)) e = clash e refl
only_help_informs (OfDevice ParkingState) e = clash e refl
only_help_informs (OfDevice Park) e = clash e refl
only_help_informs (OfDevice Unpark) e = clash e refl
only_help_informs (OfDevice Echo) e = clash e refl
only_help_informs (OfDevice Help) e = refl
