-- The form of a command, filled into its row of the table, makes that very command.
-- Assumes nothing.
use mathlib.Core.Path.{◌≡◌, refl}
use Rattle.command.specs.declared.Target.{Target}
use Rattle.command.specs.declared.AxisCommand.{AxisCommand}
use Rattle.command.specs.declared.AxisCommand.TheVariants as Axis
use Rattle.command.specs.declared.DeviceCommand.{DeviceCommand}
use Rattle.command.specs.declared.DeviceCommand.TheVariants as Device
use Rattle.command.specs.declared.Command.{Command}
use Rattle.command.specs.declared.Command.TheVariants.{OfAxes, OfDevice}
use Rattle.command.specs.declared.forms.Form.{Form}
use Rattle.command.specs.Forms.{form_of}
use Rattle.command.specs.Commands.{row_at}

abbrev pub made : Form → Command
made f = (row_at f.row).makes f.setting f.first f.second

target_made : (t : Target) → made (form_of (OfAxes (Axis.MoveTo t))) ≡ OfAxes (Axis.MoveTo t)
target_made (Target.Abs p) = refl
target_made (Target.Rel p) = refl
target_made Target.Min = refl
target_made Target.Max = refl
target_made (Target.Stored n) = refl

axis_made : (c : AxisCommand) → made (form_of (OfAxes c)) ≡ OfAxes c
axis_made Axis.Nothing = refl
axis_made Axis.Home = refl
axis_made Axis.Stop = refl
axis_made Axis.Estop = refl
axis_made (Axis.MoveTo t) = target_made t
axis_made (Axis.MoveVel v) = refl
axis_made (Axis.Get s) = refl
axis_made (Axis.Set s n) = refl
axis_made (Axis.Storepos n) = refl
axis_made (Axis.StoreposAt n p) = refl
axis_made (Axis.StoreposCurrent n) = refl
axis_made Axis.Warnings = refl
axis_made Axis.WarningsClear = refl

device_made : (c : DeviceCommand) → made (form_of (OfDevice c)) ≡ OfDevice c
device_made (Device.Get s) = refl
device_made (Device.Set s n) = refl
device_made Device.ParkingState = refl
device_made Device.Park = refl
device_made Device.Unpark = refl
device_made Device.Echo = refl
device_made Device.Help = refl

pub form_makes : (c : Command) → made (form_of c) ≡ c
form_makes (OfAxes c) = axis_made c
form_makes (OfDevice c) = device_made c
