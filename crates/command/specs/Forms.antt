-- A command as its row of the table of commands, counted from 0 for "(none)", and what it carries: the only list of all commands.
-- A new row of the table takes the next number, so that none is numbered anew.
use Rattle.std.specs.Prelude.{ℕ, pos as plus}
use Rattle.units.specs.Units.{number}
use Rattle.units.specs.declared.Number.{Number}
use Rattle.command.specs.declared.AxisSetting.TheVariants.{Pos}
use Rattle.command.specs.declared.Setting.{Setting}
use Rattle.command.specs.declared.Setting.TheVariants.{OfAxis, OfDevice}
use Rattle.command.specs.declared.Target.{Target}
use Rattle.command.specs.declared.Target.TheVariants.{Abs, Rel, Min, Max, Stored}
use Rattle.command.specs.declared.AxisCommand.{AxisCommand}
use Rattle.command.specs.declared.AxisCommand.TheVariants as Axis
use Rattle.command.specs.declared.DeviceCommand.{DeviceCommand}
use Rattle.command.specs.declared.DeviceCommand.TheVariants as Device
use Rattle.command.specs.declared.Command.{Command}
use Rattle.command.specs.declared.Command.TheVariants.{OfAxes, OfDevice as OfTheDevice}
use Rattle.command.specs.declared.forms.Form.{Form}

abbrev pub form : ℕ → Setting → Number → Number → Form
form row s n p = record { row = row; setting = s; first = n; second = p }

-- what stands where a row has no place for it
abbrev none : Setting
none = OfAxis Pos

abbrev zero : Number
zero = number (plus 0)

-- a row without a setting: with no number, with one, with two
abbrev bare : ℕ → Form
bare row = form row none zero zero

abbrev with : ℕ → Number → Form
with row n = form row none n zero

abbrev pub target_form : Target → Form
target_form (Abs p) = with 4 (number p.0)
target_form (Rel p) = with 5 (number p.0)
target_form Min = bare 7
target_form Max = bare 8
target_form (Stored n) = with 9 n

abbrev pub axis_form : AxisCommand → Form
axis_form Axis.Nothing = bare 0
axis_form Axis.Home = bare 1
axis_form Axis.Stop = bare 2
axis_form Axis.Estop = bare 3
axis_form (Axis.MoveTo t) = target_form t
axis_form (Axis.MoveVel v) = with 6 (number v.0)
axis_form (Axis.Get s) = form 10 (OfAxis s) zero zero
axis_form (Axis.Set s n) = form 11 (OfAxis s) n zero
axis_form (Axis.Storepos n) = with 12 n
axis_form (Axis.StoreposAt n p) = form 13 none n (number p.0)
axis_form (Axis.StoreposCurrent n) = with 14 n
axis_form Axis.Warnings = bare 15
axis_form Axis.WarningsClear = bare 16

abbrev pub device_form : DeviceCommand → Form
device_form (Device.Get s) = form 10 (OfDevice s) zero zero
device_form (Device.Set s n) = form 11 (OfDevice s) n zero
device_form Device.ParkingState = bare 17
device_form Device.Park = bare 18
device_form Device.Unpark = bare 19
device_form Device.Echo = bare 20
device_form Device.Help = bare 21

abbrev pub form_of : Command → Form
form_of (OfAxes c) = axis_form c
form_of (OfTheDevice c) = device_form c
