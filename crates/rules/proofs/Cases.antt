-- Cases of document 01 and of the settled readings, computed from the definitions: one table under one statement.
-- Each line has a record, an axis, a command, and the verdict that is expected.
use Rattle.std.specs.Prelude.{Err}
use Rattle.laws.specs.declared.Refusal.TheVariants.{BadCommand, BadData, BadAxis, DeviceOnly, NoAccess, Parked, StatusBusy, BadReport}
use mathlib.Core.Path.{◌≡◌, refl}
use mathlib.Core.List.{List, [], ◌∷◌, map}
use Prim.Native.Nat.{ℕ}
use lib.IntN.{ℤ, pos}
use Rattle.laws.specs.Lists.{fold, change_first, change_from}
use Rattle.laws.specs.Refusals.{first_of, ACCEPTED, Verdict}
use Rattle.units.specs.Units.{minus, position, speed, number}
use Rattle.command.specs.declared.AxisCommand.TheVariants as AxisCommand
use Rattle.command.specs.declared.DeviceCommand.TheVariants as DeviceCommand
use Rattle.command.specs.declared.Command.{Command}
use Rattle.command.specs.declared.Command.TheVariants.{OfAxes, OfDevice}
use Rattle.command.specs.Settings.{axis_settings, device_settings}
use Rattle.settings.specs.Types.{Pos, MaxSpeed, DriverCurrentMax, DriverCurrentRun, DriverDir, CommAddress, CommAlert, DeviceId, Abs, Rel, Stored}
use Rattle.settings.specs.Record.{fresh_settings}
use Rattle.axis.specs.Record.{fresh_axis, stopped}
use Rattle.axis.specs.Good.{good_axis}
use Rattle.axis.specs.Travel.{stored, may_move_to, may_run_at, may_store}
use Rattle.axis.specs.Moves.{moved, store}
use Rattle.axis.specs.Reports.{report_of}
use Rattle.axis.specs.RaisedWarnings.{raise, raised}
use Rattle.device.specs.declared.Device.{Device}
use Rattle.device.specs.Record.{many, axes_of, on_axes, fresh}
use Rattle.device.specs.Good.{good}
use Rattle.rules.specs.Refusals.{bad_axis, device_only, no_access, parked, status_busy, bad_data, refusal}
use Rattle.rules.specs.Effects.{next, obey}
use Rattle.rules.specs.Reports.{is_axis, bad_report, report_refusal, report}

-- "fresh, address 1, two axes"; "Homed": both axes, at 0; axis 2 homing; parked; and a record with no axes
unfoldable new : Device
new = fresh (number (pos 1)) 2 (number (pos 100))

unfoldable bare : Device
bare = fresh (number (pos 1)) 0 (number (pos 100))

unfoldable told : Device → ℕ → ℕ → ℤ → Device
told d axis kind p = (report d (number (pos axis)) (report_of (number (pos kind)) (number p))).next

unfoldable homed : Device
homed = told (told (obey new 0 (OfAxes AxisCommand.Home)).next 1 3 (pos 0)) 2 3 (pos 0)

unfoldable homing : Device
homing = (obey new 2 (OfAxes AxisCommand.Home)).next

unfoldable in_park : Device
in_park = (obey new 0 (OfDevice DeviceCommand.Park)).next

record Case : Type 0 where
  device : Device
  axis : ℕ
  command : Command
  verdict : Verdict

infix 20 ◌on◌asks◌gives◌
abbrev ◌on◌asks◌gives◌ : Device → ℕ → Command → Verdict → Case
d on k asks c gives v = record { device = d; axis = k; command = c; verdict = v }

unfoldable cases : List Case
cases =
    (new on 0 asks OfAxes AxisCommand.Nothing gives ACCEPTED)
    ∷ (new on 7 asks OfAxes AxisCommand.Home gives Err BadAxis)
    ∷ (new on 1 asks OfDevice (DeviceCommand.Get CommAlert) gives Err DeviceOnly)
    ∷ (new on 7 asks OfDevice (DeviceCommand.Get CommAlert) gives Err BadAxis)
    ∷ (new on 0 asks OfAxes (AxisCommand.Set DriverDir (number (pos 1))) gives Err NoAccess)
    ∷ (new on 0 asks OfDevice (DeviceCommand.Set CommAddress (number (pos 5))) gives ACCEPTED)
    ∷ (new on 0 asks OfDevice (DeviceCommand.Set CommAddress (number (pos 100))) gives Err BadData)
    ∷ (bare on 0 asks OfDevice (DeviceCommand.Set CommAddress (number (pos 100))) gives Err BadData)
    ∷ (new on 7 asks OfDevice (DeviceCommand.Set DeviceId (number (pos 5))) gives Err BadCommand)
    ∷ (new on 7 asks OfAxes (AxisCommand.Set DriverCurrentMax (number (pos 5))) gives Err BadCommand)
    ∷ (new on 0 asks OfAxes (AxisCommand.Set Pos (number (pos 2147483647))) gives Err BadData)
    ∷ (new on 0 asks OfAxes (AxisCommand.MoveTo (Rel (position (pos 10000)))) gives Err BadData)
    ∷ (homed on 0 asks OfAxes (AxisCommand.MoveTo (Abs (position (pos 305381)))) gives ACCEPTED)
    ∷ (homed on 0 asks OfAxes (AxisCommand.MoveTo (Abs (position (pos 305382)))) gives Err BadData)
    ∷ (homed on 0 asks OfAxes (AxisCommand.MoveTo (Abs (position (pos 0)))) gives ACCEPTED)
    ∷ (homed on 0 asks OfAxes (AxisCommand.MoveTo (Rel (position (minus 1)))) gives Err BadData)
    ∷ (homed on 1 asks OfAxes (AxisCommand.MoveTo (Rel (position (pos 2147483647)))) gives Err BadData)
    ∷ (homed on 1 asks OfAxes (AxisCommand.MoveTo (Stored (number (pos 17)))) gives Err BadData)
    ∷ (homed on 7 asks OfAxes (AxisCommand.MoveTo (Stored (number (pos 17)))) gives Err BadAxis)
    ∷ (homed on 1 asks OfAxes (AxisCommand.MoveVel (speed (minus 153600))) gives ACCEPTED)
    ∷ (homed on 1 asks OfAxes (AxisCommand.MoveVel (speed (pos 153601))) gives Err BadData)
    ∷ (homed on 2 asks OfAxes (AxisCommand.Set DriverCurrentRun (number (pos 140))) gives ACCEPTED)
    ∷ (homed on 2 asks OfAxes (AxisCommand.Set DriverCurrentRun (number (pos 141))) gives Err BadData)
    ∷ (homed on 1 asks OfAxes (AxisCommand.StoreposAt (number (pos 16)) (position (pos 305382))) gives Err BadData)
    ∷ (homing on 0 asks OfAxes (AxisCommand.Set Pos (number (pos 2147483647))) gives Err StatusBusy)
    ∷ (homing on 1 asks OfAxes (AxisCommand.Set Pos (number (pos 5))) gives ACCEPTED)
    ∷ (homing on 0 asks OfDevice DeviceCommand.Park gives Err StatusBusy)
    ∷ (in_park on 0 asks OfAxes AxisCommand.Stop gives Err Parked)
    ∷ (in_park on 0 asks OfAxes AxisCommand.Home gives ACCEPTED)
    ∷ (in_park on 2 asks OfAxes AxisCommand.Home gives ACCEPTED)
    ∷ (in_park on 7 asks OfAxes AxisCommand.Home gives Err BadAxis)
    ∷ ((obey in_park 2 (OfAxes AxisCommand.Home)).next on 0 asks OfAxes AxisCommand.Stop gives ACCEPTED)
    ∷ ((obey in_park 7 (OfAxes AxisCommand.Home)).next on 0 asks OfAxes AxisCommand.Stop gives Err Parked)
    ∷ (in_park on 0 asks OfAxes (AxisCommand.Set MaxSpeed (number (pos 5))) gives ACCEPTED)
    ∷ (in_park on 0 asks OfDevice DeviceCommand.Unpark gives ACCEPTED)
    ∷ []

all_cases : map (λ (c : Case). (obey c.device c.axis c.command).verdict) cases ≡ map (λ (c : Case). c.verdict) cases
unfolding cases new bare told homed homing in_park obey refusal first_of bad_axis device_only no_access parked status_busy bad_data next on_axes
    axes_of
    many fold change_from change_first may_move_to may_run_at may_store stored moved store stopped fresh fresh_axis fresh_settings good good_axis
    axis_settings device_settings report report_of report_refusal bad_report is_axis raise raised
all_cases = refl

-- and motor reports: a record, an axis, a kind, the last number, and the verdict that is expected
record Reported : Type 0 where
  device : Device
  axis : ℕ
  kind : ℕ
  last : ℤ
  verdict : Verdict

infix 20 ◌on◌reports◌with◌gives◌
abbrev ◌on◌reports◌with◌gives◌ : Device → ℕ → ℕ → ℤ → Verdict → Reported
d on k reports q with p gives v = record { device = d; axis = k; kind = q; last = p; verdict = v }

unfoldable motor_reports : List Reported
motor_reports =
    (new on 1 reports 1 with pos 0 gives Err BadReport)
    ∷ (new on 1 reports 3 with pos 0 gives Err BadReport)
    ∷ (new on 1 reports 4 with pos 7 gives ACCEPTED)
    ∷ (new on 1 reports 4 with pos 8 gives Err BadReport)
    ∷ (new on 1 reports 5 with pos 0 gives ACCEPTED)
    ∷ (new on 1 reports 6 with pos 0 gives Err BadReport)
    ∷ (new on 0 reports 5 with pos 0 gives Err BadReport)
    ∷ (new on 3 reports 5 with pos 0 gives Err BadReport)
    ∷ (homing on 2 reports 1 with pos 1000000000 gives ACCEPTED)
    ∷ (homing on 2 reports 1 with pos 1000000001 gives Err BadReport)
    ∷ (homing on 2 reports 3 with minus 5 gives ACCEPTED)
    ∷ ((obey homing 2 (OfAxes AxisCommand.Stop)).next on 2 reports 3 with pos 0 gives Err BadReport)
    ∷ ((obey homing 2 (OfAxes AxisCommand.Stop)).next on 2 reports 2 with pos 0 gives ACCEPTED)
    ∷ []

abbrev answer : Reported → Verdict
answer c = (report c.device (number (pos c.axis)) (report_of (number (pos c.kind)) (number c.last))).verdict

all_reports : map answer motor_reports ≡ map (λ (c : Reported). c.verdict) motor_reports
unfolding motor_reports new homing obey refusal first_of bad_axis device_only no_access parked status_busy bad_data next on_axes axes_of many fold
    change_from change_first stopped fresh fresh_axis fresh_settings good good_axis axis_settings device_settings report report_of report_refusal
    bad_report is_axis raise raised
all_reports = refl
