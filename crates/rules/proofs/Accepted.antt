-- What an accepted command has passed: every row of the table, and so the test of every axis that it concerns, or of the device.
-- Assumes nothing.
use Rattle.laws.specs.declared.Refusal.TheVariants.{BadData, BadAxis, DeviceOnly, NoAccess, Parked, StatusBusy, BadState, BadCommand, BadReport}
use mathlib.Core.Path.{◌≡◌}
use mathlib.Core.Bool.{true, false, not, ◌&&◌}
use mathlib.Core.List.{[], ◌∷◌}
use Prim.Native.Nat.{ℕ}
use Rattle.laws.specs.Lists.{all}
use Rattle.laws.specs.Refusals.{◌when◌, first_of, ACCEPTED}
use Rattle.laws.proofs.Bools.{and_left, and_right, not_false}
use Rattle.laws.proofs.Refusals.{unmet, below}
use Rattle.command.specs.declared.AxisCommand.{AxisCommand}
use Rattle.command.specs.declared.DeviceCommand.{DeviceCommand}
use Rattle.command.specs.declared.Command.{Command}
use Rattle.command.specs.declared.Command.TheVariants.{OfAxes, OfDevice}
use Rattle.command.specs.Commands.{demands}
use Rattle.axis.specs.declared.reports.Report.{Report}
use Rattle.axis.specs.Reports.{takes}
use Rattle.axis.specs.Commands.{permits}
use Rattle.device.specs.declared.Device.{Device}
use Rattle.device.specs.Record.{axes_of}
use Rattle.device.specs.Good.{good}
use Rattle.rules.specs.Refusals.{bad_axis, device_only, no_access, parked, status_busy, device_takes, bad_data, refusal}
use Rattle.rules.specs.Reports.{is_axis, bad_report, report_refusal}

module _ (d : Device) (k : ℕ) (c : Command) (e : refusal d k c ≡ ACCEPTED) where
  past_10 : first_of (BadAxis when bad_axis d k ∷ DeviceOnly when device_only k c ∷ NoAccess when no_access d (demands c) ∷ Parked when parked d (demands c)
      ∷ StatusBusy when status_busy d k (demands c) ∷ BadData when bad_data d k c ∷ []) ≡ ACCEPTED
  unfolding refusal
  past_10 = below BadCommand (demands c).barred _ e

  pub within_count : bad_axis d k ≡ false
  within_count = unmet BadAxis (bad_axis d k) _ past_10

  pub in_scope : device_only k c ≡ false
  in_scope = unmet DeviceOnly (device_only k c) _ (below BadAxis (bad_axis d k) _ past_10)

  past_14 : first_of (Parked when parked d (demands c) ∷ StatusBusy when status_busy d k (demands c) ∷ BadData when bad_data d k c ∷ []) ≡ ACCEPTED
  past_14 = below NoAccess (no_access d (demands c)) _ (below DeviceOnly (device_only k c) _ (below BadAxis (bad_axis d k) _ past_10))

  pub not_parked : parked d (demands c) ≡ false
  not_parked = unmet Parked (parked d (demands c)) _ past_14

  past_15 : first_of (StatusBusy when status_busy d k (demands c) ∷ BadData when bad_data d k c ∷ []) ≡ ACCEPTED
  past_15 = below Parked (parked d (demands c)) _ past_14

  pub not_busy : status_busy d k (demands c) ≡ false
  not_busy = unmet StatusBusy (status_busy d k (demands c)) _ past_15

  data_right : bad_data d k c ≡ false
  data_right = unmet BadData (bad_data d k c) [] (below StatusBusy (status_busy d k (demands c)) _ past_15)

-- "an all-axes command is accepted only if each axis permits it"
pub each_permits : (d : Device) (k : ℕ) (c : AxisCommand) → refusal d k (OfAxes c) ≡ ACCEPTED → all (permits c) (axes_of d k) ≡ true
unfolding bad_data
each_permits d k c e = not_false (all (permits c) (axes_of d k)) (data_right d k (OfAxes c) e)

pub device_takes_lem : (d : Device) (k : ℕ) (c : DeviceCommand) → refusal d k (OfDevice c) ≡ ACCEPTED → device_takes c ≡ true
unfolding bad_data
device_takes_lem d k c e = not_false (device_takes c) (data_right d k (OfDevice c) e)

-- an accepted report: the record is good, its axis is there, and takes it
module _ (d : Device) (k : ℕ) (r : Report) (e : report_refusal d k r ≡ ACCEPTED) where
  pub told_good : good d ≡ true
  unfolding report_refusal
  told_good = not_false (good d) (unmet BadState (not (good d)) _ e)

  reported_to : (is_axis d k && all (takes r) (axes_of d k)) ≡ true
  unfolding report_refusal bad_report
  reported_to = not_false (is_axis d k && all (takes r) (axes_of d k)) (unmet BadReport (bad_report d k r) [] (below BadState (not (good d)) _ e))

  pub an_axis : is_axis d k ≡ true
  an_axis = and_left (is_axis d k) (all (takes r) (axes_of d k)) reported_to

  pub taken : all (takes r) (axes_of d k) ≡ true
  taken = and_right (is_axis d k) (all (takes r) (axes_of d k)) reported_to
