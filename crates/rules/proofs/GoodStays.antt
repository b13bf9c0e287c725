-- A good record stays good under every command and every motor report.
-- Assumes nothing else of the record.
use mathlib.Core.Logic.{⊎_elim}
use Rattle.laws.proofs.Refusals.{accepted_or}
use Rattle.laws.specs.Refusals.{ACCEPTED}
use mathlib.Core.Path.{◌≡◌, refl, ap}
use mathlib.Core.Bool.{Bool, true, false, not, ◌&&◌}
use Prim.Native.Nat.{ℕ, ◌-◌, ◌≤◌}
use native.Mathlib.Omega.{arith}
use lib.Dec.{eqb}
use lib.IntN.{pos}
use lib.Signed.{le_z}
use borrow.Author.Tests.{leb-true, eqb-true}
use Rattle.laws.specs.Lists.{fold, all, any}
use Rattle.laws.proofs.Bools.{and_left, and_right, and_both, not_true, not_false, clash}
use Rattle.laws.proofs.Walks.{nth, all_where, none_after}
use Rattle.units.specs.Units.{place}
use Rattle.command.specs.declared.AxisCommand.{AxisCommand}
use Rattle.command.specs.declared.DeviceCommand.{DeviceCommand}
use Rattle.command.specs.declared.DeviceCommand.TheVariants.{Get, Set, ParkingState, Park, Unpark, Echo, Help}
use Rattle.command.specs.declared.Command.{Command}
use Rattle.command.specs.declared.Command.TheVariants.{OfAxes, OfDevice}
use Rattle.command.specs.Commands.{demands}
use Rattle.command.specs.Settings.{device_settings}
use Rattle.settings.specs.Types.{Number, DeviceSetting, CommAddress, CommAlert, CommChecksum, SystemAccess, DeviceId, SystemAxisCount}
use Rattle.settings.specs.Settings.{device_allows}
use Rattle.axis.specs.declared.Axis.{Axis}
use Rattle.axis.specs.declared.reports.Report.{Report}
use Rattle.axis.specs.Record.{moving}
use Rattle.axis.specs.Good.{good_axis}
use Rattle.axis.specs.Reports.{takes, reported}
use Rattle.axis.proofs.GoodUnderReports.{reported_good, reported_still}
use Rattle.axis.specs.Commands.{permits, axis_after, unparks}
use Rattle.axis.proofs.GoodUnderCommands.{after_good, after_still}
use Rattle.device.specs.declared.Device.{Device}
use Rattle.device.specs.Record.{many, axes_of, on_axes, put, with_parked}
use Rattle.device.specs.Good.{in_range, good}
use Rattle.rules.specs.Refusals.{device_only, parked, status_busy, refusal}
use Rattle.rules.specs.Effects.{device_after, next, obey}
use Rattle.rules.specs.Reports.{report}
use Rattle.rules.proofs.Accepted.{in_scope, not_parked, not_busy, each_permits, device_takes_lem, taken}
use Rattle.rules.proofs.RefusalKeeps.{refusal_keeps, accepted_next, report_keeps, report_next}

-- what goodness asks, by name
pub record Good (d : Device) : Type 0 where
  pub settings : all (in_range d) device_settings ≡ true
  pub axes : all good_axis (axes_of d 0) ≡ true
  pub still : not (d.parked && any moving (axes_of d 0)) ≡ true

pub goodness : (d : Device) → good d ≡ true → Good d
unfolding good
goodness d h =
    let a = all (in_range d) device_settings in
    let b = all good_axis (axes_of d 0) in
    let c = not (d.parked && any moving (axes_of d 0)) in
    record {
      settings = and_left a (b && c) h;
      axes =
          and_left b c (and_right a (b && c) h);
      still = and_right b c (and_right a (b && c) h);
    }

pub whole : (d : Device) → Good d → good d ≡ true
unfolding good
whole d g =
    let b = all good_axis (axes_of d 0) in
    let c = not (d.parked && any moving (axes_of d 0)) in
    and_both (all (in_range d) device_settings) (b && c) g.settings (and_both b c g.axes g.still)

-- no axis is in motion on a parked device: it is not parked, or no axis moves
unparked : (p m : Bool) → p ≡ false → not (p && m) ≡ true
unparked p m e = simp e

at_rest : (p m : Bool) → m ≡ false → not (p && m) ≡ true
at_rest true m e = ap not e
at_rest false m e = refl

and_true_false : (a b : Bool) → b ≡ true → (a && b) ≡ false → a ≡ false
and_true_false true b h e = clash h e
and_true_false false b h e = refl

rests : (m : Bool) → not (true && m) ≡ true → m ≡ false
rests m e = not_true m e

module _ (d : Device) (k : ℕ) (g : Axis → Axis) (q : Axis → Bool) (permitted : all q (axes_of d k) ≡ true)
    (keeps : (a : Axis) → q a ≡ true → good_axis a ≡ true → good_axis (g a) ≡ true) where
  axes_good : Good d → all good_axis (axes_of (on_axes g k d) 0) ≡ true
  unfolding axes_of on_axes many
  axes_good h = all_where good_axis q g keeps (k - 1) (many d k) d.count d.axes permitted h.axes

  -- axes changed, each from good to good, on a device that is not parked
  pub moved_good : Good d → d.parked ≡ false → Good (on_axes g k d)
  unfolding on_axes fold device_settings
  moved_good h p = record {
    settings = h.settings;
    axes = axes_good h;
    still =
        unparked d.parked (any moving (axes_of (on_axes g k d) 0)) p;
  }

  -- or by a change that sets none in motion
  rest_after : ((a : Axis) → moving a ≡ false → moving (g a) ≡ false) → (p : Bool) → not (p && any moving (axes_of d 0)) ≡ true
      → not (p && any moving (axes_of (on_axes g k d) 0)) ≡ true
  unfolding axes_of on_axes many
  rest_after rest true h = at_rest true _ (none_after moving g rest (k - 1) (many d k) d.count d.axes (rests _ h))
  rest_after rest false h = refl

  pub still_good : Good d → ((a : Axis) → moving a ≡ false → moving (g a) ≡ false) → Good (on_axes g k d)
  unfolding on_axes fold device_settings
  still_good h rest = record { settings = h.settings; axes = axes_good h; still = rest_after rest d.parked h.still }

-- all settings of the device pass a test where each does, and each where all do
module _ (f : DeviceSetting → Bool) where
  every : f CommAddress ≡ true → f CommAlert ≡ true → f CommChecksum ≡ true → f SystemAccess ≡ true → f DeviceId ≡ true
      → f SystemAxisCount ≡ true → all f device_settings ≡ true
  unfolding fold device_settings
  every a b c e g h = simp (a, b, c, e, g, h)

  one : all f device_settings ≡ true → (s : DeviceSetting) → f s ≡ true
  unfolding device_settings
  one h CommAddress = nth f device_settings CommAddress 0 (omega arith) h
  one h CommAlert = nth f device_settings CommAddress 1 (omega arith) h
  one h CommChecksum = nth f device_settings CommAddress 2 (omega arith) h
  one h SystemAccess = nth f device_settings CommAddress 3 (omega arith) h
  one h DeviceId = nth f device_settings CommAddress 4 (omega arith) h
  one h SystemAxisCount = nth f device_settings CommAddress 5 (omega arith) h

-- "system.axiscount ... 1 to 4"
pub good_count : (d : Device) → good d ≡ true → d.count ≤ 4
good_count d h =
    leb-true d.count 4
    (and_right (le_z (pos 1) (pos d.count)) (le_z (pos d.count) (pos 4)) (one (in_range d) (goodness d h).settings SystemAxisCount))

-- a setting of the device, set within its range
module _ (n : Number) (d : Device) (h : Good d) where
  old : (x : DeviceSetting) → in_range d x ≡ true
  old = one (in_range d) h.settings

  put_good : (x : DeviceSetting) → device_allows x n ≡ true → Good (put x n d)
  unfolding axes_of many
  put_good CommAddress w =
      record {
        settings = every (in_range (put CommAddress n d)) w (old CommAlert) (old CommChecksum) (old SystemAccess) (old DeviceId)
            (old SystemAxisCount);
        axes = h.axes;
        still = h.still;
      }
  put_good CommAlert w =
      record {
        settings = every (in_range (put CommAlert n d)) (old CommAddress) w (old CommChecksum) (old SystemAccess) (old DeviceId)
            (old SystemAxisCount);
        axes = h.axes;
        still = h.still;
      }
  put_good CommChecksum w =
      record {
        settings = every (in_range (put CommChecksum n d)) (old CommAddress) (old CommAlert) w (old SystemAccess) (old DeviceId)
            (old SystemAxisCount);
        axes = h.axes;
        still = h.still;
      }
  put_good SystemAccess w =
      record {
        settings = every (in_range (put SystemAccess n d)) (old CommAddress) (old CommAlert) (old CommChecksum) w (old DeviceId)
            (old SystemAxisCount);
        axes = h.axes;
        still = h.still;
      }
  put_good DeviceId w = h
  put_good SystemAxisCount w = h

with_parked_lem : (p : Bool) (d : Device) → Good d → not (p && any moving (axes_of d 0)) ≡ true → Good (with_parked p d)
unfolding axes_of many fold device_settings
with_parked_lem p d h s = record { settings = h.settings; axes = h.axes; still = s }

-- a command of device scope is accepted for axis 0 alone
whole_device : (k : ℕ) (c : DeviceCommand) → device_only k (OfDevice c) ≡ false → k ≡ 0
unfolding device_only
whole_device k c h = eqb-true k 0 (not_false (eqb k 0) h)

module _ (d : Device) (k : ℕ) (h : Good d) where
  -- the axes after a command: none is set in motion on a device that is parked and stays so
  axes_after : (c : AxisCommand) → refusal d k (OfAxes c) ≡ ACCEPTED → (v u : Bool) → unparks c ≡ v → (demands (OfAxes c)).unparked ≡ u
      → Good (on_axes (axis_after c) k (with_parked (not v && d.parked) d))
  unfolding parked axes_of many
  axes_after c e true u w z =
      moved_good (with_parked false d) k (axis_after c) (permits c) (each_permits d k c e) (after_good c) (with_parked_lem false d h refl) refl
  axes_after c e false true w z =
      moved_good d k (axis_after c) (permits c) (each_permits d k c e) (after_good c) h
      (and_true_false d.parked (demands (OfAxes c)).unparked z (not_parked d k (OfAxes c) e))
  axes_after c e false false w z =
      still_good d k (axis_after c) (permits c) (each_permits d k c e) (after_good c) h (after_still c w z)

  -- park meets no axis in motion
  none_moving : refusal d k (OfDevice Park) ≡ ACCEPTED → any moving (axes_of d 0) ≡ false
  unfolding status_busy
  none_moving e = rw (whole_device k Park (in_scope d k (OfDevice Park) e)) at (not_busy d k (OfDevice Park) e)

  device_after_lem : (c : DeviceCommand) → refusal d k (OfDevice c) ≡ ACCEPTED → Good (device_after c d)
  device_after_lem (Get s) e = h
  device_after_lem (Set s n) e = put_good n d h s (device_takes_lem d k (Set s n) e)
  device_after_lem ParkingState e = h
  device_after_lem Park e = with_parked_lem true d h (ap not (none_moving e))
  device_after_lem Unpark e = with_parked_lem false d h refl
  device_after_lem Echo e = h
  device_after_lem Help e = h

  next_good : (c : Command) → refusal d k c ≡ ACCEPTED → Good (next d k c)
  unfolding next
  next_good (OfAxes c) e = axes_after c e (unparks c) (demands (OfAxes c)).unparked refl refl
  next_good (OfDevice c) e = device_after_lem c e

-- "a good record": under every command
pub good_stays : (d : Device) (k : ℕ) (c : Command) → good d ≡ true → good (obey d k c).next ≡ true
unfolding obey
good_stays d k c h =
    ⊎_elim (λ e. rw (accepted_next d k c e) (whole (next d k c) (next_good d k (goodness d h) c e))) (λ n. rw (refusal_keeps d k c n) h) (accepted_or (obey d k c).verdict)

-- and under every motor report
pub report_good : (d : Device) (axis : Number) (r : Report) → good d ≡ true → good (report d axis r).next ≡ true
unfolding report
report_good d axis r h =
    let k = place axis.0 in
    ⊎_elim (λ e. rw (report_next d axis r e) (whole (on_axes (reported r) k d)
    (still_good d k (reported r) (takes r) (taken d k r e) (λ a t g. reported_good a g r t) (goodness d h) (reported_still r)))) (λ n. rw (report_keeps d axis r n) h) (accepted_or (report d axis r).verdict)
