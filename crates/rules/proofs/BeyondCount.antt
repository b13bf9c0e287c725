-- Places beyond the axis count never change, under any command or report, over every record.
-- Assumes nothing.
use mathlib.Core.Logic.{⊎_elim}
use Rattle.laws.proofs.Refusals.{accepted_or}
use mathlib.Core.Path.{◌≡◌, refl, ap, ◌∙◌}
use mathlib.Core.Bool.{false}
use mathlib.Core.List.{List}
use Prim.Native.Nat.{ℕ, ◌+◌, ◌-◌, ◌≤◌}
use native.Mathlib.Decide.{ℕ_discrete}
use native.Mathlib.Omega.{arith}
use lib.Dec.{leb}
use lib.ListN.{length, get_or}
use borrow.Author.Tests.{ltb-false, leb-true, eq-eqb, ne_eqb}
use Rattle.laws.proofs.Bools.{and_right}
use Rattle.laws.proofs.Walks.{change_beyond, length_change}
use Rattle.units.specs.Units.{place}
use Rattle.command.specs.declared.DeviceCommand.{DeviceCommand}
use Rattle.command.specs.declared.DeviceCommand.TheVariants.{Get, Set, ParkingState, Park, Unpark, Echo, Help}
use Rattle.command.specs.declared.Command.{Command}
use Rattle.command.specs.declared.Command.TheVariants.{OfAxes, OfDevice}
use Rattle.settings.specs.Types.{Number, CommAddress, CommAlert, CommChecksum, SystemAccess, DeviceId, SystemAxisCount}
use Rattle.axis.specs.declared.Axis.{Axis}
use Rattle.axis.specs.declared.reports.Report.{Report}
use Rattle.axis.specs.Record.{fresh_axis}
use Rattle.axis.specs.Reports.{reported}
use Rattle.axis.specs.Commands.{axis_after}
use Rattle.device.specs.declared.Device.{Device}
use Rattle.device.specs.Record.{many, on_axes}
use Rattle.rules.specs.Refusals.{bad_axis}
use Rattle.rules.specs.Effects.{device_after, next, obey}
use Rattle.rules.specs.Reports.{is_axis, report}
use Rattle.rules.proofs.Accepted.{within_count, an_axis}
use Rattle.rules.proofs.RefusalKeeps.{refusal_keeps, accepted_next, report_keeps, report_next}

-- the axis at a place, from 0
abbrev pub at : Device → ℕ → Axis
at d i = get_or d.axes i fresh_axis

-- an axis number up to the count means places below the count
below : (d : Device) (k : ℕ) → k ≤ d.count → k - 1 + many d k ≤ d.count
unfolding many
below d k h =
    elim (ℕ_discrete k 0) [ yes e ↦ rw (eq-eqb k 0 e) (omega arith) | no n ↦ rw (ne_eqb k 0 n) (omega arith) ]

pub beyond_axes : (g : Axis → Axis) (d : Device) (k i : ℕ) → k ≤ d.count → d.count ≤ i → at (on_axes g k d) i ≡ at d i
unfolding on_axes
beyond_axes g d k i h l = change_beyond g fresh_axis (k - 1) (many d k) i d.axes (omega (arith, below d k h))

-- a command of the device touches no axis, and leaves their count
pub after_keeps : (c : DeviceCommand) (d : Device) → ((device_after c d).axes ≡ d.axes) × ((device_after c d).count ≡ d.count)
after_keeps (Get s) d = (refl, refl)
after_keeps (Set CommAddress n) d = (refl, refl)
after_keeps (Set CommAlert n) d = (refl, refl)
after_keeps (Set CommChecksum n) d = (refl, refl)
after_keeps (Set SystemAccess n) d = (refl, refl)
after_keeps (Set DeviceId n) d = (refl, refl)
after_keeps (Set SystemAxisCount n) d = (refl, refl)
after_keeps ParkingState d = (refl, refl)
after_keeps Park d = (refl, refl)
after_keeps Unpark d = (refl, refl)
after_keeps Echo d = (refl, refl)
after_keeps Help d = (refl, refl)

beyond_next : (d : Device) (k : ℕ) (c : Command) (i : ℕ) → bad_axis d k ≡ false → d.count ≤ i → at (next d k c) i ≡ at d i
unfolding next bad_axis on_axes many
beyond_next d k (OfAxes c) i b l = beyond_axes (axis_after c) d k i (ltb-false d.count k b) l
beyond_next d k (OfDevice c) i b l = ap (λ (x : List Axis). get_or x i fresh_axis) (after_keeps c d).0

pub beyond_count : (d : Device) (k : ℕ) (c : Command) (i : ℕ) → d.count ≤ i → at (obey d k c).next i ≡ at d i
unfolding obey
beyond_count d k c i l =
    ⊎_elim (λ e. ap (λ (x : Device). at x i) (accepted_next d k c e) ∙ beyond_next d k c i (within_count d k c e) l) (λ h. ap (λ (x : Device). at x i) (refusal_keeps d k c h)) (accepted_or (obey d k c).verdict)

pub report_beyond : (d : Device) (axis : Number) (r : Report) (i : ℕ) → d.count ≤ i → at (report d axis r).next i ≡ at d i
unfolding report is_axis
report_beyond d axis r i l =
    let k = place axis.0 in
    ⊎_elim (λ e. ap (λ (x : Device). at x i) (report_next d axis r e)
    ∙ beyond_axes (reported r) d k i (leb-true k d.count (and_right (leb 1 k) (leb k d.count) (an_axis d k r e))) l) (λ h. ap (λ (x : Device). at x i) (report_keeps d axis r h)) (accepted_or (report d axis r).verdict)

-- and there are as many places after it as before
length_next : (d : Device) (k : ℕ) (c : Command) → length (next d k c).axes ≡ length d.axes
unfolding next on_axes many
length_next d k (OfAxes c) = length_change (axis_after c) (k - 1) (many d k) d.axes
length_next d k (OfDevice c) = ap length (after_keeps c d).0

pub places_stay : (d : Device) (k : ℕ) (c : Command) → length (obey d k c).next.axes ≡ length d.axes
places_stay d k c =
    ⊎_elim (λ e. ap (λ (x : Device). length x.axes) (accepted_next d k c e) ∙ length_next d k c) (λ h. ap (λ (x : Device). length x.axes) (refusal_keeps d k c h)) (accepted_or (obey d k c).verdict)
