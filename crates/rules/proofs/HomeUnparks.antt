-- An accepted home leaves the device unparked and the axes concerned homing, and nothing else changed; and it is not refused as PARKED.
-- Over every record; that an axis above the count is all that it is refused for, over every good record.
use mathlib.Core.Path.{◌≡◌, refl}
use mathlib.Core.Bool.{true, false}
use mathlib.Core.List.{[], ◌∷◌}
use Prim.Native.Nat.{ℕ}
use Rattle.laws.specs.declared.Refusal.TheVariants.{BadAxis, NoAccess}
use Rattle.laws.specs.Refusals.{◌when◌, first_of, ACCEPTED}
use Rattle.laws.proofs.Bools.{and_false}
use Rattle.laws.proofs.Walks.{all_alike}
use Rattle.command.specs.declared.AxisCommand.TheVariants.{Home}
use Rattle.command.specs.declared.Command.TheVariants.{OfAxes}
use Rattle.command.specs.Commands.{demands}
use Rattle.axis.specs.declared.Motion.TheVariants.{Homing}
use Rattle.axis.specs.Record.{with_motion}
use Rattle.axis.specs.Commands.{permits}
use Rattle.device.specs.declared.Device.{Device}
use Rattle.device.specs.Record.{with_parked, axes_of, on_axes}
use Rattle.device.specs.Good.{good}
use Rattle.rules.specs.Refusals.{bad_axis, device_only, no_access, parked, status_busy, bad_data, refusal}
use Rattle.rules.specs.Effects.{next, obey}
use Rattle.rules.proofs.OutsideRefused.{enough_access}
use Rattle.rules.proofs.RefusalKeeps.{accepted_next}

-- the device unparked, each axis that k means homing, and all else as it is
abbrev pub homing : ℕ → Device → Device
homing k d = on_axes (with_motion Homing) k (with_parked false d)

module _ (d : Device) (k : ℕ) where
  pub home_unparks : (obey d k (OfAxes Home)).verdict ≡ ACCEPTED → (obey d k (OfAxes Home)).next ≡ homing k d
  unfolding next
  home_unparks e = accepted_next d k (OfAxes Home) e

  -- the rows of the table that home can meet: "PARKED no longer given for home"
  pub home_meets : (obey d k (OfAxes Home)).verdict
      ≡ first_of (BadAxis when bad_axis d k ∷ NoAccess when no_access d (demands (OfAxes Home)) ∷ [])
  unfolding obey refusal first_of device_only parked status_busy bad_data
  home_meets = rw (and_false d.parked, all_alike (permits Home) (λ a. refl) (axes_of d k)) refl

  -- a good record has the access that it takes: parked or not, it is accepted for each axis that there is
  pub home_taken : good d ≡ true → bad_axis d k ≡ false → (obey d k (OfAxes Home)).verdict ≡ ACCEPTED
  unfolding first_of no_access
  home_taken g h = rw (home_meets, h, enough_access d g) refl
