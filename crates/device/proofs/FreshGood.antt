-- A fresh record is good, wherever it may be asked for; and so is the record beside a 21.
-- Assumes nothing.
use mathlib.Core.Path.{◌≡◌, refl}
use mathlib.Core.Bool.{Bool, true, false, cond, ◌&&◌}
use Prim.Native.Nat.{ℕ, zero, suc}
use lib.IntN.{pos}
use lib.ListN.{take, replicate}
use Rattle.laws.specs.Lists.{fold, all}
use Rattle.laws.proofs.Bools.{and_left, and_right, and_both}
use Rattle.units.specs.Units.{number}
use Rattle.command.specs.Settings.{axis_settings, device_settings}
use Rattle.settings.specs.Record.{fresh_settings}
use Rattle.settings.specs.Types.{Number, CommAddress, DeviceId, SystemAxisCount}
use Rattle.settings.specs.Settings.{device_allows}
use Rattle.axis.specs.Record.{fresh_axis}
use Rattle.axis.specs.Good.{good_axis}
use Rattle.device.specs.declared.Outcome.{Outcome}
use Rattle.device.specs.Record.{many, axes_of, fresh}
use Rattle.device.specs.Good.{good, may_be_fresh, ask_fresh}

pub fresh_axis_good : good_axis fresh_axis ≡ true
unfolding good_axis fresh_axis fresh_settings fold axis_settings
fresh_axis_good = refl

all_copies : {X : Type 0} (f : X → Bool) (x : X) → f x ≡ true → (n m : ℕ) → all f (take n (replicate m x)) ≡ true
unfolding fold
all_copies f x h zero m = refl
all_copies f x h (suc n) zero = refl
all_copies f x h (suc n) (suc m) = and_both (f x) (all f (take n (replicate m x))) h (all_copies f x h n m)

choose : (b : Bool) (x y : Outcome) → (b ≡ true → good x.next ≡ true) → good y.next ≡ true → good (cond b x y).next ≡ true
choose true x y h g = h refl
choose false x y h g = g

module _ (address : Number) (count : ℕ) (id : Number) where
  new_good : may_be_fresh address count id ≡ true → good (fresh address count id) ≡ true
  unfolding may_be_fresh good fresh fold device_settings axes_of many
  new_good h =
      let a = device_allows CommAddress address in
      let n = device_allows SystemAxisCount (number (pos count)) in
      let i = device_allows DeviceId id in
      simp (
        and_left a (n && i) h,
        and_left n i (and_right a (n && i) h),
        and_right n i (and_right a (n && i) h),
        all_copies good_axis fresh_axis fresh_axis_good count 4,
      )

  other_good : good (fresh (number (pos 1)) 1 (number (pos 0))) ≡ true
  unfolding good fresh fold device_settings axes_of many
  other_good = simp fresh_axis_good

  pub fresh_good : good (ask_fresh address count id).next ≡ true
  unfolding ask_fresh
  fresh_good = choose (may_be_fresh address count id) _ _ new_good other_good
