-- A good axis stays good: under a new motion, a move, a stored position, a stop, a setting and a warning.
-- Assumes nothing.
use mathlib.Core.Path.{◌≡◌, refl}
use mathlib.Core.Bool.{Bool, true, false, cond, ◌&&◌}
use Prim.Native.Nat.{ℕ, ◌-◌}
use lib.IntN.{ℤ, pos, neg_ℤ}
use lib.ListN.{set}
use Rattle.laws.specs.Lists.{all}
use Rattle.laws.proofs.Bools.{and_left, and_right, and_both}
use Rattle.laws.proofs.Walks.{all_set}
use Rattle.units.specs.Units.{minus, position, place, within, bound}
use Rattle.units.proofs.Ranges.{above_least, below_most, wider, opposite}
use Rattle.command.specs.Settings.{axis_settings}
use Rattle.settings.specs.Settings.{in_range}
use Rattle.settings.proofs.GoodStays.{one}
use Rattle.settings.specs.Types.{Position, Speed, Number, LimitMin, LimitMax, MaxSpeed, Target}
use Rattle.settings.specs.declared.Settings.{Settings}
use Rattle.axis.specs.declared.Motion.{Motion}
use Rattle.axis.specs.declared.Motion.TheVariants.{To, At, Stopping}
use Rattle.axis.specs.declared.Axis.{Axis}
use Rattle.axis.specs.Record.{with_settings, with_motion, with_warnings, with_stored, moving, stopped}
use Rattle.axis.specs.Good.{good_position, good_motion, good_axis}
use Rattle.axis.specs.Travel.{limit_min, limit_max, max_speed, is_place, target, exists, between, may_move_to, may_run_at, may_store}
use Rattle.axis.specs.Moves.{moved, store}

-- by cases on a test
pub choose : {X : Type 0} (p : X → Bool) (b : Bool) (x y : X) → (b ≡ true → p x ≡ true) → (b ≡ false → p y ≡ true) → p (cond b x y) ≡ true
choose p true x y h k = h refl
choose p false x y h k = k refl

-- the questions of goodness
module _ (a : Axis) where
  abbrev settings_good_lem : Bool
  settings_good_lem = all (in_range a.settings) axis_settings

  abbrev stored_good_lem : Bool
  stored_good_lem = all good_position a.stored

  pub whole : settings_good_lem ≡ true → stored_good_lem ≡ true → good_motion a.motion ≡ true → good_axis a ≡ true
  unfolding good_axis
  whole s p m = and_both settings_good_lem (stored_good_lem && good_motion a.motion) s (and_both stored_good_lem (good_motion a.motion) p m)

module _ (a : Axis) (good : good_axis a ≡ true) where
  pub settings_good : all (in_range a.settings) axis_settings ≡ true
  unfolding good_axis
  settings_good = and_left (settings_good_lem a) (stored_good_lem a && good_motion a.motion) good

  pub stored_good : all good_position a.stored ≡ true
  unfolding good_axis
  stored_good = and_left (stored_good_lem a) (good_motion a.motion) (and_right (settings_good_lem a) (stored_good_lem a && good_motion a.motion) good)

  pub motion_good : good_motion a.motion ≡ true
  unfolding good_axis
  motion_good = and_right (stored_good_lem a) (good_motion a.motion) (and_right (settings_good_lem a) (stored_good_lem a && good_motion a.motion) good)

  pub with_motion_lem : (m : Motion) → good_motion m ≡ true → good_axis (with_motion m a) ≡ true
  with_motion_lem m h = whole (with_motion m a) settings_good stored_good h

  pub with_settings_lem : (s : Settings) → all (in_range s) axis_settings ≡ true → good_axis (with_settings s a) ≡ true
  with_settings_lem s h = whole (with_settings s a) h stored_good motion_good

  pub with_warnings_lem : (w : ℕ) → good_axis (with_warnings w a) ≡ true
  with_warnings_lem w = whole (with_warnings w a) settings_good stored_good motion_good

  -- what lies between the limits lies within ±1000000000
  pub between_bound : (z : ℤ) → between a z ≡ true → within bound z ≡ true
  between_bound z h =
      wider (minus 1000000000) (pos 1000000000) (limit_min a) (limit_max a) z
      (above_least (minus 1000000000) (limit_max a) (limit_min a) (one (in_range a.settings) settings_good LimitMin))
      (below_most (limit_min a) (pos 1000000000) (limit_max a) (one (in_range a.settings) settings_good LimitMax)) h

  pub moved_good : (t : Target) → good_axis (moved t a) ≡ true
  unfolding moved may_move_to
  moved_good t =
      choose good_axis (may_move_to t a) (with_motion (To (position (target t a))) a) a
      (λ h. with_motion_lem (To (position (target t a)))
      (between_bound (target t a) (and_right a.reference (between a (target t a))
      (and_right (exists t) (a.reference && between a (target t a)) h)))) (λ h. good)

  pub run_good : (v : Speed) → may_run_at v a ≡ true → good_axis (with_motion (At v) a) ≡ true
  unfolding may_run_at
  run_good v h =
      let m = below_most (pos 1) (pos 1000000000) (max_speed a) (one (in_range a.settings) settings_good MaxSpeed) in
      with_motion_lem (At v) (wider (minus 1000000000) (pos 1000000000) (neg_ℤ (max_speed a)) (max_speed a) v.0
      (opposite (max_speed a) 999999999 m) m h)

  pub store_good : (n : Number) (p : Position) → may_store n p a ≡ true → good_axis (store n p a) ≡ true
  unfolding store may_store
  store_good n p h =
      choose good_axis (is_place n) (with_stored (set a.stored (place n.0 - 1) p) a) a
      (λ e. whole (with_stored (set a.stored (place n.0 - 1) p) a) settings_good
      (all_set good_position a.stored (place n.0 - 1) p
      (between_bound p.0 (and_right (is_place n) (between a p.0) h)) stored_good) motion_good) (λ e. good)

  pub stopped_good : good_axis (stopped a) ≡ true
  unfolding stopped
  stopped_good = choose good_axis (moving a) (with_motion Stopping a) a (λ h. with_motion_lem Stopping refl) (λ h. good)
