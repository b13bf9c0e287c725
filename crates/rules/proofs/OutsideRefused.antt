-- A target outside the limits of any axis concerned is refused with 11, unless an earlier check applies, and no axis moves.
-- Over every good record; that it is refused, and nothing moves, over every record.
use Rattle.std.specs.Prelude.{Err}
use Rattle.laws.specs.declared.Refusal.TheVariants.{BadData}
use mathlib.Core.Path.{◌≡◌, refl}
use mathlib.Core.Bool.{Bool, true, false, not, ◌&&◌}
use mathlib.Core.List.{List, [], ◌∷◌}
use Prim.Native.Nat.{ℕ}
use native.Mathlib.Omega.{arith}
use lib.Dec.{ltb}
use lib.IntN.{ℤ, pos, negsuc}
use lib.Signed.{le_z}
use borrow.Author.Tests.{le-ltb, leb-true}
use Rattle.laws.specs.Lists.{fold, all, any}
use Rattle.laws.specs.Refusals.{first_of, ACCEPTED}
use Rattle.laws.proofs.Bools.{and_left, and_right, and_both, clash, is_true}
use Rattle.laws.proofs.Walks.{nth}
use Rattle.units.specs.Units.{place}
use Rattle.units.proofs.Ranges.{above_least}
use Rattle.command.specs.declared.AxisCommand.TheVariants.{MoveTo}
use Rattle.command.specs.declared.Command.TheVariants.{OfAxes}
use Rattle.command.specs.Settings.{device_settings}
use Rattle.settings.specs.Types.{CommAddress, Target, Min}
use Rattle.command.specs.declared.kinds.Demands.{Demands}
use Rattle.command.specs.Commands.{demands}
use Rattle.axis.specs.declared.Axis.{Axis}
use Rattle.axis.specs.Travel.{target, exists, between, may_move_to}
use Rattle.axis.specs.Good.{good_axis}
use Rattle.axis.specs.Record.{moving}
use Rattle.axis.specs.Commands.{permits}
use Rattle.axis.proofs.MoveDemands.{move_demands}
use Rattle.device.specs.declared.Device.{Device}
use Rattle.device.specs.Record.{axes_of}
use Rattle.device.specs.Good.{in_range, good}
use Rattle.rules.specs.Refusals.{bad_axis, device_only, no_access, parked, status_busy, bad_data, rows, refusal}
use Rattle.rules.specs.Effects.{obey}
use Rattle.rules.proofs.Accepted.{each_permits}
use Rattle.rules.proofs.RefusalKeeps.{refusal_keeps}

-- whether the target lies between the limits, on every axis concerned
abbrev pub inside : Target → List Axis → Bool
inside t xs = all (λ a. between a (target t a)) xs

may_inside : (t : Target) (xs : List Axis) → all (may_move_to t) xs ≡ true → inside t xs ≡ true
unfolding fold may_move_to
may_inside t [] h = refl
may_inside t (a ∷ xs) h =
    let may = and_left (may_move_to t a) (all (may_move_to t) xs) h in
    and_both (between a (target t a)) (inside t xs)
    (and_right a.reference (between a (target t a)) (and_right (exists t) (a.reference && between a (target t a)) may))
    (may_inside t xs (and_right (may_move_to t a) (all (may_move_to t) xs) h))

is_false : (b : Bool) → (b ≡ true → ⊥) → b ≡ false
is_false true h = absurd (h refl)
is_false false h = refl

module _ (d : Device) (k : ℕ) (t : Target) (out : inside t (axes_of d k) ≡ false) where
  some_may_not : all (permits (MoveTo t)) (axes_of d k) ≡ false
  some_may_not = is_false (all (permits (MoveTo t)) (axes_of d k)) (λ h. clash (may_inside t (axes_of d k) h) out)

  -- over every record: the move is refused
  pub outside_refused : (obey d k (OfAxes (MoveTo t))).verdict ≡ ACCEPTED → ⊥
  unfolding obey
  outside_refused e = clash (each_permits d k (MoveTo t) e) some_may_not

  -- and no axis moves: nothing changes at all
  pub outside_keeps : (obey d k (OfAxes (MoveTo t))).next ≡ d
  outside_keeps = refusal_keeps d k (OfAxes (MoveTo t)) outside_refused

-- a good record has access 1 or more
some_access : (z : ℤ) → le_z (pos 1) z ≡ true → ltb (place z) 1 ≡ false
some_access (pos n) h = le-ltb n 1 (leb-true 1 n h)
some_access (negsuc n) h = absurd (is_true h)

pub enough_access : (d : Device) → good d ≡ true → ltb (place d.access.0) 1 ≡ false
unfolding good device_settings
enough_access d g =
    some_access d.access.0
    (above_least (pos 1) (pos 2) d.access.0 (nth (in_range d) device_settings CommAddress 3 (omega arith)
    (and_left (all (in_range d) device_settings) (all good_axis (axes_of d 0) && not (d.parked && any moving (axes_of d 0))) g)))

-- the earlier checks that a move can meet are 12 BADAXIS and 15 PARKED
pub outside_11 : (d : Device) (k : ℕ) (t : Target) → good d ≡ true → bad_axis d k ≡ false → d.parked ≡ false
    → inside t (axes_of d k) ≡ false → (obey d k (OfAxes (MoveTo t))).verdict ≡ Err BadData
unfolding obey refusal first_of device_only no_access parked status_busy bad_data
outside_11 d k t g a p out = go (demands (OfAxes (MoveTo t))) (move_demands t)
  where
    go : (x : Demands) → x ≡ demands (OfAxes (MoveTo Min)) → first_of (rows d k (OfAxes (MoveTo t)) x) ≡ Err BadData
    go x e = rw e (simp (a, enough_access d g, p, some_may_not d k t out))
