-- A report is of one axis: what is asked of the axes that its number means is asked of that one, and so is what is done to them.
-- Assumes that the number is of one of the places that there are.
use Rattle.std.specs.Prelude.{is_ok}
use mathlib.Core.Path.{◌≡◌, refl, sym, ◌∙◌}
use mathlib.Core.Bool.{Bool, true, false, not}
use mathlib.Core.List.{List, [], ◌∷◌}
use Prim.Native.Nat.{ℕ, zero, suc, ◌-◌, ◌≤◌, ◌<◌}
use native.Mathlib.Nat.{add-zero}
use native.Mathlib.Omega.{arith}
use lib.Dec.{leb}
use lib.ListN.{length, get_or, set, take, drop}
use borrow.Author.Tests.{leb-true, ne_eqb}
use Rattle.laws.proofs.Refusals.{accepted_is}
use Rattle.laws.specs.Lists.{fold, all, change_from}
use Rattle.laws.specs.Refusals.{ACCEPTED, Verdict}
use Rattle.laws.proofs.Bools.{and_left, and_right, and_true}
use Rattle.laws.proofs.Folds.{change_more, change_none}
use Rattle.units.specs.Units.{place}
use Rattle.settings.specs.Types.{Number}
use Rattle.axis.specs.declared.Axis.{Axis}
use Rattle.axis.specs.declared.reports.Report.{Report}
use Rattle.axis.specs.Reports.{takes, reported}
use Rattle.device.specs.declared.Device.{Device}
use Rattle.device.specs.declared.Outcome.{Outcome}
use Rattle.device.specs.Record.{with_axes, many, axes_of, on_axes}
use Rattle.rules.specs.Reports.{is_axis, bad_report, report_refusal, report}
use Rattle.rules.proofs.Accepted.{told_good, an_axis}
use Rattle.rules.proofs.GoodStays.{good_count}

pub axis_range : (d : Device) (k : ℕ) → is_axis d k ≡ true → (1 ≤ k) × (k ≤ d.count)
unfolding is_axis
axis_range d k h =
    (leb-true 1 k (and_left (leb 1 k) (leb k d.count) h), leb-true k d.count (and_right (leb 1 k) (leb k d.count) h))

-- a report that is taken is of one of the four places
pub told_range : (d : Device) (k : ℕ) (r : Report) → report_refusal d k r ≡ ACCEPTED → (1 ≤ k) × (k ≤ 4)
told_range d k r e =
    let a = axis_range d k (an_axis d k r e) in
    (a.0, omega (arith, a.1, good_count d (told_good d k r e)))

one_place : {X : Type 0} (xs : List X) (z : X) (i : ℕ) → i < length xs → take 1 (drop i xs) ≡ get_or xs i z ∷ []
one_place [] z i h = absurd (omega arith)
one_place (x ∷ xs) z zero h = refl
one_place (x ∷ xs) z (suc i) h = one_place xs z i (omega arith)

module _ {X : Type 0} (xs : List X) (z : X) (i : ℕ) (h : i < length xs) where
  pub ask_one : (f : X → Bool) → f (get_or xs i z) ≡ all f (take 1 (drop i xs))
  unfolding fold
  ask_one f = rw (one_place xs z i h) (sym (and_true _))

  pub change_one : (g : X → X) → set xs i (g (get_or xs i z)) ≡ change_from g i 1 xs
  change_one g = rw (add-zero, change_none) at (change_more g xs z i 0 (rw add-zero h))

module _ (d : Device) (k : ℕ) where
  one : 1 ≤ k → many d k ≡ 1
  unfolding many
  one h = rw (ne_eqb k 0 (λ e. absurd (omega arith)))

  pub refused_one : (r : Report) {q : Bool} → is_axis d k ≡ true → q ≡ all (takes r) (take 1 (drop (k - 1) d.axes))
      → not q ≡ bad_report d k r
  unfolding bad_report axes_of
  refused_one r h e = rw (e, h, one (axis_range d k h).0)

  told_one : 1 ≤ k → (g : Axis → Axis) → with_axes (change_from g (k - 1) 1 d.axes) d ≡ on_axes g k d
  unfolding on_axes
  told_one h g = rw (one h)

pub no_axis : (d : Device) (k : ℕ) (r : Report) → is_axis d k ≡ false → true ≡ bad_report d k r
unfolding bad_report
no_axis d k r h = rw h

-- the outcome of a report, by its verdict
module _ (d : Device) (axis : Number) (r : Report) {v : Verdict} (is : v ≡ report_refusal d (place axis.0) r) where
  pub taken_next : is_ok v ≡ true → {xs : List Axis} → xs ≡ change_from (reported r) (place axis.0 - 1) 1 d.axes
      → ◌≡◌ {A = Outcome} (record { verdict = v; next = with_axes xs d }) (report d axis r)
  unfolding report
  taken_next h p =
      let e : report_refusal d (place axis.0) r ≡ ACCEPTED = sym is ∙ accepted_is v h in
      rw (is, p, told_one d (place axis.0) (told_range d _ r e).0 (reported r)) (simp e)

  pub refused_next : is_ok v ≡ false → ◌≡◌ {A = Outcome} (record { verdict = v; next = d }) (report d axis r)
  unfolding report
  refused_next h = simp (is, rw is at h)
