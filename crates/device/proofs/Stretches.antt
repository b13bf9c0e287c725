-- Places from a number on, cut at the fourth, are those places of a list of four.
-- Assumes that there are four places, which every device record has.
use mathlib.Core.Path.{◌≡◌, refl, sym}
use mathlib.Core.List.{List}
use Prim.Native.Nat.{ℕ, ◌+◌, ◌-◌, min, ◌≤◌}
use native.Mathlib.Omega.{arith}
use lib.ListN.{length, take, drop}
use Rattle.laws.specs.Lists.{change_from}
use Rattle.laws.proofs.Folds.{part_clip, change_clip}
use Rattle.axis.specs.declared.Axis.{Axis}
use Rattle.device.specs.declared.walks.Stretch.{Stretch}
use Rattle.device.specs.Each.{stretch_of}

pub stretch_inside : (p : Stretch) (n k : ℕ) → p ≡ stretch_of n k → p.from + p.many ≤ 4
unfolding stretch_of
stretch_inside p n k e = rw e (omega arith)

module _ (axes : List Axis) (n k : ℕ) (p : Stretch) (four : length axes ≡ 4) (e : p ≡ stretch_of n k) where
  pub stretch_axes : take p.many (drop p.from axes) ≡ take n (drop (k - 1) axes)
  unfolding stretch_of
  stretch_axes = rw e (sym (rw four at (part_clip (k - 1) n axes)))

  pub stretch_change : (g : Axis → Axis) → change_from g p.from p.many axes ≡ change_from g (k - 1) n axes
  unfolding stretch_of
  stretch_change g = rw e (sym (rw four at (change_clip g (k - 1) n axes)))

pub first_axes : (axes : List Axis) (n : ℕ) → length axes ≡ 4 → take (min n 4) axes ≡ take n axes
unfolding stretch_of
first_axes axes n four = stretch_axes axes n 0 (stretch_of n 0) four refl
