-- The flags of the masks that the code gives, and the union of flags with none.
-- Assumes nothing.
use mathlib.Core.Path.{◌≡◌, refl, sym, ap, ◌∙◌}
use mathlib.Core.Bool.{Bool, false}
use mathlib.Core.List.{List, [], ◌∷◌}
use Prim.Native.Nat.{ℕ, zero, suc, ◌/◌, ◌≤◌}
use native.Mathlib.Omega.{arith}
use lib.Bits.{bit_or}
use lib.ListN.{length, replicate}
use Rattle.std.specs.List.{fold as fold_left}
use Rattle.laws.specs.Lists.{fold}
use Rattle.laws.proofs.Bools.{or_false, or_assoc}
use Rattle.flags.specs.Flags.{bits, mask, active, either, union}
use Rattle.flags.proofs.Bits.{mask_bits, bits_mask, bits_mod, bits_or, union_is}

-- no flag active
none_either : (k : ℕ) (l : List Bool) → length l ≤ k → either (replicate k false) l ≡ l
unfolding either
none_either zero [] h = refl
none_either zero (x ∷ l) h = absurd (omega arith)
none_either (suc k) [] h = refl
none_either (suc k) (x ∷ l) h = rw (none_either k l (omega arith))

either_length : (a b : List Bool) → length (either a b) ≤ length b
unfolding either
either_length [] b = omega arith
either_length (x ∷ a) [] = omega arith
either_length (x ∷ a) (y ∷ b) = omega (arith, either_length a b)

-- ---- the flags of what the code gives
pub bits_active : (m : ℕ) (wr : Bool) → bits 8 (mask (active m wr)) ≡ active m wr
unfolding bits active
bits_active m wr = bits_mask (active m wr)

pub bits_union : (a b : ℕ) → bits 8 (mask (either (bits 8 a) (bits 8 b))) ≡ either (bits 8 a) (bits 8 b)
bits_union a b = rw (← union_is a b) (bits_mod 8 (bit_or a b) ∙ bits_or 8 a b)

-- ---- joined to nothing, the union over a list is itself
module _ {X : Type 0} (f : X → List Bool) (xs : List X) where
  union_length : (ys : List X) → length (union f ys) ≤ 8
  unfolding fold
  union_length [] = omega arith
  union_length (y ∷ ys) = omega (arith, either_length (f y) (union f ys), union_length ys)

  pub union_start : either (bits 8 0) (union f xs) ≡ union f xs
  unfolding bits
  union_start = none_either 8 (union f xs) (union_length xs)

-- the flags of each element joined to those of the elements before it
either_assoc : (a b c : List Bool) → either (either a b) c ≡ either a (either b c)
unfolding either
either_assoc [] b c = refl
either_assoc (x ∷ a) [] c = refl
either_assoc (x ∷ a) (y ∷ b) [] = refl
either_assoc (x ∷ a) (y ∷ b) (z ∷ c) = rw (or_assoc x y z, either_assoc a b c)

either_none : (k w : ℕ) → either (bits k w) (replicate k false) ≡ bits k w
unfolding bits either
either_none zero w = refl
either_none (suc k) w = rw (or_false, either_none k (w / 2))

abbrev pub join : {X : Type 0} → (X → List Bool) → ℕ → X → ℕ
join f w x = mask (either (bits 8 w) (bits 8 (mask (f x))))

module _ {X : Type 0} (f : X → List Bool) (eight : (x : X) → bits 8 (mask (f x)) ≡ f x) where
  joined : (xs : List X) (w : ℕ) → mask (bits 8 w) ≡ w → fold_left (join f) w xs ≡ mask (either (bits 8 w) (union f xs))
  unfolding fold
  joined [] w h = rw (either_none 8 w) (sym h)
  joined (x ∷ xs) w h =
      let e = bits_union w (mask (f x)) in
      joined xs (join f w x) (ap mask e)
      ∙ ap mask (rw (e, eight x) (either_assoc (bits 8 w) (f x) (union f xs)))

  pub union_joined : (xs : List X) → fold_left (join f) 0 xs ≡ mask (union f xs)
  union_joined xs = joined xs 0 (mask_bits 8 0) ∙ ap mask (union_start f xs)
