-- The answers of `read_number` and `read_pair`, by the first byte and by the digits.
-- Assumes nothing.
use Rattle.std.specs.Prelude.{Err, None, Some}
use mathlib.Core.Path.{◌≡◌, refl}
use mathlib.Core.List.{List, [], ◌∷◌}
use Prim.Native.Nat.{ℕ, ◌+◌, ◌*◌, ◌≤◌, ◌<◌}
use native.Mathlib.Omega.{arith}
use lib.ListN.{length, get_or, drop}
use borrow.Author.Tests.{eq-eqb, ne_eqb, lt-ltb, le-ltb}
use Rattle.laws.proofs.Bools.{and_false}
use Rattle.numbers.specs.Reading.{value_of, unsigned_from, above, below, read_number, read_pair}

pub read_none : (w : List ℕ) → length w ≡ 0 → Err 0 ≡ read_number w
unfolding read_number
read_none [] h = refl
read_none (c ∷ s) h = absurd (omega arith)

pub read_minus : (w : List ℕ) → get_or w 0 0 ≡ 45 → read_number w ≡ below (unsigned_from 2147483648 1 (drop 1 w))
unfolding read_number
read_minus [] e = absurd (omega arith)
read_minus (c ∷ s) e = rw (eq-eqb c 45 e)

pub read_plus : (w : List ℕ) → get_or w 0 0 ≡ 43 → read_number w ≡ above (unsigned_from 2147483647 1 (drop 1 w))
unfolding read_number
read_plus [] e = absurd (omega arith)
read_plus (c ∷ s) e = rw (ne_eqb c 45 (λ (f : c ≡ 45). omega arith), eq-eqb c 43 e)

pub read_bare : (w : List ℕ) → (length w ≡ 0 → ⊥) → (get_or w 0 0 ≡ 45 → ⊥) → (get_or w 0 0 ≡ 43 → ⊥)
    → read_number w ≡ above (unsigned_from 2147483647 0 w)
unfolding read_number
read_bare [] h e f = absurd (h refl)
read_bare (c ∷ s) h e f = rw (ne_eqb c 45 e, ne_eqb c 43 f)

module _ (h l : ℕ) where
  pub no_high : 16 ≤ value_of h → read_pair h l ≡ None
  unfolding read_pair
  no_high k = simp (le-ltb (value_of h) 16 k)

  pub no_low : 16 ≤ value_of l → read_pair h l ≡ None
  unfolding read_pair
  no_low k = simp (le-ltb (value_of l) 16 k, and_false)

  pub both : value_of h < 16 → value_of l < 16 → read_pair h l ≡ Some (value_of h * 16 + value_of l)
  unfolding read_pair
  both j k = simp (lt-ltb (value_of h) 16 j, lt-ltb (value_of l) 16 k)
