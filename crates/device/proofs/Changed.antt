-- Some neighbouring elements of a list, each changed in its place, from the first on.
-- Assumes nothing.
use mathlib.Core.Path.{◌≡◌, refl, ap}
use mathlib.Core.List.{List, [], ◌∷◌, ◌++◌}
use Prim.Native.Nat.{ℕ, zero, suc, ◌+◌, ◌≤◌, ◌<◌}
use native.Mathlib.Numerals.{add-one}
use native.Mathlib.Omega.{arith}
use borrow.Rule.Slice.PartMut.{put_mid}
use lib.ListN.{length, get_or, set, take, drop}
use Rattle.laws.specs.Lists.{change_first, change_from}

module _ {X : Type 0} (g : X → X) where
  turn : (xs : List X) (i : ℕ) (z : X) → i < length xs
      → set (change_first g i xs) i (g (get_or (change_first g i xs) i z)) ≡ change_first g (suc i) xs
  unfolding change_first
  turn [] i z h = absurd (omega arith)
  turn (x ∷ xs) zero z h = refl
  turn (x ∷ xs) (suc i) z h = ap (λ (l : List X). g x ∷ l) (turn xs i z (omega arith))

  -- one more of them, in the list ys as it stands
  pub one_more : (xs ys : List X) (i : ℕ) (z y : X) → i < length xs → ys ≡ change_first g i xs → y ≡ g (get_or ys i z)
      → set ys i y ≡ change_first g (i + 1) xs
  one_more xs ys i z y h e q = rw (q, e, add-one) (turn xs i z h)

  none_left : (i : ℕ) → change_first g i [] ≡ []
  unfolding change_first
  none_left zero = refl
  none_left (suc i) = refl

  front : (xs : List X) (n j : ℕ) → length (take n xs) ≤ j → change_first g j (take n xs) ++ drop n xs ≡ change_first g n xs
  unfolding change_first
  front xs zero j h = rw none_left
  front [] (suc n) j h = rw none_left
  front (x ∷ xs) (suc n) zero h = absurd (omega arith)
  front (x ∷ xs) (suc n) (suc j) h = ap (λ (l : List X). g x ∷ l) (front xs n j (omega arith))

  -- all of them, put back into the whole list
  pub put_back : (xs : List X) (i n j : ℕ) → i + n ≤ length xs → length (take n (drop i xs)) ≤ j
      → put_mid i n xs (change_first g j (take n (drop i xs))) ≡ change_from g i n xs
  unfolding change_from
  put_back xs zero n j h k = front xs n j k
  put_back [] (suc i) n j h k = absurd (omega arith)
  put_back (x ∷ xs) (suc i) n j h k = ap (λ (l : List X). x ∷ l) (put_back xs i n j (omega arith) k)
