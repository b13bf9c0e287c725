-- What a digit stands for, range by range; and that it is the digit that Spelling has.
-- Assumes nothing.
use mathlib.Core.Path.{◌≡◌, refl, ◌∙◌}
use mathlib.Core.Logic.{⊎_elim}
use mathlib.Core.Bool.{Bool, true, false, cond, ◌&&◌}
use Prim.Native.Nat.{ℕ, ◌-◌, ◌≤◌, ◌<◌}
use native.Mathlib.Omega.{arith}
use lib.Dec.{leb}
use borrow.Author.Tests.{le-leb, lt-leb, leb-true, lt-ltb, le-ltb}
use Rattle.laws.proofs.Order.{lt_or_le}
use Rattle.laws.proofs.Bools.{and_false, and_right}
use Rattle.std.proofs.Common.{Some, None}
use Rattle.numbers.specs.Reading.{no_digit, value_of, digit_told}
use Rattle.std.specs.Option.{unwrap_or}
use Rattle.std.proofs.lemmas.Bool.Decides.{nat_tests}
use Rattle.numbers.specs.Spelling.{Digit, figure, capital, small}

module _ (c : ℕ) where
  pub figure_value : 48 ≤ c → c < 58 → value_of c ≡ c - 48
  unfolding value_of
  figure_value h k = simp (le-leb 48 c h, le-leb c 57 (omega arith))

  pub capital_value : 65 ≤ c → c < 71 → value_of c ≡ c - 55
  unfolding value_of
  capital_value h k = simp (lt-leb c 57 (omega arith), and_false, le-leb 65 c h, le-leb c 70 (omega arith))

  pub small_value : 97 ≤ c → c < 103 → value_of c ≡ c - 87
  unfolding value_of
  small_value h k = simp (lt-leb c 57 (omega arith), lt-leb c 70 (omega arith), and_false, le-leb 97 c h, le-leb c 102 (omega arith))

  pub none_below : c < 48 → value_of c ≡ 99
  unfolding value_of
  none_below h = simp (lt-leb 48 c h, lt-leb 65 c (omega arith), lt-leb 97 c (omega arith))

  pub none_between : 58 ≤ c → c < 65 → value_of c ≡ 99
  unfolding value_of
  none_between h k = simp (lt-leb c 57 h, and_false, lt-leb 65 c k, lt-leb 97 c (omega arith))

  pub none_between_cases : 71 ≤ c → c < 97 → value_of c ≡ 99
  unfolding value_of
  none_between_cases h k = simp (lt-leb c 57 (omega arith), lt-leb c 70 h, and_false, lt-leb 97 c k)

  pub none_above : 103 ≤ c → value_of c ≡ 99
  unfolding value_of
  none_above h = simp (lt-leb c 57 (omega arith), lt-leb c 70 (omega arith), lt-leb c 102 h, and_false)

-- no value is above 99
small_if : (t : Bool) (a b : ℕ) → (t ≡ true → a ≤ 99) → b ≤ 99 → cond t a b ≤ 99
small_if true a b h k = h refl
small_if false a b h k = k

up_to : (c lo hi : ℕ) → (leb lo c && leb c hi) ≡ true → c ≤ hi
up_to c lo hi e = leb-true c hi (and_right (leb lo c) (leb c hi) e)

pub value_small : (c : ℕ) → value_of c ≤ 99
unfolding value_of
value_small c =
    small_if (leb 48 c && leb c 57) _ _ (λ e. omega (arith, up_to c 48 57 e))
    (small_if (leb 65 c && leb c 70) _ _ (λ e. omega (arith, up_to c 65 70 e))
    (small_if (leb 97 c && leb c 102) _ _ (λ e. omega (arith, up_to c 97 102 e)) (omega arith)))

-- a digit as the code has it
pub told_some : (v : ℕ) {d : ℕ} → Some d ≡ digit_told v → (d ≡ v) × (d < 16)
told_some v {d} e =
    ⊎_elim (λ (h : v < 16). let f : Some d ≡ Some v = e ∙ rw (lt-ltb v 16 h) in let g : d ≡ v = cc in (g, rw g h))
    (λ h. let f : Some d ≡ None = e ∙ rw (le-ltb v 16 h) in let z : ⊥ = cc in absurd z)
    (lt_or_le v 16)

pub told_none : (v : ℕ) → None ≡ digit_told v → 16 ≤ v
told_none v e =
    ⊎_elim (λ (h : v < 16). let f : None ≡ Some v = e ∙ rw (lt-ltb v 16 h) in let z : ⊥ = cc in absurd z) (λ h. h) (lt_or_le v 16)

-- what is told, or more than any digit, is the value
pub told_value : (c : ℕ) → unwrap_or (digit_told (value_of c)) no_digit ≡ value_of c
unfolding value_of
told_value c = grind (arith, nat_tests)

-- a digit has its value
pub digit_value : {b c d : ℕ} → b ≤ 16 → Digit b c d → value_of c ≡ d
digit_value {b} {c} {d} h (figure l t e) = figure_value c (omega arith) (omega arith) ∙ omega arith
digit_value {b} {c} {d} h (capital l t e) = capital_value c (omega arith) (omega arith) ∙ omega arith
digit_value {b} {c} {d} h (small l t e) = small_value c (omega arith) (omega arith) ∙ omega arith

pub digit_below : {b c d : ℕ} → Digit b c d → d < b
digit_below (figure l t e) = l
digit_below (capital l t e) = l
digit_below (small l t e) = l

-- what has a value below the base is a digit
pub digit_of : (b c : ℕ) → b ≤ 16 → value_of c < b → Digit b c (value_of c)
digit_of b c hb h =
    ⊎_elim (λ k. let e = none_below c k in absurd (omega arith))
    (λ k. ⊎_elim (λ k2. let e = figure_value c k k2 in figure h (omega arith) (omega arith))
    (λ k2. ⊎_elim (λ k3. let e = none_between c k2 k3 in absurd (omega arith))
    (λ k3. ⊎_elim (λ k4. let e = capital_value c k3 k4 in capital h (omega arith) (omega arith))
    (λ k4. ⊎_elim (λ k5. let e = none_between_cases c k4 k5 in absurd (omega arith))
    (λ k5. ⊎_elim (λ k6. let e = small_value c k5 k6 in small h (omega arith) (omega arith))
    (λ k6. let e = none_above c k6 in absurd (omega arith))
    (lt_or_le c 103))
    (lt_or_le c 97))
    (lt_or_le c 71))
    (lt_or_le c 65))
    (lt_or_le c 58))
    (lt_or_le c 48)
