-- The text of a number of one digit; and the text of a number, by its sign and its distance from 0.
-- Assumes nothing.
use mathlib.Core.Path.{◌≡◌, refl, sym, ◌∙◌}
use mathlib.Core.Bool.{true, false}
use mathlib.Core.List.{[], ◌∷◌, ◌++◌}
use Prim.Native.Nat.{ℕ, ◌+◌, ◌%◌, ◌<◌}
use native.Mathlib.Omega.{arith}
use lib.IntN.{ℤ, pos, negsuc, nat_abs}
use lib.Signed.{lt_z}
use borrow.Author.Tests.{ltb-true}
use Rattle.laws.specs.Text.{text}
use Rattle.laws.proofs.Bools.{is_true}
use Rattle.numbers.specs.Decimal.{last_digit, digits, decimal}
use Rattle.numbers.proofs.Decimal.{digits_one}

pub digits_single : (n : ℕ) → n < 10 → digits n ≡ (48 + n) ∷ []
unfolding last_digit
digits_single n h = let same : n % 10 ≡ n = omega arith in digits_one n h ∙ rw same

pub decimal_below : (z : ℤ) → lt_z z (pos 0) ≡ true → decimal z ≡ text "-" ++ digits (nat_abs z)
unfolding decimal
decimal_below (pos n) e = absurd (omega (arith, ltb-true n 0 e))
decimal_below (negsuc n) e = refl

pub decimal_above : (z : ℤ) → lt_z z (pos 0) ≡ false → decimal z ≡ digits (nat_abs z)
unfolding decimal
decimal_above (pos n) e = refl
decimal_above (negsuc n) e = absurd (is_true (sym e))
