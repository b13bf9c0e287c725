-- The texts of specs/Decimal.antt: the sentence on numbers as equations, their lengths, and that each is a spelling of its number.
-- Assumes nothing.
use mathlib.Core.Path.{◌≡◌, refl, sym, subst, ◌∙◌}
use mathlib.Core.Logic.{⊎_elim}
use mathlib.Core.List.{◌++◌}
use Prim.Native.Nat.{ℕ, zero, suc, ◌+◌, ◌*◌, ◌/◌, ◌%◌, ◌^◌, ◌≤◌, ◌<◌}
use native.Mathlib.Omega.{arith}
use native.Mathlib.Nat.{pow-suc, div-lt_iff_lt-mul, div-add-mod', mod-eq_of_lt}
use lib.Dec.{lit<}
use lib.IntN.{ℤ, pos, negsuc}
use lib.ListN.{length, get_or, length-append, get_or-append}
use mir.Syntax.{w32}
use mir.Val.{SFits}
use borrow.Author.Tests.{lt-ltb, le-ltb}
use Rattle.laws.specs.Text.{text}
use Rattle.laws.proofs.Order.{lt_or_le}
use Rattle.numbers.specs.Decimal.{last_digit, digits_within, digits, decimal, two_digits, hex_digit, hex_pair}
use Rattle.numbers.specs.Spelling.{Digit, Digits, UnsignedWord, NumberWord, AddressWord, HexPair}

-- the tenth of a number of k + 2 digits has k + 1
tenth : (k n : ℕ) → n < 10 ^ suc (suc k) → n / 10 < 10 ^ suc k
tenth k n h = (div-lt_iff_lt-mul (lit< tt)).1 (rw pow-suc at h)

-- ---- the sentence as equations
within_small : (k n : ℕ) → n < 10 → digits_within k n ≡ last_digit n
unfolding digits_within
within_small zero n h = refl
within_small (suc k) n h = rw (lt-ltb n 10 h)

within_large : (k n : ℕ) → 10 ≤ n → digits_within (suc k) n ≡ digits_within k (n / 10) ++ last_digit n
unfolding digits_within
within_large k n h = rw (le-ltb n 10 h)

-- one digit more is not used where the digits are enough
within_more : (k n : ℕ) → n < 10 ^ suc k → digits_within (suc k) n ≡ digits_within k n
within_more zero n h = within_small 1 n h ∙ sym (within_small 0 n h)
within_more (suc k) n h =
    ⊎_elim (λ l. within_small (suc (suc k)) n l ∙ sym (within_small (suc k) n l))
    (λ l. within_large (suc k) n l ∙ rw (within_more k (n / 10) (tenth k n h)) (sym (within_large k n l)))
    (lt_or_le n 10)

pub digits_one : (n : ℕ) → n < 10 → digits n ≡ last_digit n
unfolding digits
digits_one n h = within_small 19 n h

pub digits_more : (n : ℕ) → 10 ≤ n → n < 10 ^ 20 → digits n ≡ digits (n / 10) ++ last_digit n
unfolding digits
digits_more n h u = within_large 18 n h ∙ rw (within_more 18 (n / 10) (tenth 18 n u))

-- ---- lengths
within_length : (j k n : ℕ) → n < 10 ^ suc j → length (digits_within k n) ≤ suc j
unfolding digits_within last_digit
within_length zero k n h = rw (within_small k n h) (omega arith)
within_length (suc j) zero n h = omega arith
within_length (suc j) (suc k) n h =
    ⊎_elim (λ l. rw (within_small (suc k) n l) (omega arith))
    (λ l. rw (within_large k n l, length-append) (omega (arith, within_length j k (n / 10) (tenth j n h))))
    (lt_or_le n 10)

-- a number below 10 to the power j + 1 has at most j + 1 digits
pub digits_length : (j n : ℕ) → n < 10 ^ suc j → length (digits n) ≤ suc j
unfolding digits
digits_length j n h = within_length j 19 n h

-- a number of 32 bits takes at most 11 bytes, its sign included
pub decimal_length : (z : ℤ) → SFits w32 z → length (decimal z) ≤ 11
unfolding decimal text
decimal_length (pos n) f = let h = f.sfits in omega (arith, digits_length 9 n (omega arith))
decimal_length (negsuc n) f = let h = f.sfits in omega (arith, digits_length 9 (suc n) (omega arith))

-- ---- "no leading zeros"
within_some : (k n : ℕ) → 0 < length (digits_within k n)
unfolding digits_within last_digit
within_some zero n = omega arith
within_some (suc k) n =
    ⊎_elim (λ l. rw (within_small (suc k) n l) (omega arith))
    (λ l. rw (within_large k n l, length-append) (omega arith))
    (lt_or_le n 10)

within_first : (k n : ℕ) → 0 < n → n < 10 ^ suc k → get_or (digits_within k n) 0 0 ≡ 48 → ⊥
unfolding last_digit
within_first zero n p h e = let y = rw (within_small 0 n h) at e in omega arith
within_first (suc k) n p h e =
    ⊎_elim (λ l. let y = rw (within_small (suc k) n l) at e in omega arith)
    (λ l. let y = rw (within_large k n l, get_or-append (digits_within k (n / 10)) (last_digit n) 0 0 (within_some k (n / 10))) at e in
    within_first k (n / 10) (omega arith) (tenth k n h) y)
    (lt_or_le n 10)

-- a text of more than one digit does not begin with `0`
pub no_leading_zero : (n : ℕ) → n < 10 ^ 20 → 1 < length (digits n) → get_or (digits n) 0 0 ≡ 48 → ⊥
unfolding digits last_digit
no_leading_zero n h l e =
    ⊎_elim (λ z. let y = rw (digits_one n (omega arith)) at l in omega arith)
    (λ p. within_first 19 n p h e)
    (lt_or_le n 1)

-- ---- each text spells its number
figure : (n : ℕ) → Digit 10 (48 + n % 10) (n % 10)
figure n = Digit.figure (omega arith) (omega arith) refl

one_spelled : (n : ℕ) → n < 10 → Digits 10 (last_digit n) n
unfolding last_digit
one_spelled n h = subst (Digits 10 (last_digit n)) (mod-eq_of_lt h) (Digits.one (figure n))

within_spelled : (k n : ℕ) → n < 10 ^ suc k → Digits 10 (digits_within k n) n
unfolding last_digit
within_spelled zero n h = rw (within_small 0 n h) (one_spelled n h)
within_spelled (suc k) n h =
    ⊎_elim (λ l. rw (within_small (suc k) n l) (one_spelled n l))
    (λ l. rw (within_large k n l)
    (subst (Digits 10 (digits_within k (n / 10) ++ last_digit n)) (div-add-mod' n 10)
    (Digits.more (within_spelled k (n / 10) (tenth k n h)) (figure n))))
    (lt_or_le n 10)

pub digits_spelled : (n : ℕ) → n < 10 ^ 20 → Digits 10 (digits n) n
unfolding digits
digits_spelled n h = within_spelled 19 n h

-- so the decimal text of a number of 32 bits is that number's word
pub decimal_spelled : (z : ℤ) → SFits w32 z → NumberWord (decimal z) z
unfolding decimal
decimal_spelled (pos n) f = let h = f.sfits in NumberWord.bare (UnsignedWord.decimal (digits_spelled n (omega arith))) (omega arith)
decimal_spelled (negsuc n) f = let h = f.sfits in
    NumberWord.signed_minus (UnsignedWord.decimal (digits_spelled (suc n) (omega arith))) (omega arith)

-- an address in two digits is an address word
pub two_spelled : (n : ℕ) → n ≤ 99 → Digits 10 (two_digits n) n
unfolding two_digits
two_spelled n h =
    let e : n / 10 % 10 * 10 + n % 10 ≡ n = omega arith in
    subst (Digits 10 (two_digits n)) e (Digits.more (Digits.one (figure (n / 10))) (figure n))

pub address_spelled : (n : ℕ) → n ≤ 99 → AddressWord (two_digits n) n
address_spelled n h = AddressWord.address (UnsignedWord.decimal (two_spelled n h)) h

-- a byte's two hex digits are a pair
hex_digit_lem : (d : ℕ) → d < 16 → Digit 16 (hex_digit d) d
unfolding hex_digit
hex_digit_lem d h =
    ⊎_elim (λ l. rw (lt-ltb d 10 l) (Digit.figure h l refl))
    (λ l. rw (le-ltb d 10 l) (Digit.capital h l refl))
    (lt_or_le d 10)

pub pair_spelled : (n : ℕ) → n < 256 → HexPair (hex_pair n) n
unfolding hex_pair
pair_spelled n h =
    let e : n / 16 % 16 * 16 + n % 16 ≡ n = omega arith in
    subst (HexPair (hex_pair n)) e (HexPair.pair (hex_digit_lem (n / 16 % 16) (omega arith)) (hex_digit_lem (n % 16) (omega arith)))
