-- A mask and its flags: each gives the other; the machine's counts of bits and its `or` are those of the flags.
-- Assumes nothing.
use mathlib.Core.Path.{◌≡◌, refl, sym, ap, ◌∙◌}
use mathlib.Core.Logic.{◌⊎◌, inl, inr, ⊎_elim}
use mathlib.Core.Bool.{Bool, true, false, ◌||◌, cond}
use mathlib.Core.List.{List, [], ◌∷◌, ◌++◌}
use Prim.Native.Nat.{ℕ, zero, suc, ◌+◌, ◌*◌, ◌/◌, ◌%◌, ◌^◌, ◌≤◌, ◌<◌, max}
use native.Mathlib.Omega.{arith}
use native.Mathlib.Nat.{pow-suc}
use native.Mathlib.Numerals.{add-one}
use lib.Bits.{bit_or, or_step, or_shr}
use lib.Count.{ones, ones_step, count_trailing_zeros, under}
use lib.Dec.{eqb}
use lib.ListN.{length}
use lib.Pow.{mod-pow-add}
use Rattle.flags.specs.Flags.{bits, mask, active, either, count, first}

-- ---- a bit
pub digit : (n : ℕ) → (n % 2 ≡ 0) ⊎ (n % 2 ≡ 1)
digit n = go (n % 2) (omega arith)
  where
    go : (r : ℕ) → r < 2 → (r ≡ 0) ⊎ (r ≡ 1)
    go zero h = inl refl
    go (suc zero) h = inr refl
    go (suc (suc r)) h = absurd (omega arith)

half : (k n : ℕ) → n < 2 ^ suc k → n / 2 < 2 ^ k
half k n h = let e = pow-suc 2 k in omega arith

-- the lowest bit of k + 1 bits, and the others
low_bits : (k n : ℕ) → n % 2 ^ suc k ≡ n / 2 % 2 ^ k * 2 + n % 2
low_bits k n = rw add-one at (mod-pow-add n k 1)

-- ---- a mask and its flags
pub bits_mod : (k n : ℕ) → bits k (n % 2 ^ k) ≡ bits k n
unfolding bits
bits_mod zero n = refl
bits_mod (suc k) n =
    let e = low_bits k n in
    let odd : n % 2 ^ suc k % 2 ≡ n % 2 = omega arith in
    let rest : n % 2 ^ suc k / 2 ≡ n / 2 % 2 ^ k = omega arith in
    rw (odd, rest, bits_mod k (n / 2))

one_bit : (n : ℕ) → cond (eqb (n % 2) 1) 1 0 ≡ n % 2
one_bit n = ⊎_elim (λ (e : n % 2 ≡ 0). simp e) (λ (e : n % 2 ≡ 1). simp e) (digit n)

pub mask_bits : (k n : ℕ) → mask (bits k n) ≡ n % 2 ^ k
unfolding bits mask
mask_bits zero n = omega arith
mask_bits (suc k) n =
    let e = low_bits k n in
    let ih = mask_bits k (n / 2) in
    rw (one_bit n) (omega arith)

pub bits_mask : (l : List Bool) → bits (length l) (mask l) ≡ l
unfolding bits mask
bits_mask [] = refl
bits_mask (true ∷ l) =
    let odd : (1 + mask l * 2) % 2 ≡ 1 = omega arith in
    let rest : (1 + mask l * 2) / 2 ≡ mask l = omega arith in
    rw (odd, rest, bits_mask l)
bits_mask (false ∷ l) =
    let even : (0 + mask l * 2) % 2 ≡ 0 = omega arith in
    let rest : (0 + mask l * 2) / 2 ≡ mask l = omega arith in
    rw (even, rest, bits_mask l)

-- one flag more behind k bits
mask_last : (k n : ℕ) (b : Bool) → mask (bits k n ++ (b ∷ [])) ≡ n % 2 ^ k + cond b (2 ^ k) 0
unfolding bits mask
mask_last zero n true = omega arith
mask_last zero n false = omega arith
mask_last (suc k) n b =
    let e = low_bits k n in
    let p = pow-suc 2 k in
    let ih = mask_last k (n / 2) b in
    let double : cond b (2 ^ k) 0 * 2 ≡ cond b (2 ^ suc k) 0 = twice b in
    rw (one_bit n) (omega arith)
  where
    twice : (b : Bool) → cond b (2 ^ k) 0 * 2 ≡ cond b (2 ^ suc k) 0
    twice true = sym (pow-suc 2 k)
    twice false = refl

-- ---- what the code has of a mask
module _ (m : ℕ) where
  pub active_yes : 128 + m % 128 ≡ mask (active m true)
  unfolding active
  active_yes = let e = mask_last 7 m true in omega arith

  pub active_no : m % 128 ≡ mask (active m false)
  unfolding active
  active_no = let e = mask_last 7 m false in omega arith

-- ---- the number of active flags
count_bit : (n : ℕ) (l : List Bool) → count (eqb (n % 2) 1 ∷ l) ≡ n % 2 + count l
unfolding count
count_bit n l = ⊎_elim (λ (e : n % 2 ≡ 0). simp e (omega arith)) (λ (e : n % 2 ≡ 1). simp e (omega arith)) (digit n)

ones_count : (k n : ℕ) → n < 2 ^ k → ones n ≡ count (bits k n)
unfolding bits count ones
ones_count zero n h = let z : n ≡ 0 = omega arith in rw z
ones_count (suc k) n h = ones_step n ∙ ap (λ (x : ℕ). n % 2 + x) (ones_count k (n / 2) (half k n h)) ∙ sym (count_bit n (bits k (n / 2)))

pub number_is : (m : ℕ) → ones (m % 256) ≡ count (bits 8 m)
number_is m = ones_count 8 (m % 256) (omega arith) ∙ ap count (bits_mod 8 m)

-- ---- the first active flag
first_bit : (n : ℕ) (l : List Bool) (x : ℕ) → (n % 2 ≡ 0 → x ≡ first l) → under (n % 2) x ≡ first (eqb (n % 2) 1 ∷ l)
unfolding first
first_bit n l x q = ⊎_elim (λ (e : n % 2 ≡ 0). simp e (ap suc (q e))) (λ (e : n % 2 ≡ 1). simp e) (digit n)

trailing_first : (j k n : ℕ) → k ≤ j → 0 < n → n < 2 ^ k → count_trailing_zeros j n ≡ first (bits k n)
unfolding bits first count_trailing_zeros
trailing_first j zero n g p h = absurd (omega arith)
trailing_first zero (suc k) n g p h = absurd (omega arith)
trailing_first (suc j) (suc k) n g p h =
    first_bit n (bits k (n / 2)) (count_trailing_zeros j (n / 2)) (λ e. trailing_first j k (n / 2) (omega arith) (omega arith) (half k n h))

module _ (m : ℕ) where
  pub highest_some : (m % 256 ≡ 0 → ⊥) → count_trailing_zeros 32 (m % 256) ≡ first (bits 8 m)
  highest_some h = trailing_first 32 8 (m % 256) (omega arith) (omega arith) (omega arith) ∙ ap first (bits_mod 8 m)

  pub highest_none : m % 256 ≡ 0 → 8 ≡ first (bits 8 m)
  unfolding bits first
  highest_none h = ap (λ (n : ℕ). first (bits 8 n)) (sym h) ∙ ap first (bits_mod 8 m)

-- ---- the machine's `or`
or_odd : (a b : ℕ) → bit_or a b % 2 ≡ max (a % 2) (b % 2)
or_odd a b = let e = or_step a b in omega arith

max_or : (a b : ℕ) → eqb (max (a % 2) (b % 2)) 1 ≡ (eqb (a % 2) 1 || eqb (b % 2) 1)
max_or a b = go (digit a) (digit b)
  where
    go : (a % 2 ≡ 0) ⊎ (a % 2 ≡ 1) → (b % 2 ≡ 0) ⊎ (b % 2 ≡ 1) → eqb (max (a % 2) (b % 2)) 1 ≡ (eqb (a % 2) 1 || eqb (b % 2) 1)
    go (inl p) (inl q) = simp (p, q)
    go (inl p) (inr q) = simp (p, q)
    go (inr p) (inl q) = simp (p, q)
    go (inr p) (inr q) = simp (p, q)

pub bits_or : (k a b : ℕ) → bits k (bit_or a b) ≡ either (bits k a) (bits k b)
unfolding bits either
bits_or zero a b = refl
bits_or (suc k) a b = simp (or_odd a b, or_shr a b 1, max_or a b, bits_or k (a / 2) (b / 2))

pub union_is : (a b : ℕ) → bit_or a b % 256 ≡ mask (either (bits 8 a) (bits 8 b))
union_is a b = sym (mask_bits 8 (bit_or a b)) ∙ ap mask (bits_or 8 a b)
