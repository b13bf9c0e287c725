-- A word is read as a value exactly where Spelling writes it for that value, and it is written for one value at most.
-- For numbers, addresses and pairs of hex digits. Assumes nothing.
use Rattle.std.specs.Prelude.{Err, None, Ok, Some}
use mathlib.Core.Path.{◌≡◌, refl, sym, ap, ap₂, ◌∙◌}
use mathlib.Core.Logic.{◌↔◌, ⊎_elim}
use mathlib.Core.Bool.{Bool, true, false}
use mathlib.Core.List.{List, [], ◌∷◌, ◌++◌}
use Prim.Native.Nat.{ℕ, suc, ◌+◌, ◌*◌, ◌≤◌, ◌<◌}
use native.Mathlib.Omega.{arith}
use borrow.Author.Tests.{ne_eqb, eqb-true}
use lib.IntN.{ℤ, pos, neg_ℤ}
use lib.ListN.{length, get_or, drop}
use Rattle.laws.specs.Text.{text}
use Rattle.laws.proofs.Order.{lt_or_le, eq_or_ne}
use Rattle.laws.proofs.Bools.{clash}
use Rattle.numbers.specs.Checksum.{checksum}
use Rattle.numbers.specs.Reading.{value_of, digits_from, starts_hex, unsigned_from, read_address, above, below, read_number, read_pair, says_sum, UnsignedRead, NumberRead, PairRead}
use Rattle.numbers.specs.Spelling.{UnsignedWord, decimal, hex, NumberWord, bare, signed_plus, signed_minus, AddressWord, address, HexPair, pair}
use Rattle.numbers.proofs.Value as value
use Rattle.numbers.proofs.Scan.{hex_empty, hex_one, hex_not_0, hex_second, unsigned_hex, unsigned_decimal, at_most, unsigned_most}
use Rattle.numbers.proofs.DigitWords.{scan_first, digits_read, digits_is}
use Rattle.numbers.proofs.Answers as answers

-- ---- unsigned numbers

-- decimal digits do not begin with `0x`, since x is none of them
pub decimal_plain : (most i : ℕ) (s : List ℕ) (n : ℕ) → digits_from 10 most i s ≡ Ok n → starts_hex s ≡ false
unfolding digits_from
decimal_plain most i [] n e = hex_empty
decimal_plain most i (a ∷ []) n e = hex_one a
decimal_plain most i (a ∷ b ∷ s) n e =
    ⊎_elim (λ z. rw z (hex_second b s ∙ ne_eqb b 120 no-x)) (λ z. hex_not_0 a (b ∷ s) z) (eq_or_ne a 48)
  where
    no-x : b ≡ 120 → ⊥
    no-x x =
        let f = scan_first 10 most 0 i a (b ∷ s) n e in
        let g = scan_first 10 most (0 * 10 + value_of a) (suc i) b s n f.others in
        omega (arith, g.digit, value.none_above b (omega arith))

-- what begins with `0x`
pub hex_front : (s : List ℕ) → starts_hex s ≡ true → s ≡ text "0x" ++ drop 2 s
unfolding text
hex_front [] h = clash h hex_empty
hex_front (a ∷ []) h = clash h (hex_one a)
hex_front (a ∷ b ∷ s) h =
    ⊎_elim (λ z. let x : b ≡ 120 = eqb-true b 120 (sym (hex_second b s) ∙ (rw z at h)) in ap₂ (λ (x y : ℕ). x ∷ y ∷ s) z x)
    (λ z. clash h (hex_not_0 a (b ∷ s) z)) (eq_or_ne a 48)

hex_starts : (s : List ℕ) → starts_hex (text "0x" ++ s) ≡ true
unfolding text
hex_starts s = hex_second 120 s

pub unsigned_read : {s : List ℕ} {n : ℕ} (most i : ℕ) → UnsignedWord s n → n ≤ most → unsigned_from most i s ≡ Ok n
unfolding text
unsigned_read most i (decimal {s} {n} r) h =
    let e = digits_read most i (omega arith) r h in unsigned_decimal most i s (decimal_plain most i s n e) ∙ e
unsigned_read most i (hex {s} {n} r) h = unsigned_hex most i (text "0x" ++ s) (hex_starts s) ∙ digits_read most (i + 2) (omega arith) r h

pub unsigned_is : (most i : ℕ) (s : List ℕ) (n : ℕ) → unsigned_from most i s ≡ Ok n → UnsignedWord s n × (n ≤ most)
unsigned_is most i s n e = (go (starts_hex s) refl, at_most (unsigned_from most i s) (unsigned_most most i s) e)
  where
    go : (t : Bool) → starts_hex s ≡ t → UnsignedWord s n
    go true h = rw (hex_front s h) (hex (digits_is 16 most (i + 2) (omega arith) (drop 2 s) n (sym (unsigned_hex most i s h) ∙ e)).0)
    go false h = decimal (digits_is 10 most i (omega arith) s n (sym (unsigned_decimal most i s h) ∙ e)).0

-- the first byte of an unsigned number is a decimal digit
pub unsigned_first : {s : List ℕ} {n : ℕ} → UnsignedWord s n → value_of (get_or s 0 0) < 10
unfolding text digits_from
unsigned_first (decimal {s} {n} r) = first s (digits_read n 0 (omega arith) r (omega arith))
  where
    first : (s : List ℕ) → digits_from 10 n 0 s ≡ Ok n → value_of (get_or s 0 0) < 10
    first [] e = let z : ◌≡◌ {A = ℕ} 0 1 = cc in absurd (omega arith)
    first (c ∷ s) e = (scan_first 10 n 0 0 c s n e).digit
unsigned_first (hex r) = omega (arith, value.figure_value 48 (omega arith) (omega arith))

-- ---- addresses

pub address_read : {s : List ℕ} {n : ℕ} → AddressWord s n → read_address s ≡ Ok n
unfolding read_address
address_read (address u h) = unsigned_read 99 0 u h

pub address_of_lem : (s : List ℕ) (n : ℕ) → read_address s ≡ Ok n → AddressWord s n
unfolding read_address
address_of_lem s n e = let k = unsigned_is 99 0 s n e in address k.0 k.1

pub address_iff : (s : List ℕ) (n : ℕ) → AddressWord s n ↔ (read_address s ≡ Ok n)
address_iff s n = (address_read, address_of_lem s n)

pub address_one : {s : List ℕ} {n m : ℕ} → AddressWord s n → AddressWord s m → n ≡ m
address_one p q = cc (address_read p, address_read q)

-- ---- numbers

-- an unsigned number begins with no sign, and is not empty
no_sign : {s : List ℕ} {n : ℕ} → UnsignedWord s n → (k : ℕ) → k < 48 → get_or s 0 0 ≡ k → ⊥
no_sign {s} u k h e = omega (arith, unsigned_first u, value.none_below (get_or s 0 0) (omega arith))

not_empty : {s : List ℕ} {n : ℕ} → UnsignedWord s n → length s ≡ 0 → ⊥
not_empty {s} u = go s (no_sign u 0 (omega arith))
  where
    go : (s : List ℕ) → (get_or s 0 0 ≡ 0 → ⊥) → length s ≡ 0 → ⊥
    go [] h e = h refl
    go (c ∷ s) h e = omega arith

pub number_read : {s : List ℕ} {v : ℤ} → NumberWord s v → read_number s ≡ Ok (record { 0 = v })
unfolding text
number_read (bare {s} {n} u h) =
    answers.read_bare s (not_empty u) (no_sign u 45 (omega arith)) (no_sign u 43 (omega arith)) ∙ ap above (unsigned_read 2147483647 0 u h)
number_read (signed_plus {s} {n} u h) = answers.read_plus (text "+" ++ s) refl ∙ ap above (unsigned_read 2147483647 1 u h)
number_read (signed_minus {s} {n} u h) = answers.read_minus (text "-" ++ s) refl ∙ ap below (unsigned_read 2147483648 1 u h)

-- a value that is read is read as one number
worth : NumberRead → ℤ
worth (Ok n) = n.0
worth (Err p) = pos 0

pub one_value : {v u : ℤ} → ◌≡◌ {A = NumberRead} (Ok (record { 0 = v })) (Ok (record { 0 = u })) → v ≡ u
unfolding worth
one_value e = ap worth e

-- what is read above zero or below it was read as a distance
above_is : (m : UnsignedRead) (v : ℤ) → above m ≡ Ok (record { 0 = v }) → (n : ℕ) × (m ≡ Ok n) × (pos n ≡ v)
above_is (Ok n) v e = (n, refl, one_value e)
above_is (Err p) v e = let z : ◌≡◌ {A = ℕ} 0 1 = cc in absurd (omega arith)

below_is : (m : UnsignedRead) (v : ℤ) → below m ≡ Ok (record { 0 = v }) → (n : ℕ) × (m ≡ Ok n) × (neg_ℤ (pos n) ≡ v)
below_is (Ok n) v e = (n, refl, one_value e)
below_is (Err p) v e = let z : ◌≡◌ {A = ℕ} 0 1 = cc in absurd (omega arith)

pub number_of : (s : List ℕ) (v : ℤ) → read_number s ≡ Ok (record { 0 = v }) → NumberWord s v
unfolding read_number text
number_of [] v e = let z : ◌≡◌ {A = ℕ} 0 1 = cc in absurd (omega arith)
number_of (c ∷ s) v e =
    ⊎_elim (λ m. let k = below_is (unsigned_from 2147483648 1 s) v (sym (answers.read_minus (c ∷ s) m) ∙ e) in
    let u = unsigned_is 2147483648 1 s k.0 k.1 in
    rw (m, ← k.2) (signed_minus u.0 u.1))
    (λ m. ⊎_elim (λ p. let k = above_is (unsigned_from 2147483647 1 s) v (sym (answers.read_plus (c ∷ s) p) ∙ e) in
    let u = unsigned_is 2147483647 1 s k.0 k.1 in
    rw (p, ← k.2) (signed_plus u.0 u.1))
    (λ p. let k = above_is (unsigned_from 2147483647 0 (c ∷ s)) v
    (sym (answers.read_bare (c ∷ s) (λ (z : length (c ∷ s) ≡ 0). omega arith) m p) ∙ e) in
    let u = unsigned_is 2147483647 0 (c ∷ s) k.0 k.1 in
    rw (← k.2) (bare u.0 u.1))
    (eq_or_ne c 43))
    (eq_or_ne c 45)

pub number_iff : (s : List ℕ) (v : ℤ) → NumberWord s v ↔ (read_number s ≡ Ok (record { 0 = v }))
number_iff s v = (number_read, number_of s v)

pub number_one : {s : List ℕ} {v u : ℤ} → NumberWord s v → NumberWord s u → v ≡ u
number_one p q = one_value (sym (number_read p) ∙ number_read q)

-- ---- pairs of hex digits

pub pair_read : {h l v : ℕ} → HexPair (h ∷ l ∷ []) v → read_pair h l ≡ Some v
pair_read {h} {l} (pair {high = a} {low = b} x y) =
    let p = value.digit_value (omega arith) x in
    let q = value.digit_value (omega arith) y in
    rw (answers.both h l (rw p (value.digit_below x)) (rw q (value.digit_below y)), p, q)

pub pair_of : (h l v : ℕ) → read_pair h l ≡ Some v → HexPair (h ∷ l ∷ []) v
pair_of h l v e =
    ⊎_elim (λ (j : value_of h < 16). ⊎_elim (λ (k : value_of l < 16).
    let q : value_of h * 16 + value_of l ≡ v = cc (answers.both h l j k) in
    rw (← q) (pair (value.digit_of 16 h (omega arith) j) (value.digit_of 16 l (omega arith) k)))
    (λ k. let z : ◌≡◌ {A = ℕ} 0 1 = cc (answers.no_low h l k) in absurd (omega arith)) (lt_or_le (value_of l) 16))
    (λ j. let z : ◌≡◌ {A = ℕ} 0 1 = cc (answers.no_high h l j) in absurd (omega arith))
    (lt_or_le (value_of h) 16)

pub pair_iff : (h l v : ℕ) → HexPair (h ∷ l ∷ []) v ↔ (read_pair h l ≡ Some v)
pair_iff h l v = (pair_read, pair_of h l v)

-- the pair that says the checksum of s is the pair of its checksum
pub says_pair : (s : List ℕ) (h l : ℕ) → says_sum s (read_pair h l) ≡ true → HexPair (h ∷ l ∷ []) (checksum s)
says_pair s h l t = go (read_pair h l) refl t
  where
    go : (p : PairRead) → read_pair h l ≡ p → says_sum s p ≡ true → HexPair (h ∷ l ∷ []) (checksum s)
    go (Some n) e t = rw (← eqb-true n (checksum s) t) (pair_of h l n e)
    go None e t = clash t refl
