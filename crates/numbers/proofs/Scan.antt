-- Reading digits one after the other, and the `0x` before them: each way that a step can go.
-- Assumes nothing.
use Rattle.std.specs.Prelude.{Err, Ok}
use mathlib.Core.Path.{◌≡◌, refl, sym, subst, ◌∙◌}
use mathlib.Core.Logic.{⊎_elim}
use mathlib.Core.Bool.{Bool, true, false, cond, ◌&&◌}
use mathlib.Core.List.{List, [], ◌∷◌}
use Prim.Native.Nat.{ℕ, suc, ◌+◌, ◌*◌, ◌≤◌, ◌<◌}
use native.Mathlib.Omega.{arith}
use native.Mathlib.Nat.{mul-le-mul}
use native.Mathlib.Numerals.{add-one}
use lib.Dec.{eqb, ltb, leb}
use lib.ListN.{length, get_or, take, drop, drop_of_length-le, length-drop}
use lib.Seq.{drop-cons, drop-drop}
use borrow.Author.Tests.{lt-ltb, le-ltb, le-leb, lt-leb, leb-true, ne_eqb}
use mir.Syntax.{w8, w32, w64}
use mir.Val.{Fits}
use Rattle.laws.specs.Text.{text, same}
use Rattle.laws.proofs.Order.{lt_or_le}
use Rattle.laws.proofs.Same.{same_is, same_flip}
use Rattle.std.specs.List.{starts_with}
use Rattle.laws.proofs.Bools.{and_false, and_right, clash}
use Rattle.numbers.specs.Reading.{value_of, scan, digits_from, starts_hex, unsigned_from, AtMost, UnsignedRead}

-- whether the byte may stand there: a digit that may, a byte that is no digit, a digit that carries the value past `most`
module _ (b most n i c : ℕ) (s : List ℕ) where
  pub scan_goes : (ltb (value_of c) b && leb (n * b + value_of c) most) ≡ true
      → scan b most n i (c ∷ s) ≡ scan b most (n * b + value_of c) (suc i) s
  unfolding scan
  scan_goes h = rw h

  pub scan_small : (ltb (value_of c) b && leb (n * b + value_of c) most) ≡ true → n * b + value_of c ≤ most
  scan_small h = leb-true (n * b + value_of c) most (and_right (ltb (value_of c) b) (leb (n * b + value_of c) most) h)

  pub scan_ends : (ltb (value_of c) b && leb (n * b + value_of c) most) ≡ false → scan b most n i (c ∷ s) ≡ Err i
  unfolding scan
  scan_ends h = rw h

  pub scan_digit : value_of c < b → n * b + value_of c ≤ most → scan b most n i (c ∷ s) ≡ scan b most (n * b + value_of c) (suc i) s
  scan_digit h k = scan_goes (simp (lt-ltb (value_of c) b h, le-leb (n * b + value_of c) most k))

  pub scan_stop : b ≤ value_of c → scan b most n i (c ∷ s) ≡ Err i
  scan_stop h = scan_ends (simp (le-ltb (value_of c) b h))

  pub scan_past : most < n * b + value_of c → scan b most n i (c ∷ s) ≡ Err i
  scan_past h = scan_ends (simp (lt-leb (n * b + value_of c) most h, and_false))

-- the loop of `digits`: reading on from place i with the number n is reading from the first place on
module _ (b most from : ℕ) (w : List ℕ) where
  pub digits_none : length w ≤ from → Err from ≡ digits_from b most from (drop from w)
  unfolding digits_from
  digits_none h = rw (drop_of_length-le w h)

  pub digits_first : from < length w → scan b most 0 from (drop from w) ≡ digits_from b most from (drop from w)
  unfolding digits_from
  digits_first h = rw (drop-cons w from 0 h)

  module _ (n i : ℕ) (so : scan b most n i (drop i w) ≡ digits_from b most from (drop from w)) where
    pub digits_end : length w ≤ i → Ok n ≡ digits_from b most from (drop from w)
    unfolding scan
    digits_end h = rw (drop_of_length-le w h) at so

    module _ (h : i < length w) where
      here : scan b most n i (get_or w i 0 ∷ drop (suc i) w) ≡ digits_from b most from (drop from w)
      here = rw (drop-cons w i 0 h) at so

      digits_stop : (ltb (value_of (get_or w i 0)) b && leb (n * b + value_of (get_or w i 0)) most) ≡ false
          → Err i ≡ digits_from b most from (drop from w)
      digits_stop k = sym (scan_ends b most n i (get_or w i 0) (drop (suc i) w) k) ∙ here

      pub digits_past : most < n * b + value_of (get_or w i 0) → Err i ≡ digits_from b most from (drop from w)
      digits_past k = digits_stop (simp (lt-leb (n * b + value_of (get_or w i 0)) most k, and_false))

      pub digits_other : b ≤ value_of (get_or w i 0) → Err i ≡ digits_from b most from (drop from w)
      digits_other k = digits_stop (simp (le-ltb (value_of (get_or w i 0)) b k))

      pub digits_more : value_of (get_or w i 0) < b → n * b + value_of (get_or w i 0) ≤ most
          → scan b most (n * b + value_of (get_or w i 0)) (i + 1) (drop (i + 1) w) ≡ digits_from b most from (drop from w)
      digits_more j k = rw add-one (sym (scan_digit b most n i (get_or w i 0) (drop (suc i) w) j k) ∙ here)

-- one digit more fits 64 bits
module _ {n most b : ℕ} (h : n ≤ most) (m : Fits w32 most) (k : Fits w8 b) where
  product : n * b ≤ 4294967295 * 255
  product =
      let p : n ≤ 4294967295 = omega (arith, m.fits) in
      let q : b ≤ 255 = omega (arith, k.fits) in
      mul-le-mul p q

  pub product_fits : Fits w64 (n * b)
  product_fits = record { fits = omega (arith, product) }

  pub next_fits : {d : ℕ} → d ≤ 99 → Fits w64 (n * b + d)
  next_fits l = record { fits = omega (arith, product) }

-- whether `0x` stands at place i
no_way : (t : Bool) → cond t false false ≡ false
no_way true = refl
no_way false = refl

itself : (t : Bool) → cond t true false ≡ t
itself true = refl
itself false = refl

pub hex_empty : starts_hex [] ≡ false
unfolding starts_hex same text
hex_empty = refl

pub hex_one : (a : ℕ) → starts_hex (a ∷ []) ≡ false
unfolding starts_hex same text
hex_one a = no_way (eqb a 48)

pub hex_not_0 : (a : ℕ) (s : List ℕ) → (a ≡ 48 → ⊥) → starts_hex (a ∷ s) ≡ false
unfolding starts_hex same text
hex_not_0 a s h = rw (ne_eqb a 48 h)

pub hex_second : (b : ℕ) (s : List ℕ) → starts_hex (48 ∷ b ∷ s) ≡ eqb b 120
unfolding starts_hex same text
hex_second b s = itself (eqb b 120)

-- the library's `starts_with`
pub hex_is : (s : List ℕ) → starts_with eqb s (48 ∷ 120 ∷ []) ≡ starts_hex s
unfolding starts_hex text
hex_is s = same_is (48 ∷ 120 ∷ []) (take 2 s) ∙ same_flip (48 ∷ 120 ∷ []) (take 2 s)

pub hex_end : (w : List ℕ) (i : ℕ) → length w ≤ i → false ≡ starts_hex (drop i w)
unfolding starts_hex same text
hex_end w i h = rw (drop_of_length-le w h)

-- what is read so is never above `most`
pub at_most : {most n : ℕ} (m : UnsignedRead) → AtMost most m → m ≡ Ok n → n ≤ most
at_most {most} m h e = subst (λ (x : UnsignedRead). AtMost most x) e h

scan_most : (b most n i : ℕ) (s : List ℕ) → n ≤ most → AtMost most (scan b most n i s)
unfolding scan
scan_most b most n i [] h = h
scan_most b most n i (c ∷ s) h =
    ⊎_elim (λ (k : value_of c < b). ⊎_elim (λ p. rw (scan_past b most n i c s p) (omega arith))
    (λ p. rw (scan_digit b most n i c s k p) (scan_most b most (n * b + value_of c) (suc i) s p))
    (lt_or_le most (n * b + value_of c)))
    (λ k. rw (scan_stop b most n i c s k) (omega arith))
    (lt_or_le (value_of c) b)

pub digits_most : (b most i : ℕ) (s : List ℕ) → AtMost most (digits_from b most i s)
unfolding digits_from
digits_most b most i [] = omega arith
digits_most b most i (c ∷ s) = scan_most b most 0 i (c ∷ s) (omega arith)

pub unsigned_most : (most i : ℕ) (s : List ℕ) → AtMost most (unsigned_from most i s)
unfolding unsigned_from
unsigned_most most i s = go (starts_hex s)
  where
    go : (t : Bool) → AtMost most (cond t (digits_from 16 most (i + 2) (drop 2 s)) (digits_from 10 most i s))
    go true = digits_most 16 most (i + 2) (drop 2 s)
    go false = digits_most 10 most i s

-- the two ways of `unsigned`
pub unsigned_hex : (most i : ℕ) (s : List ℕ) → starts_hex s ≡ true → unsigned_from most i s ≡ digits_from 16 most (i + 2) (drop 2 s)
unfolding unsigned_from
unsigned_hex most i s h = rw h

pub unsigned_decimal : (most i : ℕ) (s : List ℕ) → starts_hex s ≡ false → unsigned_from most i s ≡ digits_from 10 most i s
unfolding unsigned_from
unsigned_decimal most i s h = rw h

-- where `0x` stands, two bytes stand
hex_two : (s : List ℕ) → starts_hex s ≡ true → 2 ≤ length s
hex_two [] h = clash h hex_empty
hex_two (a ∷ []) h = clash h (hex_one a)
hex_two (a ∷ b ∷ s) h = omega arith

pub hex_room : (w : List ℕ) (i : ℕ) → starts_hex (drop i w) ≡ true → i + 2 ≤ length w
hex_room w i h = omega (arith, hex_two (drop i w) h, length-drop i w)

-- the answers of `unsigned`, which reads from place i of w on
module _ (most i : ℕ) (w : List ℕ) {r : UnsignedRead} where
  pub read_hex : starts_hex (drop i w) ≡ true → r ≡ digits_from 16 most (i + 2) (drop (i + 2) w) → r ≡ unsigned_from most i (drop i w)
  read_hex h e = e ∙ rw (← drop-drop 2 i w) (sym (unsigned_hex most i (drop i w) h))

  pub read_decimal : starts_hex (drop i w) ≡ false → r ≡ digits_from 10 most i (drop i w) → r ≡ unsigned_from most i (drop i w)
  read_decimal h e = e ∙ sym (unsigned_decimal most i (drop i w) h)
