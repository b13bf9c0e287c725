-- What is told, as its writers have it: the values that are listed, one behind the other, and the part of a line.
-- Assumes nothing.
use mathlib.Core.Path.{◌≡◌, refl, sym, ◌∙◌}
use mathlib.Core.Bool.{Bool, true, false, cond}
use mathlib.Core.List.{List, [], ◌∷◌, ◌++◌}
use Prim.Native.Nat.{ℕ, zero, suc, ◌+◌, ◌-◌, ◌≤◌, ◌<◌, min}
use native.Mathlib.Numerals.{add-one}
use native.Mathlib.Omega.{arith}
use lib.ListN.{length, get_or, take, drop, length-take, length-drop}
use lib.Seq.{take_all, take-suc}
use mir.Val.{bool_byte}
use Rattle.laws.specs.Text.{space, text, spaced}
use Rattle.laws.proofs.Folds.{part_clip, length_part, get_d_part}
use Rattle.units.specs.declared.Number.{Number}
use Rattle.numbers.specs.Decimal.{decimal}
use Rattle.buffer.specs.Wrote.{Wrote}
use Rattle.buffer.proofs.Wrote.{◌▸◌, wrote_none}
use Rattle.reply.specs.Data.{values}
use Rattle.reply.specs.Told.{carried}
use Rattle.reply.proofs.Lists.{values_first, values_next}

-- ---- the parking state is a digit
pub parked_is : (p : Bool) → (48 + bool_byte p) ∷ [] ≡ cond p (text "1") (text "0")
unfolding text
parked_is true = refl
parked_is false = refl

-- ---- values one behind the other
pub values_start : (b : List ℕ) (at : ℕ) → Wrote b at (values []) b at
unfolding values spaced
values_start b at = wrote_none b at

-- a turn of the loop: the value at the place is the first, or stands behind a space
module _ (ns : List Number) (i : ℕ) (z : Number) (h : i < length ns) where
  abbrev value : Number
  value = get_or ns i z

  one_more : take (i + 1) ns ≡ take i ns ++ (value ∷ [])
  one_more = rw (add-one, take-suc ns i z h)

  so_far : length (take i ns) ≡ i
  so_far = length-take i ns ∙ omega arith

  module _ {b : List ℕ} {at : ℕ} {c d e : List ℕ} {r s t : ℕ} (p : Wrote b at (values (take i ns)) c r) where
    pub values_more : 0 < i → {g : List ℕ} {n : ℕ} → Wrote c r (space ∷ []) g n → d ≡ g → s ≡ n → Wrote d s (decimal value.0) e t
        → Wrote b at (values (take (i + 1) ns)) e t
    values_more q u y k w = rw (one_more, ← values_next (take i ns) value (omega (arith, so_far))) (p ▸ u ▸ (rw (y, k) at w))

    pub values_one : i ≤ 0 → d ≡ c → s ≡ r → Wrote d s (decimal value.0) e t → Wrote b at (values (take (i + 1) ns)) e t
    values_one q y k w = rw (one_more, ← values_first (take i ns) value (omega (arith, so_far))) (p ▸ (rw (y, k) at w))

-- ---- the part of a line: a part of what stands before a place is a part of the whole
before_place : (i n e : ℕ) (l : List ℕ) → i + n ≤ e → take n (drop i (take e l)) ≡ take n (drop i l)
before_place zero zero e l h = refl
before_place zero (suc n) zero l h = absurd (omega arith)
before_place zero (suc n) (suc e) [] h = refl
before_place zero (suc n) (suc e) (x ∷ l) h = rw (before_place zero n e l (omega arith))
before_place (suc i) n zero l h = absurd (omega arith)
before_place (suc i) n (suc e) [] h = refl
before_place (suc i) n (suc e) (x ∷ l) h = before_place i n e l (omega arith)

pub carried_part : (l : List ℕ) (from end stop start : ℕ) → stop ≡ min end (length l) → start ≡ min from stop
    → take (stop - start) (drop start l) ≡ carried l from end
unfolding carried
carried_part l from end stop start p q =
    let x : List ℕ = take end l in
    let size : length x ≡ stop = length-take end l ∙ rw p in
    let whole : drop from x ≡ take (length x) (drop from x) = sym (take_all (length x) (drop from x) (omega (arith, length-drop from x))) in
    let many : min stop (stop - start) ≡ stop - start = omega arith in
    rw (whole, part_clip from (length x) x, size, ← q, many) (sym (before_place start (stop - start) end l (omega arith)))
