-- The checksum of a body as specs/Refusals.antt finds it, at the end, is the one that the reading finds behind the first colon.
-- Assumes nothing.
use Rattle.laws.specs.declared.Refusal.TheVariants.{BadSum}
use Rattle.std.specs.Prelude.{Ok, Err}
use mathlib.Core.Path.{◌≡◌, refl, sym, ap, ◌∙◌}
use mathlib.Core.Logic.{⊎_elim}
use mathlib.Core.Bool.{Bool, true, false}
use mathlib.Core.List.{List}
use Prim.Native.Nat.{ℕ, suc, ◌+◌, ◌-◌, ◌≤◌, ◌<◌}
use native.Mathlib.Omega.{arith}
use lib.Dec.{eqb, leb}
use lib.ListN.{length, get_or, take, drop, length-drop, length-take, take-append-drop}
use lib.Seq.{drop-cons, take_all}
use borrow.Author.Tests.{le-leb, eq-eqb, eqb-true, leb-true}
use Rattle.laws.specs.Lists.{span, all}
use Rattle.laws.proofs.Order.{lt_or_le, eq_or_ne}
use Rattle.laws.proofs.Bools.{and_left, and_right}
use Rattle.laws.proofs.Span.{span_not, span_le}
use Rattle.laws.proofs.Passes.{Passes, pass_append, front_passes, passes_all, all_passes}
use Rattle.numbers.specs.Reading.{read_pair, says_sum}
use Rattle.line.specs.Reading.{no_colon, parted}
use Rattle.line.specs.Refusals.{checksum_right, bad_sum, content}
use Rattle.line.proofs.Frames.{colon_not, no_sum, not_3, sum_is}
use Rattle.line.proofs.Composed.{stop_byte}

-- a body is refused with 3, or has its content
pub data Sums (b : List ℕ) : Type 0 where
  bad : bad_sum b ≡ true → parted b ≡ Err BadSum → Sums b
  good : (n : ℕ) → bad_sum b ≡ false → parted b ≡ Ok n → n ≤ length b → take n b ≡ content b → Sums b

pub colon_here : (b : List ℕ) → span no_colon b < length b → get_or b (span no_colon b) 0 ≡ 58
colon_here b h =
    let n = span no_colon b in
    let k : 0 < length (drop n b) = omega (arith, length-drop n b) in
    rw (drop-cons b n 0 h) at (stop_byte b k)

some_colon : (b : List ℕ) → span no_colon b < length b → all no_colon b ≡ false
some_colon b h = go (all no_colon b) refl
  where
    go : (t : Bool) → all no_colon b ≡ t → all no_colon b ≡ false
    go false e = e
    go true e = absurd (omega (arith, all_passes no_colon b e))

-- the last three bytes begin at the first colon
module _ (b : List ℕ) (n : ℕ) (is : n ≡ span no_colon b) (h : n < length b) (three : length b - n ≡ 3) where
  sum_at : checksum_right b ≡ says_sum (take n b) (read_pair (get_or b (n + 1) 0) (get_or b (n + 2) 0))
  unfolding checksum_right
  sum_at =
      let p : length b - 3 ≡ n = omega arith in
      let q : length b - 2 ≡ n + 1 = omega arith in
      let r : length b - 1 ≡ n + 2 = omega arith in
      let l : 3 ≤ length b = omega arith in
      let c : get_or b n 0 ≡ 58 = rw is (colon_here b (rw is at h)) in
      let a : all no_colon (take n b) ≡ true = rw is (passes_all no_colon (take (span no_colon b) b) (front_passes no_colon b)) in
      simp (p, q, r, le-leb 3 (length b) l, eq-eqb (get_or b n 0) 58 c, a)

  sums_at : (t : Bool) → says_sum (take n b) (read_pair (get_or b (n + 1) 0) (get_or b (n + 2) 0)) ≡ t → Sums b
  unfolding bad_sum content
  sums_at true e =
      let p : length b - 3 ≡ n = omega arith in
      let x : all no_colon b ≡ false = some_colon b (rw is at h) in
      good n (simp (x, sum_at, e)) (sum_is b n is true three refl (sym e)) (omega arith) (rw (x, p))
  sums_at false e = let x : all no_colon b ≡ false = some_colon b (rw is at h) in
      bad (simp (x, sum_at, e)) (sum_is b n is false three refl (sym e))

-- they do not: then no checksum stands at the end
first_colon : (b : List ℕ) → checksum_right b ≡ true → length b - span no_colon b ≡ 3
unfolding checksum_right
first_colon b e =
    let m = length b - 3 in
    let s = take m b in
    let e2 = and_right (leb 3 (length b)) _ e in
    let l : 3 ≤ length b = leb-true 3 (length b) (and_left (leb 3 (length b)) _ e) in
    let c : get_or b m 0 ≡ 58 = eqb-true (get_or b m 0) 58 (and_left (eqb (get_or b m 0) 58) _ e2) in
    let a : Passes no_colon s = all_passes no_colon s (and_left (all no_colon s) _ (and_right (eqb (get_or b m 0) 58) _ e2)) in
    let k : m < length b = omega arith in
    let d : span no_colon (drop m b) ≡ 0 = rw (drop-cons b m 0 k)
    (span_not no_colon (get_or b m 0) (drop (suc m) b) (colon_not (get_or b m 0) c)) in
    let q : span no_colon b ≡ length s = ap (span no_colon) (sym (take-append-drop m b)) ∙ pass_append no_colon s (drop m b) a d in
    omega (arith, length-take m b)

sums_not : (b : List ℕ) → span no_colon b < length b → (length b - span no_colon b ≡ 3 → ⊥) → (t : Bool) → checksum_right b ≡ t → Sums b
unfolding bad_sum
sums_not b h k true e = absurd (k (first_colon b e))
sums_not b h k false e = bad (simp (some_colon b h, e)) (not_3 b (span no_colon b) refl h k)

pub sums : (b : List ℕ) → Sums b
unfolding bad_sum content
sums b =
    let n = span no_colon b in
    ⊎_elim (λ h. ⊎_elim (λ k. sums_at b n refl h k _ refl) (λ k. sums_not b h k (checksum_right b) refl) (eq_or_ne (length b - n) 3))
    (λ h. let j = span_le no_colon b in
    let p : Passes no_colon b = omega arith in
    let a = passes_all no_colon b p in
    good n (simp a) (no_sum b n refl h) j (rw a (take_all n b h)))
    (lt_or_le n (length b))
