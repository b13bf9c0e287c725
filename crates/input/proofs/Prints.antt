-- What a part is, by its first byte; a reply's buffer that is printed; that a name and a number of two digits are short; a caret.
-- Assumes nothing.
use mathlib.Core.Path.{◌≡◌, refl, sym, ap, ◌∙◌}
use mathlib.Core.Logic.{◌⊎◌, ⊎_elim}
use mathlib.Core.List.{List, [], ◌∷◌, ◌++◌}
use Prim.Native.Nat.{ℕ, zero, suc, ◌+◌, ◌≤◌, ◌<◌, min}
use native.Mathlib.Numerals.{add-one}
use native.Mathlib.Omega.{arith}
use lib.Dec.{eqb}
use lib.ListN.{length, take, replicate, length-append, length-replicate}
use lib.Seq.{take_all}
use borrow.Author.Tests.{eq-eqb, ne_eqb}
use Rattle.laws.specs.Text.{text, same, space}
use Rattle.std.specs.List.{starts_with}
use Rattle.laws.proofs.Order.{lt_or_le, eq_or_ne}
use Rattle.numbers.proofs.Decimal.{digits_length}
use Rattle.buffer.specs.Wrote.{Wrote}
use Rattle.buffer.proofs.Wrote.{◌▸◌, wrote_none}
use Rattle.input.specs.Prints.{is_report, told, reported, answered, caret}

pub starts_with_r : (p : List ℕ) → starts_with eqb p (82 ∷ []) ≡ is_report p
unfolding is_report same text
starts_with_r [] = refl
starts_with_r (c ∷ p) =
    ⊎_elim (λ (h : c ≡ 82). rw h refl) (λ (h : c ≡ 82 → ⊥). rw (ne_eqb c 82 h, ne_eqb 82 c (λ e. h (sym e))) refl) (eq_or_ne c 82)

-- as many as there are
pub first_bytes : {X : Type 0} (n m : ℕ) (s : List X) → n ≡ min m (length s) → take n s ≡ take m s
first_bytes n m s e =
    ⊎_elim (λ (h : length s < m). take_all n s (omega arith) ∙ sym (take_all m s (omega arith)))
    (λ (h : m ≤ length s). let z : n ≡ m = omega arith in rw z)
    (lt_or_le (length s) m)

module _ (number long : ℕ) (s : List ℕ) {b o : List ℕ} {at r : ℕ} where
  pub answer_silent : long ≡ 0 → Wrote b at (told (text "silent ") number) o r → Wrote b at (answered number long s) o r
  unfolding answered
  answer_silent h w = rw (eq-eqb long 0 h) w

  pub answer_reply : (long ≡ 0 → ⊥) → {n : ℕ} → n ≡ min long (length s) → Wrote b at (take n s) o r
      → Wrote b at (answered number long s) o r
  unfolding answered
  answer_reply h {n} e w = rw (ne_eqb long 0 h, ← first_bytes n long s e) w

pub report_alert : (number long : ℕ) (s : List ℕ) {b c o : List ℕ} {at q r : ℕ} → Wrote b at (told (text "report ") number) c q
    → {n : ℕ} → n ≡ min long (length s) → Wrote c q (take n s) o r → Wrote b at (reported number long s) o r
unfolding reported
report_alert number long s v {n} e w = v ▸ (rw (first_bytes n long s e) at w)

pub told_short : (name : List ℕ) (n : ℕ) → length name ≤ 7 → n < 100 → length (told name n) ≤ 10
unfolding told text
told_short name n h k = rw (length-append, length-append) (omega (arith, digits_length 1 n k))

-- ---- a caret, and the spaces before it one by one
spaces_more : (i : ℕ) → replicate i space ++ space ∷ [] ≡ replicate (suc i) space
spaces_more zero = refl
spaces_more (suc i) = ap (λ (s : List ℕ). space ∷ s) (spaces_more i)

pub caret_none : {b : List ℕ} {at : ℕ} (p : ℕ) → p ≡ 255 → Wrote b at (caret p) b at
unfolding caret
caret_none {b} {at} p e = rw (eq-eqb p 255 e) (wrote_none b at)

module _ {b c : List ℕ} {at r : ℕ} where
  pub caret_more : {d : List ℕ} {q : ℕ} (i : ℕ) → Wrote b at (replicate i 32) c r → Wrote c r (32 ∷ []) d q
      → Wrote b at (replicate (i + 1) 32) d q
  caret_more i v w = rw (add-one, ← spaces_more i) (v ▸ w)

  pub caret_end : {d : List ℕ} {q : ℕ} (p i : ℕ) → (p ≡ 255 → ⊥) → i ≡ p → Wrote b at (replicate i 32) c r → Wrote c r (text "^\n") d q
      → Wrote b at (caret p) d q
  unfolding caret
  caret_end p i h e v w = rw (ne_eqb p 255 h, ← e) (v ▸ w)

pub caret_short : (p : ℕ) → (p ≡ 255) ⊎ (p < 80) → length (caret p) ≤ 81
unfolding caret text
caret_short p h =
    ⊎_elim (λ e. rw (eq-eqb p 255 e) (omega arith))
    (λ l. rw (ne_eqb p 255 (λ e. omega (arith, e, l)), length-append, length-replicate) (omega arith))
    h
