-- The parts of an input, as a loop finds their ends one behind the other.
-- Assumes nothing.
use mathlib.Core.Path.{◌≡◌, refl, sym, ap, ◌∙◌}
use mathlib.Core.Bool.{Bool, true, false, cond}
use mathlib.Core.List.{List, [], ◌∷◌, ◌++◌}
use Prim.Native.Nat.{ℕ, zero, suc, min, ◌+◌, ◌≤◌, ◌<◌}
use native.Mathlib.Omega.{arith}
use lib.Dec.{eqb, leb-suc-suc}
use lib.ListN.{length, take, drop, length-drop}
use lib.Seq.{take-append_seam, drop-append_seam}
use borrow.Author.Tests.{le-leb}
use Rattle.std.proofs.Common.{Option, None, Some, nat_eq, nat_lt, not, position, max}
use Rattle.std.specs.List.{position_or_len, IsFirstMatchOrLen}
use Rattle.laws.specs.Text.{LF}
use Rattle.words.specs.Cutting.{grow}
use Rattle.input.specs.Parts.{parts, first_part}

-- a byte before a text whose first part is known
grown : (c : ℕ) (t : List ℕ) (b : Bool) → parts t ≡ take (first_part t) t ∷ parts (drop (first_part t) t)
    → (0 < cond b 1 (suc (first_part t))) × (cond b ((c ∷ []) ∷ parts t) (grow c (parts t)) ≡ take (cond b 1 (suc (first_part t))) (c ∷ t)
    ∷ parts (drop (cond b 1 (suc (first_part t))) (c ∷ t)))
unfolding grow
grown c t true e = (omega arith, refl)
grown c t false e = (omega arith, ap (grow c) e)

-- the first part, and the parts of what is left
pub parts_more : (s : List ℕ) → 0 < length s → (0 < first_part s) × (parts s ≡ take (first_part s) s ∷ parts (drop (first_part s) s))
unfolding parts first_part grow
parts_more [] h = absurd (omega arith)
parts_more (c ∷ []) h = go (eqb c LF)
  where
    go : (b : Bool) → (0 < cond b 1 1) × (cond b ((c ∷ []) ∷ []) ((c ∷ []) ∷ []) ≡ take (cond b 1 1) (c ∷ [])
        ∷ parts (drop (cond b 1 1) (c ∷ [])))
    go true = (omega arith, refl)
    go false = (omega arith, refl)
parts_more (c ∷ x ∷ s) h = grown c (x ∷ s) (eqb c LF) (parts_more (x ∷ s) (omega arith)).1

-- ---- the first part, by where its LF is found
abbrev pub lf : ℕ → Bool
lf c = nat_eq c 10

abbrev part_of : Option ℕ → ℕ → ℕ
part_of (Some i) n = i + 1
part_of None n = n

found : (s : List ℕ) → part_of (position lf s) (length s) ≡ first_part s
unfolding first_part
found [] = refl
found (c ∷ s) = go (eqb c 10) (found s)
  where
    more : (k n : ℕ) (t : Bool) → part_of (cond t (Some k) None) n ≡ first_part s
        → part_of (cond t (Some (suc k)) None) (suc n) ≡ suc (first_part s)
    more k n true ih = omega (arith, ih)
    more k n false ih = omega (arith, ih)

    go : (t : Bool) → part_of (position lf s) (length s) ≡ first_part s
        → part_of (cond (nat_lt (cond (not t) (1 + position_or_len lf s) 0) (suc (length s))) (Some (cond (not t) (1 + position_or_len lf s) 0)) None) (suc (length s))
        ≡ cond t 1 (suc (first_part s))
    go true ih = rw (le-leb 1 (suc (length s)) (omega arith)) refl
    go false ih =
        let k = position_or_len lf s in
        let one : 1 + k ≡ suc k = omega arith in
        simp (one, leb-suc-suc) (more k (length s) (nat_lt k (length s)) ih)

module _ (s : List ℕ) (at : ℕ) where
  pub part_found : {i : ℕ} → Some i ≡ position lf (drop at s) → at + i + 1 ≡ at + first_part (drop at s)
  part_found {i} e = omega (arith, ap (λ o. part_of o (length (drop at s))) e ∙ found (drop at s))

  pub part_whole : None ≡ position lf (drop at s) → max at (length s) ≡ at + first_part (drop at s)
  part_whole e =
      let whole = ap (λ o. part_of o (length (drop at s))) e ∙ found (drop at s) in
      omega (arith, whole, length-drop at s)

-- ---- the part from a place inside
part_le : (s : List ℕ) → first_part s ≤ length s
unfolding first_part
part_le [] = omega arith
part_le (c ∷ s) = go (eqb c LF) (part_le s)
  where
    go : (b : Bool) → first_part s ≤ length s → cond b 1 (suc (first_part s)) ≤ suc (length s)
    go true ih = omega arith
    go false ih = omega arith

module _ (s : List ℕ) (at : ℕ) {e : ℕ} (h : at < length s) (q : e ≡ at + first_part (drop at s)) where
  left : 0 < length (drop at s)
  left = rw length-drop (omega arith)

  pub part_past : at < e
  part_past = omega (arith, (parts_more (drop at s) left).0)

  pub part_inside : e ≤ length s
  part_inside = omega (arith, part_le (drop at s), length-drop at s)

-- ---- the parts, as the library's `split_inclusive` gives them
-- i is the place of the first LF, or the length
part_size : (s : List ℕ) (i : ℕ) → IsFirstMatchOrLen lf s i → first_part s ≡ min (i + 1) (length s)
unfolding first_part
part_size [] i h = omega arith
part_size (c ∷ s) zero h = rw (h.1 (omega arith) 0) (omega arith)
part_size (c ∷ s) (suc i) h =
    let rest : first_part s ≡ min (i + 1) (length s) =
    part_size s i (λ k d l m. h.0 (suc k) d (omega arith) (omega arith), λ l d. h.1 (omega arith) d) in
    rw (h.0 0 0 (omega arith) (omega arith)) (omega (arith, rest))

pub split_part : (s p left : List ℕ) (i : ℕ) → 0 < length s → s ≡ p ++ left → length p ≡ min (i + 1) (length s) → IsFirstMatchOrLen lf s i
    → parts s ≡ p ∷ parts left
split_part s p left i some whole long first =
    let size : first_part s ≡ length p = part_size s i first ∙ sym long in
    let front : take (first_part s) s ≡ p = rw (size, whole) (take-append_seam p left) in
    let back : drop (first_part s) s ≡ left = rw (size, whole) (drop-append_seam p left) in
    (parts_more s some).1 ∙ rw (front, back) refl
