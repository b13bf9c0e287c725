-- The place of a word in a list of words, and a list whose words are all different.
-- Assumes nothing.
use Rattle.std.proofs.Common.{Some, None}
use Rattle.std.specs.Option.{unwrap_or}
use mathlib.Core.Logic.{⊎_elim}
use mathlib.Core.Path.{◌≡◌, refl, sym, ap, ◌∙◌}
use mathlib.Core.Bool.{Bool, true, false, cond, ◌&&◌}
use mathlib.Core.List.{List, [], ◌∷◌}
use Prim.Native.Nat.{ℕ, zero, suc, ◌+◌, ◌-◌, ◌≤◌, ◌<◌}
use native.Mathlib.Omega.{arith}
use lib.Dec.{eqb}
use borrow.Author.Tests.{eqb-true, lt-ltb, le-ltb}
use lib.ListN.{length, get_or, take, drop, drop_of_length-le}
use Rattle.words.specs.Cutting.{cut}
use Rattle.words.proofs.Cut.{Part, part_cut, cut_none}
use Rattle.laws.specs.Text.{same}
use Rattle.laws.proofs.Bools.{and_left, and_right}
use Rattle.laws.proofs.Order.{lt_or_le}
use Rattle.words.specs.Find.{index, found}
use Rattle.laws.proofs.Same.{same_true}

pub index_none : (w : List ℕ) → index w [] ≡ 0
unfolding index
index_none w = refl

pub index_here : (w v : List ℕ) (vs : List (List ℕ)) → same w v ≡ true → index w (v ∷ vs) ≡ 0
unfolding index
index_here w v vs h = rw h

pub index_past : (w v : List ℕ) (vs : List (List ℕ)) → same w v ≡ false → index w (v ∷ vs) ≡ suc (index w vs)
unfolding index
index_past w v vs h = rw h

-- what is found is the word
pub index_is : (w : List ℕ) (vs : List (List ℕ)) → index w vs < length vs → get_or vs (index w vs) [] ≡ w
index_is w [] h = absurd (omega arith)
index_is w (v ∷ vs) h = go (same w v) refl (index_is w vs)
  where
    go : (b : Bool) → same w v ≡ b → (index w vs < length vs → get_or vs (index w vs) [] ≡ w) → get_or (v ∷ vs) (index w (v ∷ vs)) [] ≡ w
    go true e ih = rw (index_here w v vs e) (sym (same_true w v e))
    go false e ih = rw (index_past w v vs e) (ih (omega (arith, index_past w v vs e)))

pub index_le : (w : List ℕ) (vs : List (List ℕ)) → index w vs ≤ length vs
unfolding index
index_le w [] = omega arith
index_le w (v ∷ vs) = go (same w v) (index_le w vs)
  where
    go : (b : Bool) → index w vs ≤ length vs → cond b 0 (suc (index w vs)) ≤ suc (length vs)
    go true ih = omega arith
    go false ih = omega arith

-- the place that is found, or how many words there are: the place
pub found_place : (w : List ℕ) (vs : List (List ℕ)) → unwrap_or (found w vs) (length vs) ≡ index w vs
found_place w vs =
    ⊎_elim (λ h. rw (lt-ltb (index w vs) (length vs) h))
    (λ h. rw (le-ltb (index w vs) (length vs) h) (omega (arith, index_le w vs)))
    (lt_or_le (index w vs) (length vs))

-- the loop of `find_word`, which has passed k words and stands at the place at
pub record Passed (w s : List ℕ) (k at : ℕ) : Type 0 where
  pub place : k + index w (cut (drop at s)) ≡ index w (cut s)
  pub count : k + length (cut (drop at s)) ≡ length (cut s)

module _ (w s : List ℕ) (k at : ℕ) (so : Passed w s k at) where
  pub none_left : cut (drop at s) ≡ [] → None ≡ found w (cut s)
  none_left e =
      let y = rw (e, index_none w) at so.place in
      let z = rw e at so.count in
      let past : length (cut s) ≤ index w (cut s) = omega arith in
      rw (le-ltb (index w (cut s)) (length (cut s)) past)

  pub ended : length s ≤ at → None ≡ found w (cut s)
  ended h = none_left (ap cut (drop_of_length-le s h) ∙ cut_none)

  module _ (a e : ℕ) (p : Part s at a e) where
    pub here : same w (take (e - a) (drop a s)) ≡ true → Some k ≡ found w (cut s)
    here h =
        let y = rw (part_cut p, index_here w (take (e - a) (drop a s)) (cut (drop e s)) h) at so.place in
        let z = rw (part_cut p) at so.count in
        let before : index w (cut s) < length (cut s) = omega arith in
        let is : k ≡ index w (cut s) = omega arith in
        rw (lt-ltb (index w (cut s)) (length (cut s)) before, is)

    pub past : same w (take (e - a) (drop a s)) ≡ false → Passed w s (k + 1) e
    past h =
        let y = rw (part_cut p, index_past w (take (e - a) (drop a s)) (cut (drop e s)) h) at so.place in
        let z = rw (part_cut p) at so.count in
        record { place = omega arith; count = omega arith }

-- ---- a table whose words are all different: a test that antt computes, and what it says of each place
abbrev places : List (List ℕ) → ℕ → List (List ℕ) → Bool
places all k [] = true
places all k (v ∷ vs) = eqb (index v all) k && places all (suc k) vs

unfoldable pub distinct : List (List ℕ) → Bool
distinct vs = places vs 0 vs

place_from : (all vs : List (List ℕ)) (k i : ℕ) → places all k vs ≡ true → i < length vs → index (get_or vs i []) all ≡ k + i
place_from all [] k i t h = absurd (omega arith)
place_from all (v ∷ vs) k zero t h = eqb-true (index v all) k (and_left _ _ t) ∙ omega arith
place_from all (v ∷ vs) k (suc i) t h = place_from all vs (suc k) i (and_right (eqb (index v all) k) _ t) (omega arith) ∙ omega arith

pub place : (vs : List (List ℕ)) (i : ℕ) → distinct vs ≡ true → i < length vs → index (get_or vs i []) vs ≡ i
unfolding distinct
place vs i t h = place_from vs vs 0 i t h ∙ omega arith
