-- Body and footer of a line as specs/Refusals.antt finds them, from its end; and that a line is so parted exactly where 1 does
-- not refuse it.
-- Assumes nothing.
use mathlib.Core.Path.{◌≡◌, refl, ap, ◌∙◌}
use mathlib.Core.Bool.{Bool, true, false, cond}
use mathlib.Core.List.{List, [], ◌∷◌, ◌++◌}
use Prim.Native.Nat.{ℕ, suc, ◌+◌, ◌-◌, ◌≤◌, ◌<◌}
use native.Mathlib.Omega.{arith}
use lib.Dec.{eqb}
use lib.ListN.{length, get_or, take, drop, length-append, take-append-drop, drop_of_length-le}
use lib.Seq.{take-append_seam, drop-cons, get_or-append-add}
use borrow.Author.Tests.{ne_eqb, not-false}
use Rattle.laws.specs.Lists.{all}
use Rattle.laws.proofs.Bools.{clash, or_left, or_right}
use Rattle.laws.proofs.Passes.{Passes, pass_head, passes_all, all_passes}
use Rattle.line.specs.Spelling.{Footer}
use Rattle.line.specs.Reading.{printable, is_end}
use Rattle.line.specs.Refusals.{footer_size, body, not_line}
use Rattle.line.proofs.Frames.{low, between}
use Rattle.line.proofs.Composed.{end_yes, end_low, end_of}

-- bytes from the end of a line, whose body is b and whose footer is f
at_end : (x : ℕ) (b f : List ℕ) (i : ℕ) → get_or (x ∷ (b ++ f)) (suc (length b + i)) 0 ≡ get_or f i 0
at_end x b f i = get_or-append-add b f i 0

before_end : (x : ℕ) (b f : List ℕ) → printable x ≡ true → Passes printable b → printable (get_or (x ∷ (b ++ f)) (length b) 0) ≡ true
before_end x [] f h k = h
before_end x (y ∷ b) f h k = let r = pass_head printable y b (printable y) refl k in before_end y b f r.0 r.1

pub no_end : (c : ℕ) → printable c ≡ true → is_end c ≡ false
no_end c h = go (is_end c) refl
  where
    go : (b : Bool) → is_end c ≡ b → is_end c ≡ false
    go false e = e
    go true e = clash h (low c (end_low (end_of c e)))

-- the size of the footer by the last two bytes, and the body by the size of the footer
module _ (t : List ℕ) where
  size_is : (i : ℕ) (a b : Bool) → length t - 1 ≡ i → is_end (get_or (47 ∷ t) (length t) 0) ≡ a → is_end (get_or (47 ∷ t) i 0) ≡ b
      → footer_size (47 ∷ t) ≡ cond a (cond b 2 1) 0
  unfolding footer_size
  size_is i a b e p q =
      let last : length (47 ∷ t) - 1 ≡ length t = omega arith in
      let second : length (47 ∷ t) - 2 ≡ i = omega arith in
      rw (last, second, p, q)

  body_size : (k n : ℕ) → footer_size (47 ∷ t) ≡ k → length t ≡ n + k → body (47 ∷ t) ≡ take n t
  unfolding body
  body_size k n e h = let q : length (47 ∷ t) - 1 - k ≡ n = omega arith in rw (e, q)

pub slash_printable : printable 47 ≡ true
slash_printable = between 47 (omega arith) (omega arith)

foot_size : {f : List ℕ} (b : List ℕ) → Passes printable b → Footer f → footer_size (47 ∷ (b ++ f)) ≡ length f
foot_size b k (Footer.one {c} h) =
    let t = b ++ c ∷ [] in
    let n = length-append b (c ∷ []) in
    let last : length t ≡ suc (length b + 0) = omega arith in
    let second : length t - 1 ≡ length b = omega arith in
    size_is t (length b) true false second (ap (λ (i : ℕ). is_end (get_or (47 ∷ t) i 0)) last ∙ ap is_end (at_end 47 b (c ∷ []) 0) ∙ end_yes h)
    (no_end _ (before_end 47 b (c ∷ []) slash_printable k))
foot_size b k (Footer.two {c} {d} h g) =
    let t = b ++ c ∷ d ∷ [] in
    let n = length-append b (c ∷ d ∷ []) in
    let last : length t ≡ suc (length b + 1) = omega arith in
    let second : length t - 1 ≡ suc (length b + 0) = omega arith in
    size_is t (suc (length b + 0)) true true second
    (ap (λ (i : ℕ). is_end (get_or (47 ∷ t) i 0)) last ∙ ap is_end (at_end 47 b (c ∷ d ∷ []) 1) ∙ end_yes g)
    (ap is_end (at_end 47 b (c ∷ d ∷ []) 0) ∙ end_yes h)

footer_some : {f : List ℕ} → Footer f → (length f ≡ 0 → ⊥)
footer_some (Footer.one h) e = omega arith
footer_some (Footer.two h k) e = omega arith

module _ (b f : List ℕ) (k : Passes printable b) (g : Footer f) where
  pub body_is : body (47 ∷ (b ++ f)) ≡ b
  body_is = body_size (b ++ f) (length f) (length b) (foot_size b k g) (length-append b f) ∙ take-append_seam b f

  pub is_line : not_line (47 ∷ (b ++ f)) ≡ false
  unfolding not_line
  is_line = simp (body_is, passes_all printable b k, foot_size b k g, ne_eqb (length f) 0 (footer_some g))

-- a line that 1 does not refuse has a body and a footer
pub record Split (t : List ℕ) : Type 0 where
  pub front : List ℕ
  pub back : List ℕ
  pub whole : front ++ back ≡ t
  pub passes : Passes printable front
  pub footer : Footer back

last_one : (t : List ℕ) (n : ℕ) → length t ≡ suc n → drop n t ≡ get_or t n 0 ∷ []
last_one t n h =
    let k : n < length t = omega arith in
    let j : length t ≤ suc n = omega arith in
    rw (drop-cons t n 0 k, drop_of_length-le t j)

last_two : (t : List ℕ) (n : ℕ) → length t ≡ suc (suc n) → drop n t ≡ get_or t n 0 ∷ get_or t (suc n) 0 ∷ []
last_two t n h = let k : n < length t = omega arith in rw (drop-cons t n 0 k, last_one t (suc n) h)

split_at : (t : List ℕ) (n : ℕ) (f : List ℕ) → drop n t ≡ f → Footer f → all printable (take n t) ≡ true → Split t
split_at t n f q g e = record {
  front = take n t;
  back = drop n t;
  whole =
      take-append-drop n t;
  passes = all_passes printable (take n t) e;
  footer = rw q g;
}

split_size : (t : List ℕ) (i : ℕ) (a b : Bool) → length t - 1 ≡ i → is_end (get_or (47 ∷ t) (length t) 0) ≡ a → is_end (get_or (47 ∷ t) i 0) ≡ b
    → eqb (footer_size (47 ∷ t)) 0 ≡ false → all printable (body (47 ∷ t)) ≡ true → Split t
split_size t i false b h p q z e = let y = rw (size_is t i false b h p q) at z in clash refl y
split_size [] i true b h p q z e = clash p (no_end 47 slash_printable)
split_size (x ∷ t) i true false h p q z e =
    split_at (x ∷ t) (length t) _ (last_one (x ∷ t) (length t) refl) (Footer.one (end_of _ p))
    (rw (body_size (x ∷ t) 1 (length t) (size_is (x ∷ t) i true false h p q) (omega arith)) at e)
split_size (x ∷ []) i true true h p q z e = let j : i ≡ 0 = omega arith in clash (rw j at q) (no_end 47 slash_printable)
split_size (x ∷ y ∷ t) i true true h p q z e =
    let j : i ≡ suc (length t) = omega arith in
    split_at (x ∷ y ∷ t) (length t) _ (last_two (x ∷ y ∷ t) (length t) refl) (Footer.two (end_of _ (rw j at q)) (end_of _ p))
    (rw (body_size (x ∷ y ∷ t) 2 (length t) (size_is (x ∷ y ∷ t) i true true h p q) (omega arith)) at e)

pub split : (t : List ℕ) → not_line (47 ∷ t) ≡ false → Split t
unfolding not_line
split t e =
    split_size t (length t - 1) _ _ refl refl refl (or_left (eqb (footer_size (47 ∷ t)) 0) _ e)
    (not-false (all printable (body (47 ∷ t))) (or_right (eqb (footer_size (47 ∷ t)) 0) _ e))
