-- A content is composed of exactly the words that cutting gives, and of no other list of words.
-- Assumes nothing.
use mathlib.Core.Path.{◌≡◌, refl, sym, ap, ◌∙◌}
use mathlib.Core.Logic.{◌↔◌}
use mathlib.Core.Bool.{true, false}
use mathlib.Core.List.{List, [], ◌∷◌, ◌++◌, append-nil}
use Prim.Native.Nat.{ℕ}
use native.Mathlib.Omega.{arith}
use Rattle.laws.proofs.Bools.{clash}
use Rattle.words.specs.Cutting.{begins, grow, cut}
use Rattle.words.specs.Spelling.{WordByte, Spaces, Word, Content, blank, last, next}
use Rattle.words.proofs.Space.{other_yes, other_not}
use Rattle.words.proofs.Cut.{cut_none, cut_space, cut_inside, cut_alone}

-- ---- what Spelling composes is cut so
no_space_lem : {c : ℕ} → WordByte c → c ≡ 32 → ⊥
no_space_lem h e = omega (arith, h.low)

word_begins : {w : List ℕ} (t : List ℕ) → Word w → begins (w ++ t) ≡ true
word_begins t (Word.one h) = other_yes _ (no_space_lem h)
word_begins t (Word.more h w) = other_yes _ (no_space_lem h)

spaces_cut : {p : List ℕ} (t : List ℕ) → Spaces p → cut (p ++ t) ≡ cut t
spaces_cut t Spaces.none = refl
spaces_cut t (Spaces.more {s} p) = cut_space (s ++ t) ∙ spaces_cut t p

word_cut : {w : List ℕ} (t : List ℕ) → begins t ≡ false → Word w → cut (w ++ t) ≡ w ∷ cut t
unfolding grow
word_cut t b (Word.one {c} h) = cut_alone c t (no_space_lem h) b
word_cut t b (Word.more {c} {w} h r) = cut_inside c (w ++ t) (no_space_lem h) (word_begins t r) ∙ ap (grow c) (word_cut t b r)

pub content_cut : {s : List ℕ} {ws : List (List ℕ)} → Content s ws → cut s ≡ ws
content_cut (blank {p} h) = (rw append-nil at (spaces_cut [] h)) ∙ cut_none
content_cut (last {p} {w} h r) = spaces_cut w h ∙ (rw (append-nil, cut_none) at (word_cut [] refl r))
content_cut (next {p} {w} {s} {ws} h r k) = spaces_cut (w ++ 32 ∷ s) h ∙ word_cut (32 ∷ s) (other_not 32 refl) r
    ∙ ap (λ (l : List (List ℕ)). w ∷ l) (content_cut k)

-- ---- what is cut is composed so, where no byte is forbidden
-- spaces and bytes of words alone
pub data Plain : List ℕ → Type 0 where
  done : Plain []
  space : {s : List ℕ} → Plain s → Plain (32 ∷ s)
  byte : {c : ℕ} {s : List ℕ} → WordByte c → Plain s → Plain (c ∷ s)

pub content_space : {s : List ℕ} {ws : List (List ℕ)} → Content s ws → Content (32 ∷ s) ws
content_space (blank p) = blank (Spaces.more p)
content_space (last p w) = last (Spaces.more p) w
content_space (next p w k) = next (Spaces.more p) w k

content_grow : {c : ℕ} {s : List ℕ} {ws : List (List ℕ)} → WordByte c → Content s ws → begins s ≡ true → Content (c ∷ s) (grow c ws)
unfolding grow
content_grow h (blank Spaces.none) b = last Spaces.none (Word.one h)
content_grow h (blank (Spaces.more p)) b = clash b (other_not 32 refl)
content_grow h (last Spaces.none w) b = last Spaces.none (Word.more h w)
content_grow h (last (Spaces.more p) w) b = clash b (other_not 32 refl)
content_grow h (next Spaces.none w k) b = next Spaces.none (Word.more h w) k
content_grow h (next (Spaces.more p) w k) b = clash b (other_not 32 refl)

pub cut_content : {s : List ℕ} → Plain s → Content s (cut s)
cut_content done = rw cut_none (blank Spaces.none)
cut_content (space {s} p) = rw (cut_space s) (content_space (cut_content p))
cut_content (byte {c} h done) = rw (cut_alone c [] (no_space_lem h) refl, cut_none) (last Spaces.none (Word.one h))
cut_content (byte {c} h (space {s} p)) =
    rw (cut_alone c (32 ∷ s) (no_space_lem h) (other_not 32 refl)) (next Spaces.none (Word.one h) (cut_content (space p)))
cut_content (byte {c} h (byte {c = d} {s} k p)) =
    let b : begins (d ∷ s) ≡ true = other_yes d (no_space_lem k) in
    rw (cut_inside c (d ∷ s) (no_space_lem h) b) (content_grow h (cut_content (byte k p)) b)

-- ---- a content has no forbidden byte
spaces_plain : {p t : List ℕ} → Spaces p → Plain t → Plain (p ++ t)
spaces_plain Spaces.none k = k
spaces_plain (Spaces.more p) k = space (spaces_plain p k)

word_plain : {w t : List ℕ} → Word w → Plain t → Plain (w ++ t)
word_plain (Word.one h) k = byte h k
word_plain (Word.more h w) k = byte h (word_plain w k)

pub content_plain : {s : List ℕ} {ws : List (List ℕ)} → Content s ws → Plain s
content_plain (blank h) = rw append-nil at (spaces_plain h done)
content_plain (last h r) = spaces_plain h (rw append-nil at (word_plain r done))
content_plain (next h r k) = spaces_plain h (word_plain r (content_plain k))

-- ---- the theorem: s is composed of the words ws exactly where it has no forbidden byte and is cut into ws
pub content_iff : (s : List ℕ) (ws : List (List ℕ)) → Content s ws ↔ (Plain s × (cut s ≡ ws))
content_iff s ws = ((λ k. (content_plain k, content_cut k)), (λ k. rw (← k.1) (cut_content k.0)))

pub content_one : {s : List ℕ} {ws vs : List (List ℕ)} → Content s ws → Content s vs → ws ≡ vs
content_one k j = sym (content_cut k) ∙ content_cut j
