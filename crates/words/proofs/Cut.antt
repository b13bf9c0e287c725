-- How a text is cut into words, byte by byte; and the first word from a place on, with the words behind it, as `word_at` finds it.
-- Assumes nothing.
use mathlib.Core.Path.{◌≡◌, refl, sym, ap, subst, ◌∙◌}
use mathlib.Core.Logic.{◌⊎◌, inl, inr, ⊎_elim}
use mathlib.Core.Bool.{Bool, true, false, cond}
use mathlib.Core.List.{List, [], ◌∷◌}
use Prim.Native.Nat.{ℕ, zero, suc, ◌+◌, ◌-◌, ◌≤◌, ◌<◌}
use native.Mathlib.Numerals.{add-one}
use native.Mathlib.Omega.{arith}
use native.Mathlib.Nat.{add-zero}
use lib.ListN.{length, get_or, take, drop, length-drop, drop_of_length-le}
use lib.Seq.{drop-drop, drop-cons, get_or-drop, length-take-le}
use Rattle.laws.specs.Lists.{span}
use Rattle.laws.proofs.Each.{OneOf}
use Rattle.laws.proofs.Order.{lt_or_le, eq_or_ne}
use Rattle.laws.proofs.Span.{span_yes, span_not, span_none, span_le}
use Rattle.words.specs.Cutting.{is_space, no_space, begins, Placed, placed, behind, bytes_of, grow, grow_at, words_from, words_at, cut, start_of, end_of, word_at, head_word, tail_words, past_of}
use Rattle.words.specs.declared.Word.{Word}
use Rattle.words.proofs.Space.{space_yes, space_not, other_yes, other_not, at_end, at_word}

-- ---- the steps of `words_from`
from_space : (i : ℕ) (s : List ℕ) → words_from i (32 ∷ s) ≡ words_from (suc i) s
unfolding words_from
from_space i s = rw (space_yes 32 refl)

from_inside : (i c : ℕ) (s : List ℕ) → (c ≡ 32 → ⊥) → begins s ≡ true → words_from i (c ∷ s) ≡ grow_at i c (words_from (suc i) s)
unfolding words_from
from_inside i c s h b = rw (space_not c h, b)

from_alone : (i c : ℕ) (s : List ℕ) → (c ≡ 32 → ⊥) → begins s ≡ false → words_from i (c ∷ s) ≡ placed i (c ∷ []) ∷ words_from (suc i) s
unfolding words_from
from_alone i c s h b = rw (space_not c h, b)

from_none : (i : ℕ) → words_from i [] ≡ []
unfolding words_from
from_none i = refl

-- ---- without their places, the words are the same wherever the text begins
bytes_grown : (i c : ℕ) (ws : List Placed) → bytes_of (grow_at i c ws) ≡ grow c (bytes_of ws)
unfolding grow grow_at
bytes_grown i c [] = refl
bytes_grown i c (w ∷ ws) = refl

anywhere : (i j : ℕ) (s : List ℕ) → bytes_of (words_from i s) ≡ bytes_of (words_from j s)
unfolding words_from
anywhere i j [] = refl
anywhere i j (c ∷ s) = go (is_space c) (begins s) (words_from (suc i) s) (words_from (suc j) s) (anywhere (suc i) (suc j) s)
  where
    go : (b t : Bool) (vs ws : List Placed) → bytes_of vs ≡ bytes_of ws
        → bytes_of (cond b vs (cond t (grow_at i c vs) (placed i (c ∷ []) ∷ vs)))
        ≡ bytes_of (cond b ws (cond t (grow_at j c ws) (placed j (c ∷ []) ∷ ws)))
    go true t vs ws e = e
    go false true vs ws e = bytes_grown i c vs ∙ ap (grow c) e ∙ sym (bytes_grown j c ws)
    go false false vs ws e = ap (λ (l : List (List ℕ)). (c ∷ []) ∷ l) e

pub bytes_cut : (i : ℕ) (s : List ℕ) → bytes_of (words_from i s) ≡ cut s
unfolding cut
bytes_cut i s = anywhere i 0 s

-- ---- the steps of `cut`
pub cut_space : (s : List ℕ) → cut (32 ∷ s) ≡ cut s
cut_space s = sym (bytes_cut 0 (32 ∷ s)) ∙ ap bytes_of (from_space 0 s) ∙ bytes_cut 1 s

pub cut_inside : (c : ℕ) (s : List ℕ) → (c ≡ 32 → ⊥) → begins s ≡ true → cut (c ∷ s) ≡ grow c (cut s)
cut_inside c s h b = sym (bytes_cut 0 (c ∷ s)) ∙ ap bytes_of (from_inside 0 c s h b) ∙ bytes_grown 0 c (words_from 1 s)
    ∙ ap (grow c) (bytes_cut 1 s)

pub cut_alone : (c : ℕ) (s : List ℕ) → (c ≡ 32 → ⊥) → begins s ≡ false → cut (c ∷ s) ≡ (c ∷ []) ∷ cut s
cut_alone c s h b = sym (bytes_cut 0 (c ∷ s)) ∙ ap bytes_of (from_alone 0 c s h b) ∙ ap (λ (l : List (List ℕ)). (c ∷ []) ∷ l) (bytes_cut 1 s)

pub cut_none : cut [] ≡ []
cut_none = sym (bytes_cut 0 []) ∙ ap bytes_of (from_none 0)

-- ---- the words from a place on
from_skip : (i : ℕ) (l : List ℕ) → words_from (i + span is_space l) (drop (span is_space l) l) ≡ words_from i l
from_skip i [] = rw (span_none is_space, add-zero)
from_skip i (c ∷ l) =
    ⊎_elim (λ e. let k : i + suc (span is_space l) ≡ suc i + span is_space l = omega arith in
    rw (span_yes is_space c l (space_yes c e), e, from_space i l, k) (from_skip (suc i) l))
    (λ h. rw (span_not is_space c l (space_not c h), add-zero))
    (eq_or_ne c 32)

from_take : (i c : ℕ) (l : List ℕ) → (c ≡ 32 → ⊥)
    → words_from i (c ∷ l) ≡ placed i (c ∷ take (span no_space l) l) ∷ words_from (suc i + span no_space l) (drop (span no_space l) l)
unfolding grow_at
from_take i c [] h = rw (span_none no_space, add-zero) (from_alone i c [] h refl)
from_take i c (d ∷ l) h =
    ⊎_elim (λ e. rw (span_not no_space d l (other_not d e), add-zero) (from_alone i c (d ∷ l) h (other_not d e)))
    (λ k. let n : suc i + suc (span no_space l) ≡ suc (suc i) + span no_space l = omega arith in
    rw (span_yes no_space d l (other_yes d k), n) (from_inside i c (d ∷ l) h (other_yes d k) ∙ ap (grow_at i c) (from_take (suc i) d l k)))
    (eq_or_ne d 32)

-- the byte behind the spaces is none
front : (l : List ℕ) → get_or (drop (span is_space l) l) 0 0 ≡ 32 → ⊥
front [] x = let y = rw (span_none is_space) at x in omega arith
front (d ∷ l) x =
    ⊎_elim (λ e. front l (rw (span_yes is_space d l (space_yes d e)) at x))
    (λ h. h (rw (span_not is_space d l (space_not d h)) at x))
    (eq_or_ne d 32)

module _ (s : List ℕ) (at : ℕ) where
  skip_at : words_at s (start_of s at) ≡ words_at s at
  skip_at = rw (← drop-drop (span is_space (drop at s)) at s) (from_skip at (drop at s))

  front_at : get_or s (start_of s at) 0 ≡ 32 → ⊥
  front_at x = front (drop at s) (simp (get_or-drop, add-zero) x)

-- the first word from `at` on is the part from a to e, and the other words are those from e on
pub record Part (s : List ℕ) (at a e : ℕ) : Type 0 where
  pub from : at ≤ a
  pub some : a < e
  pub within : e ≤ length s
  pub words : words_at s at ≡ placed a (take (e - a) (drop a s)) ∷ words_at s e

part_of : (s : List ℕ) (at a e : ℕ) → a ≡ start_of s at → e ≡ end_of s a → a < length s → Part s at a e
part_of s at a e p q h =
    let c = get_or s a 0 in
    let t = drop (suc a) s in
    let n = span no_space t in
    let k : c ≡ 32 → ⊥ = rw p (front_at s at) in
    let d : drop a s ≡ c ∷ t = drop-cons s a 0 h in
    let m : span no_space (drop a s) ≡ suc n = rw d (span_yes no_space c t (other_yes c k)) in
    let le = span_le no_space t in
    let len = length-drop (suc a) s in
    let width : e - a ≡ suc n = omega arith in
    let place : e ≡ suc a + n = omega arith in
    let here : words_at s a ≡ placed a (take (e - a) (drop a s)) ∷ words_at s e =
    rw (d, width, place, ← drop-drop n (suc a) s) (from_take a c t k) in
    record { from = omega arith; some = omega arith; within = omega arith; words = sym (skip_at s at) ∙ rw (← p) here }

pub part_cut : {s : List ℕ} {at a e : ℕ} → Part s at a e → cut (drop at s) ≡ take (e - a) (drop a s) ∷ cut (drop e s)
part_cut {s} {at} {a} {e} p = sym (bytes_cut at (drop at s)) ∙ ap bytes_of p.words
    ∙ ap (λ (ws : List (List ℕ)). take (e - a) (drop a s) ∷ ws) (bytes_cut e (drop e s))

part_behind : {s : List ℕ} {at a e : ℕ} → Part s at a e → behind (placed a (take (e - a) (drop a s))) ≡ e
part_behind {s} {at} {a} {e} p =
    rw (length-take-le (e - a) (drop a s) (rw length-drop (omega (arith, p.within, p.some)))) (omega (arith, p.some))

-- the first word by its first byte, where one is left: it goes on up to the next space
pub head_at : (s : List ℕ) (at : ℕ) {a : ℕ} → a ≡ start_of s at → a < length s
    → head_word (bytes_of (words_at s at)) ≡ get_or s a 0 ∷ take (span no_space (drop (suc a) s)) (drop (suc a) s)
unfolding head_word
head_at s at {a} p h =
    let k : get_or s a 0 ≡ 32 → ⊥ = rw p (front_at s at) in
    rw (← skip_at s at, ← p, drop-cons s a 0 h, from_take a (get_or s a 0) (drop (suc a) s) k)

none_of : (s : List ℕ) (at : ℕ) → length s ≤ start_of s at → words_at s at ≡ []
none_of s at h = sym (skip_at s at) ∙ ap (words_from (start_of s at)) (drop_of_length-le s h) ∙ from_none (start_of s at)

-- no word is empty, so an empty first word says that there is none
grown_some : (c : ℕ) (ws : List (List ℕ)) → length (head_word (grow c ws)) ≡ 0 → ⊥
unfolding grow head_word
grown_some c [] h = omega arith
grown_some c (w ∷ ws) h = omega arith

inside : (c : ℕ) (l : List ℕ) (b : Bool) → begins l ≡ b → (c ≡ 32 → ⊥) → length (head_word (cut (c ∷ l))) ≡ 0 → ⊥
unfolding head_word
inside c l true e k h = grown_some c (cut l) (rw (cut_inside c l k e) at h)
inside c l false e k h = let y = rw (cut_alone c l k e) at h in omega arith

head_empty : (l : List ℕ) → length (head_word (cut l)) ≡ 0 → cut l ≡ []
head_empty [] h = cut_none
head_empty (c ∷ l) h =
    ⊎_elim (λ e. let q : cut (c ∷ l) ≡ cut l = rw e (cut_space l) in q ∙ head_empty l (rw q at h))
    (λ k. absurd (inside c l (begins l) refl k h))
    (eq_or_ne c 32)

head_full : (ws : List (List ℕ)) → (length (head_word ws) ≡ 0 → ⊥) → ws ≡ head_word ws ∷ tail_words ws
unfolding head_word tail_words
head_full [] h = absurd (h refl)
head_full (w ∷ ws) h = refl

-- For a caller: v is what `first_word` gives, and t the words from where `past_word` gives on.
pub word_none : (l v : List ℕ) → v ≡ head_word (cut l) → length v ≡ 0 → cut l ≡ []
word_none l v e h = head_empty l (rw e at h)

pub word_some : (l v : List ℕ) (t : List (List ℕ)) → v ≡ head_word (cut l) → t ≡ tail_words (cut l) → (length v ≡ 0 → ⊥) → cut l ≡ v ∷ t
word_some l v t e q h = rw (e, q) (head_full (cut l) (rw e at h))

-- a is where `start_of` finds that a word may start: no word is left there, or one is
module _ (s : List ℕ) (at : ℕ) {a : ℕ} (q : a ≡ start_of s at) where
  pub words_none : length s ≤ a → words_at s at ≡ []
  words_none l = none_of s at (rw q at l)

  pub words_some : a < length s → words_at s at ≡ placed a (take (end_of s a - a) (drop a s)) ∷ words_at s (end_of s a)
  words_some l = (part_of s at a (end_of s a) q refl l).words

  pub left_none : length s ≤ a → cut (drop at s) ≡ []
  left_none l = sym (bytes_cut at (drop at s)) ∙ ap bytes_of (words_none l)

  pub left_some : a < length s → cut (drop at s) ≡ head_word (cut (drop at s)) ∷ tail_words (cut (drop at s))
  unfolding head_word tail_words
  left_some l = rw (part_cut (part_of s at a (end_of s a) q refl l))

bytes_tail : (ws : List Placed) → bytes_of (tail_words ws) ≡ tail_words (bytes_of ws)
unfolding tail_words
bytes_tail [] = refl
bytes_tail (v ∷ ws) = refl

-- ---- what the answer w of `word_at` says
module _ (s : List ℕ) (at : ℕ) {w : Word} (q : w ≡ word_at s at) where
  -- where both places are one, there is no word, and else there is one
  word_either : ((w.start ≡ length s) × (w.end ≡ length s) × (words_at s at ≡ [])) ⊎ Part s at w.start w.end
  word_either =
      let a = start_of s at in
      ⊎_elim (λ l. inr (rw (q, at_word s at a refl l) (part_of s at a (end_of s a) refl refl l)))
      (λ l. inl (rw (q, at_end s at a refl l) (refl, refl, none_of s at l)))
      (lt_or_le a (length s))

  pub word_whole : w.start ≤ w.end
  word_whole = ⊎_elim (λ n. omega (arith, n.0, n.1)) (λ p. omega (arith, p.some)) word_either

  pub word_within : w.end ≤ length s
  word_within = ⊎_elim (λ n. omega (arith, n.1)) (λ p. p.within) word_either

  pub words_empty : w.start ≡ w.end → words_at s at ≡ []
  words_empty e = ⊎_elim (λ n. n.2) (λ p. absurd (omega (arith, p.some))) word_either

  pub word_part : (w.start ≡ w.end → ⊥) → Part s at w.start w.end
  word_part n = ⊎_elim (λ z. absurd (n (z.0 ∙ sym z.1))) (λ p. p) word_either

  pub words_full : (w.start ≡ w.end → ⊥)
      → words_at s at ≡ placed w.start (take (w.end - w.start) (drop w.start s)) ∷ words_at s w.end
  words_full n = (word_part n).words

  pub word_behind : (w.start ≡ w.end → ⊥) → behind (placed w.start (take (w.end - w.start) (drop w.start s))) ≡ w.end
  word_behind n = part_behind (word_part n)

  -- the word and the words behind it, be there one or not; and the same without their places
  words_head : take (w.end - w.start) (drop w.start s) ≡ head_word (bytes_of (words_at s at))
  unfolding head_word
  words_head =
      ⊎_elim (λ n. let z : w.end - w.start ≡ 0 = omega (arith, n.0, n.1) in rw (n.2, z)) (λ p. rw p.words) word_either

  words_tail : words_at s w.end ≡ tail_words (words_at s at)
  unfolding tail_words
  words_tail =
      let end : drop (length s) s ≡ [] = drop_of_length-le s {i = length s} (omega arith) in
      ⊎_elim (λ n. rw (n.2, n.1, end) (from_none (length s))) (λ p. rw p.words) word_either

  pub word_head : take (w.end - w.start) (drop w.start s) ≡ head_word (cut (drop at s))
  word_head = words_head ∙ ap head_word (bytes_cut at (drop at s))

  pub word_tail : cut (drop w.end s) ≡ tail_words (cut (drop at s))
  word_tail = sym (bytes_cut w.end (drop w.end s)) ∙ ap bytes_of words_tail ∙ bytes_tail (words_at s at)
      ∙ ap tail_words (bytes_cut at (drop at s))

  pub word_empty : w.start ≡ w.end → cut (drop at s) ≡ []
  word_empty e = sym (bytes_cut at (drop at s)) ∙ ap bytes_of (words_empty e)

  pub word_full : (w.start ≡ w.end → ⊥) → cut (drop at s) ≡ take (w.end - w.start) (drop w.start s) ∷ cut (drop w.end s)
  word_full n = part_cut (word_part n)

  pub word_past : w.end ≡ past_of s at
  unfolding past_of
  word_past = rw q

-- ---- the first of the words from `at` on stands in the text at its place, and the others are those from behind it on
pub record First (s : List ℕ) (at : ℕ) (w : Placed) (ws : List Placed) : Type 0 where
  pub from : at ≤ w.start
  pub some : w.start < behind w
  pub within : behind w ≤ length s
  pub there : take (length w.bytes) (drop w.start s) ≡ w.bytes
  pub others : words_at s (behind w) ≡ ws

pub first_stands : (s : List ℕ) (at : ℕ) {w : Placed} {ws : List Placed} → words_at s at ≡ w ∷ ws → First s at w ws
first_stands s at {w} {ws} e = ⊎_elim here (λ l. absurd (none (sym (none_of s at l) ∙ e))) (lt_or_le (start_of s at) (length s))
  where
    none : [] ≡ w ∷ ws → ⊥
    none z = let y : ◌≡◌ {A = ℕ} 0 1 = cc in omega arith

    here : start_of s at < length s → First s at w ws
    here l =
        let a = start_of s at in
        let p = part_of s at a (end_of s a) refl refl l in
        let word : placed a (take (end_of s a - a) (drop a s)) ≡ w = cc (p.words, e) in
        let rest : words_at s (end_of s a) ≡ ws = cc (p.words, e) in
        let end = part_behind p in
        let long : length (take (end_of s a - a) (drop a s)) ≡ end_of s a - a = omega (arith, end, p.some) in
        subst (λ (v : Placed). First s at v ws) word
        (record { from = p.from; some = rw end p.some; within = rw end p.within; there = rw long; others = rw end rest })

-- each of the words from `at` on stands in the text at its place
pub one_stands : (s : List ℕ) {w : Placed} (at : ℕ) {ws : List Placed} → words_at s at ≡ ws → OneOf w ws
    → (behind w ≤ length s) × (take (length w.bytes) (drop w.start s) ≡ w.bytes)
one_stands s at there OneOf.first = let f = first_stands s at there in (f.within, f.there)
one_stands s at there (OneOf.later {y = v} o) = one_stands s (behind v) (first_stands s at there).others o

-- the words behind the first of those from place i of the list on
tail_drop : (ws : List (List ℕ)) (i : ℕ) → tail_words (drop i ws) ≡ drop (suc i) ws
unfolding tail_words
tail_drop [] zero = refl
tail_drop [] (suc i) = refl
tail_drop (w ∷ ws) zero = refl
tail_drop (w ∷ ws) (suc i) = tail_drop ws i

-- a turn of `nth_word`, which has passed i words
pub nth_more : (ws : List (List ℕ)) (i : ℕ) (vs us : List (List ℕ)) → us ≡ tail_words vs → vs ≡ drop i ws → us ≡ drop (i + 1) ws
nth_more ws i vs us t e = t ∙ rw (e, tail_drop ws i, add-one)
