-- A line is refused with the first of 2, 1, 3, 4, 10 and 11 that applies, each as specs/Refusals.antt says it, and at the place that
-- specs/Place.antt says: for every line.
-- Assumes nothing.
use Rattle.laws.specs.declared.RefusedAt.{RefusedAt}
use Rattle.laws.specs.declared.Refusal.{Refusal}
use Rattle.std.specs.Prelude.{Err, Ok, Result}
use mathlib.Core.Path.{◌≡◌, refl, ap, ◌∙◌}
use mathlib.Core.Logic.{⊎_elim}
use mathlib.Core.Bool.{Bool, true, false}
use mathlib.Core.List.{List, [], ◌∷◌, ◌++◌}
use Prim.Native.Nat.{ℕ, suc, ◌+◌, ◌≤◌, ◌<◌}
use native.Mathlib.Omega.{arith}
use lib.ListN.{length, get_or, take, drop}
use lib.Seq.{take-append-le}
use borrow.Author.Tests.{lt-ltb, le-ltb, ne_eqb}
use Rattle.laws.specs.declared.Refusal.TheVariants.{BadAddress, NotLine, BadSum, BadCommand, BadData}
use Rattle.laws.specs.Refusals.{◌when◌, first_of, NOWHERE, in_byte, refusal_at, Verdict}
use Rattle.laws.proofs.Order.{lt_or_le, eq_or_ne}
use Rattle.laws.proofs.Passes.{Passes}
use Rattle.numbers.specs.Reading.{read_address}
use Rattle.words.specs.Cutting.{Placed, bytes_of, words_from, words_at}
use Rattle.phrase.specs.Reading.{read_command, WordsRead}
use Rattle.phrase.specs.Refusals.{bad_command, bad_data, words_number, words_refusal}
use Rattle.phrase.specs.Place.{words_place, place_told}
use Rattle.phrase.proofs.Refused.{words_refused, words_placed}
use Rattle.phrase.proofs.WordsNumbered.{NumberedWords, no_place, a_place, words_numbered}
use Rattle.line.specs.Spelling.{Footer}
use Rattle.line.specs.Reading.{printable, frame_of, starts_number, read_words, read_line, number_of, place_read, asked_by, read_asked, LineRead, sent}
use Rattle.line.specs.Refusals.{body, too_long, not_line, bad_sum, content, bad_address, own, words_in, refusal_of}
use Rattle.line.specs.Place.{address_place, place_with, place_of}
use Rattle.line.specs.declared.Opening.{Opening}
use Rattle.line.specs.Opening.{open_line, read_on}
use Rattle.line.proofs.ByWords.{Own, by_words}
use Rattle.line.proofs.Frames.{too_long_lem, no_slash, slash_first}
use Rattle.line.proofs.Steps.{behind_slash}
use Rattle.line.proofs.Opened.{opened_read}
use Rattle.line.proofs.Composed.{slash_cons}
use Rattle.line.proofs.Ends.{body_is, is_line, Split, split}
use Rattle.line.proofs.Sums.{Sums, bad, good, sums}
use Rattle.line.proofs.FromTheEnd.{frame_is, footer_missing}

-- ---- the words
addressed_number : (n k end : ℕ) (r : WordsRead) → number_of (Ok (sent n k end r)) ≡ words_number r
addressed_number n k end (Ok x) = refl
addressed_number n k end (Err e) = refl

abbrev from_words : List Placed → Verdict
from_words ws = first_of (BadAddress when bad_address ws ∷ BadCommand when bad_command (bytes_of (own ws)) ∷ BadData when bad_data (bytes_of (own ws)) ∷ [])

-- what is read of the words ws agrees with the tables: the number, and the place that goes with it
abbrev Agrees : List Placed → LineRead → Type 0
Agrees ws r = (number_of r ≡ from_words ws) × (place_read r ≡ place_with (number_of r) ws)

own_agrees : (ws ts : List Placed) (n k end : ℕ) → Own ws ts → Agrees ws (Ok (sent n k end (read_command ts)))
unfolding words_refusal first_of place_with
own_agrees ws ts n k end o = (
  rw (o.right, o.are) (addressed_number n k end (read_command ts) ∙ words_refused ts),
  go (read_command ts) (words_numbered ts) (words_placed ts),
)
  where
    go : (r : WordsRead) → NumberedWords r → place_told r ≡ words_place ts
        → place_told r ≡ place_with (number_of (Ok (sent n k end r))) ws
    go (Ok x) h q = refl
    go (Err e) no_place q = refl
    go (Err e) a_place q = rw o.are q

wrong_agrees : (w : Placed) (t : List Placed) (p : ℕ) → starts_number w.bytes ≡ true → read_address w.bytes ≡ Err p
    → Agrees (w ∷ t) (Err (refusal_at BadAddress (in_byte (w.start + p))))
unfolding bad_address first_of place_with address_place
wrong_agrees w t p h q = (rw (h, q), rw q)

words_agree : (end : ℕ) (ws : List Placed) → Agrees ws (read_words end ws)
words_agree = by_words Agrees wrong_agrees own_agrees

-- ---- the line
abbrev LineAgrees : List ℕ → Type 0
LineAgrees l =
    (number_of (read_line l) ≡ refusal_of l)
    × (place_read (read_line l) ≡ place_of l)
    × ((n : ℕ) → frame_of l ≡ Ok n → words_in l ≡ words_at (take (suc n) l) 1)

-- a line whose frame is refused: no place is told
no_frame : (l : List ℕ) {n : Refusal} → frame_of l ≡ Err n → place_with (Err n) (words_in l) ≡ NOWHERE → refusal_of l ≡ Err n → LineAgrees l
unfolding read_line place_of place_with
no_frame l q a e = (rw (q, e), rw (q, e, a), (λ m c. let z : ◌≡◌ {A = ℕ} 0 1 = cc (q, c) in absurd (omega arith)))

too_long_refused : (l : List ℕ) → 80 < length l → LineAgrees l
unfolding refusal_of first_of too_long place_with
too_long_refused l h = no_frame l (too_long_lem l h) refl (simp (lt-ltb 80 (length l) h))

-- a line that 2 does not refuse
module _ (l : List ℕ) (fits : length l ≤ 80) where
  not_line_refused : frame_of l ≡ Err NotLine → not_line l ≡ true → LineAgrees l
  unfolding refusal_of first_of too_long place_with
  not_line_refused q e = no_frame l q refl (simp (le-ltb 80 (length l) fits, e))

  sum_refused : frame_of l ≡ Err BadSum → not_line l ≡ false → bad_sum (body l) ≡ true → LineAgrees l
  unfolding refusal_of first_of too_long place_with
  sum_refused q e k = no_frame l q refl (simp (le-ltb 80 (length l) fits, e, k))

  words_answered : (n : ℕ) → frame_of l ≡ Ok n → not_line l ≡ false → bad_sum (body l) ≡ false
      → take n (drop 1 l) ≡ content (body l) → LineAgrees l
  unfolding read_line refusal_of first_of too_long place_of words_in
  words_answered n q e k c =
      let ws = words_from 1 (content (body l)) in
      let agree = words_agree (length (take (suc n) l)) ws in
      let number : refusal_of l ≡ from_words ws = simp (le-ltb 80 (length l) fits, e, k) in (
        simp (q, behind_slash n l, c, number) agree.0,
        simp (q, behind_slash n l, c, number) (agree.1 ∙ ap (λ (v : Verdict). place_with v ws) agree.0),
        (λ m p. let same : n ≡ m = cc (q, p) in rw (← same, behind_slash n l, c)),
      )

  slash_missing : (get_or l 0 0 ≡ 47 → ⊥) → not_line l ≡ true
  unfolding not_line
  slash_missing h = simp (ne_eqb (get_or l 0 0) 47 h)

-- a line with its slash, whose body is b
module _ (b f : List ℕ) (k : Passes printable b) (g : Footer f) (fits : length (47 ∷ (b ++ f)) ≤ 80) where
  body_refused : Sums b → LineAgrees (47 ∷ (b ++ f))
  body_refused (bad h q) = sum_refused (47 ∷ (b ++ f)) fits (frame_is b f k g fits ∙ q) (is_line b f k g) (rw (body_is b f k g) h)
  body_refused (good n h q m c) =
      words_answered (47 ∷ (b ++ f)) fits n (frame_is b f k g fits ∙ q) (is_line b f k g) (rw (body_is b f k g) h)
      (take-append-le n b f m ∙ rw (body_is b f k g) c)

split_refused : (t : List ℕ) → Split t → length (47 ∷ t) ≤ 80 → LineAgrees (47 ∷ t)
split_refused t s h = rw (← s.whole) (body_refused s.front s.back s.passes s.footer (rw s.whole h) (sums s.front))

slash_refused : (t : List ℕ) (b : Bool) → not_line (47 ∷ t) ≡ b → length (47 ∷ t) ≤ 80 → LineAgrees (47 ∷ t)
slash_refused t false e h = split_refused t (split t e) h
slash_refused t true e h = not_line_refused (47 ∷ t) h (slash_first (47 ∷ t) h refl ∙ footer_missing t _ e refl) e

agrees : (l : List ℕ) → LineAgrees l
agrees l =
    ⊎_elim (λ h. too_long_refused l h)
    (λ h. ⊎_elim (λ k. with-slash (drop 1 l) (slash_cons l k) h) (λ k. not_line_refused l h (no_slash l h k) (slash_missing l h k))
    (eq_or_ne (get_or l 0 0) 47))
    (lt_or_le 80 (length l))
  where
    with-slash : (t : List ℕ) → l ≡ 47 ∷ t → length l ≤ 80 → LineAgrees l
    with-slash t q h = rw q (slash_refused t _ refl (rw q at h))

-- For every line, the reader's number is that of the first refusal that applies, in document 01's order; 0 where none does.
pub line_refused : (l : List ℕ) → number_of (read_line l) ≡ refusal_of l
line_refused l = (agrees l).0

-- For every line, the place that the reader tells is the one that goes with that number.
pub line_placed : (l : List ℕ) → place_read (read_line l) ≡ place_of l
line_placed l = (agrees l).1

-- where the frame has a content of n bytes, the line's words are those that are read
pub line_words_lem : (l : List ℕ) (n : ℕ) → frame_of l ≡ Ok n → words_in l ≡ words_at (take (suc n) l) 1
line_words_lem l = (agrees l).2

-- what `read_line` promises of its answer: where the opening is this line's, its number and its place are those of the tables, and
-- its command is the one that the line is read as
pub answered : {r : LineRead} (l : List ℕ) (o : Result Opening RefusedAt) → r ≡ read_on l o
    → (r ≡ read_on l o) × ((o ≡ open_line l → number_of r ≡ refusal_of l)
    × ((o ≡ open_line l → place_read r ≡ place_of l) × (o ≡ open_line l → asked_by l r ≡ read_asked l)))
unfolding read_asked
answered {r} l o e =
    (e, ((λ q. ap number_of (whole q) ∙ line_refused l), ((λ q. ap place_read (whole q) ∙ line_placed l), (λ q. ap (asked_by l) (whole q)))))
  where
    whole : o ≡ open_line l → r ≡ read_line l
    whole q = e ∙ ap (read_on l) q ∙ opened_read l
