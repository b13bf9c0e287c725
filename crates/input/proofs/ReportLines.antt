-- The line of a motor report, as the code finds its words one behind the other.
-- Assumes nothing.
use mathlib.Core.Path.{◌≡◌, refl, sym, ap, ◌∙◌}
use mathlib.Core.Bool.{Bool, true, false, cond, not, ◌&&◌}
use mathlib.Core.List.{List, [], ◌∷◌}
use Prim.Native.Nat.{ℕ, suc, ◌-◌, ◌≤◌, ◌<◌}
use native.Mathlib.Omega.{arith}
use lib.Dec.{eqb, ltb, eqb-zero-suc, eqb-suc-suc}
use lib.ListN.{length, take, drop}
use borrow.Author.Tests.{ne_eqb, lt-ltb, le-ltb}
use Rattle.std.specs.Prelude.{Option, None, Some, Err, Ok}
use Rattle.units.specs.declared.Number.{Number}
use Rattle.std.specs.Result.{result_ok}
use Rattle.laws.specs.Lists.{all, fold, span}
use Rattle.laws.specs.declared.Refusal.TheVariants.{BadReport}
use Rattle.laws.specs.Refusals.{first_of, ACCEPTED, Verdict}
use Rattle.laws.specs.Text.{text, same}
use Rattle.laws.proofs.Bools.{and_false}
use Rattle.laws.proofs.Lists.{rest}
use Rattle.numbers.specs.Reading.{NumberRead, read_number}
use Rattle.words.specs.declared.Word.{Word}
use Rattle.words.specs.Cutting.{cut, word_at, head_word, tail_words}
use Rattle.words.proofs.Cut.{cut_none, word_head, word_tail}
use Rattle.line.specs.Spelling.{longest_line}
use Rattle.line.specs.Reading.{printable, is_footer}
use Rattle.input.specs.declared.reports.MotorReport.{MotorReport}
use Rattle.input.specs.declared.reports.PlacedReport.{PlacedReport}
use Rattle.input.specs.ReportLines.{framed_words, behind_r, number_said, numbers_of, three_of, read_report, at_place, placed_of, read_placed, number_of, placed_number, is_number, spelled_so, refusal_for, line_refusal, placed_refusal}

-- ---- the frame
module _ (s : List ℕ) where
  pub too_long : longest_line < length s → cut [] ≡ framed_words s
  too_long h = rw (lt-ltb longest_line (length s) h) cut_none

  module _ {e : ℕ} (q : e ≡ span printable s) (short : length s ≤ longest_line) where
    pub footer_yes : is_footer (drop e s) ≡ true → cut (take e s) ≡ framed_words s
    footer_yes h = rw (le-ltb longest_line (length s) short, ← q, h)

    pub footer_not : is_footer (drop e s) ≡ false → cut [] ≡ framed_words s
    footer_not h = rw (le-ltb longest_line (length s) short, ← q, h) cut_none

-- ---- the first word w
an_r : (ws : List (List ℕ)) {w : List ℕ} → w ≡ head_word ws → same w (text "R") ≡ true → tail_words ws ≡ behind_r ws
unfolding head_word tail_words
an_r [] q h = refl
an_r (r ∷ ws) q h = rw (← q, h)

no_r : (ws : List (List ℕ)) {w : List ℕ} → w ≡ head_word ws → same w (text "R") ≡ false → [] ≡ behind_r ws
unfolding head_word
no_r [] q h = refl
no_r (r ∷ ws) q h = rw (← q, h)

-- b is what stands before the footer, and v where `word_at` finds its first word
module _ (b : List ℕ) {v : Word} {ws : List (List ℕ)} (e : cut b ≡ ws) (q : v ≡ word_at b 0) where
  pub first_is_r : same (take (v.end - v.start) (drop v.start b)) (text "R") ≡ true
      → cut (take (length b - v.end) (drop v.end b)) ≡ behind_r ws
  first_is_r h = rw (rest v.end b, ← e) (word_tail b 0 q ∙ an_r (cut b) (word_head b 0 q) h)

  pub first_is_another : same (take (v.end - v.start) (drop v.start b)) (text "R") ≡ false → cut [] ≡ behind_r ws
  first_is_another h = cut_none ∙ rw (← e) (no_r (cut b) (word_head b 0 q) h)

-- ---- three numbers
-- a word that is missing is no number
no_last : (x y : Option Number) → numbers_of x y (number_said []) ≡ None
unfolding read_number
no_last None y = refl
no_last (Some a) None = refl
no_last (Some a) (Some k) = refl

-- the words ws, and those behind the first, the second and the third of them
module _ (ws t₁ t₂ t₃ : List (List ℕ)) (e₁ : t₁ ≡ tail_words ws) (e₂ : t₂ ≡ tail_words t₁) (e₃ : t₃ ≡ tail_words t₂) where
  third : t₃ ≡ tail_words (tail_words (tail_words ws))
  third = e₃ ∙ ap tail_words (e₂ ∙ ap tail_words e₁)

  pub too_many : {v : List ℕ} {vs : List (List ℕ)} → t₃ ≡ v ∷ vs → None ≡ three_of ws
  unfolding tail_words
  too_many {v} {vs} h = go ws (sym third ∙ h)
    where
      go : (ws : List (List ℕ)) → tail_words (tail_words (tail_words ws)) ≡ v ∷ vs → None ≡ three_of ws
      go [] h = refl
      go (a ∷ []) h = refl
      go (a ∷ k ∷ []) h = refl
      go (a ∷ k ∷ n ∷ []) h = absurd (omega (arith, ap length h))
      go (a ∷ k ∷ n ∷ x ∷ ws) h = refl

  pub just_three : {x y z : Option Number} {r : Option MotorReport} → t₃ ≡ [] → x ≡ number_said (head_word ws) → y ≡ number_said (head_word t₁)
      → z ≡ number_said (head_word t₂) → r ≡ numbers_of x y z → r ≡ three_of ws
  unfolding tail_words head_word
  just_three none x y z r = r ∙ rw (x, y, z, e₂, e₁) (go ws (sym third ∙ none))
    where
      go : (ws : List (List ℕ)) → tail_words (tail_words (tail_words ws)) ≡ []
          → numbers_of (number_said (head_word ws)) (number_said (head_word (tail_words ws))) (number_said (head_word (tail_words (tail_words ws))))
          ≡ three_of ws
      go [] h = no_last (number_said []) (number_said [])
      go (a ∷ []) h = no_last (number_said a) (number_said [])
      go (a ∷ k ∷ []) h = no_last (number_said a) (number_said k)
      go (a ∷ k ∷ n ∷ []) h = refl
      go (a ∷ k ∷ n ∷ x ∷ ws) h = absurd (omega (arith, ap length h))

-- one number before three
place_and_three : (ws : List (List ℕ)) → at_place (number_said (head_word ws)) (three_of (tail_words ws)) ≡ placed_of ws
unfolding head_word tail_words read_number
place_and_three [] = refl
place_and_three (d ∷ ws) = refl

-- ---- what is read, by the table
abbrev number_if : Bool → Verdict
number_if right = cond (not right) (Err BadReport) ACCEPTED

-- the words behind `R`: so many, and all of them numbers
abbrev so_many : ℕ → List (List ℕ) → Bool
so_many many ws = eqb (length ws) many && all (λ w. is_number (read_number w)) ws

three_numbers : (x y z : NumberRead)
    → number_of (numbers_of (result_ok x) (result_ok y) (result_ok z)) ≡ number_if (is_number x && (is_number y && (is_number z && true)))
three_numbers (Err p) y z = refl
three_numbers (Ok a) (Err p) z = refl
three_numbers (Ok a) (Ok k) (Err p) = refl
three_numbers (Ok a) (Ok k) (Ok n) = refl

just_3 : (ws : List (List ℕ)) → number_of (three_of ws) ≡ number_if (so_many 3 ws)
unfolding fold
just_3 [] = refl
just_3 (a ∷ []) = refl
just_3 (a ∷ k ∷ []) = refl
just_3 (a ∷ k ∷ n ∷ []) = three_numbers (read_number a) (read_number k) (read_number n)
just_3 (a ∷ k ∷ n ∷ x ∷ ws) = rw (ne_eqb (length (a ∷ k ∷ n ∷ x ∷ ws)) 3 (λ e. omega arith))

one_more : (x : NumberRead) (r : Option MotorReport) (l o : Bool) → number_of r ≡ number_if (l && o)
    → placed_number (at_place (result_ok x) r) ≡ number_if (l && (is_number x && o))
one_more (Err p) r l o e = ap number_if (sym (and_false l))
one_more (Ok d) None l o e = e
one_more (Ok d) (Some r) l o e = e

just_4 : (ws : List (List ℕ)) → placed_number (placed_of ws) ≡ number_if (so_many 4 ws)
unfolding fold
just_4 [] = refl
just_4 (d ∷ ws) = rw (eqb-suc-suc (length ws) 3) (one_more (read_number d) (three_of ws) (eqb (length ws) 3) _ (just_3 ws))

-- whatever is read of the words behind `R`, where just so many numbers are accepted, and no words are not
module _ {X : Type 0} (read : List (List ℕ) → X) (number : X → Verdict) (many : ℕ) (none : number (read []) ≡ Err BadReport)
    (just : (ws : List (List ℕ)) → number (read ws) ≡ number_if (so_many many ws)) where
  words_number_lem : (ws : List (List ℕ)) → number (read (behind_r ws)) ≡ number_if (spelled_so (suc many) ws)
  unfolding spelled_so head_word tail_words
  words_number_lem [] = none ∙ rw (eqb-zero-suc many)
  words_number_lem (r ∷ ws) = rw (eqb-suc-suc (length ws) many) (go (same r (text "R")))
    where
      go : (t : Bool) → number (read (cond t ws [])) ≡ number_if (eqb (length ws) many && (t && all (λ w. is_number (read_number w)) ws))
      go true = just ws
      go false = none ∙ rw (and_false (eqb (length ws) many))

  line_number : (s : List ℕ) → number (read (behind_r (framed_words s))) ≡ refusal_for (suc many) s
  unfolding refusal_for first_of
  line_number s = go (ltb longest_line (length s)) (is_footer (drop (span printable s) s))
    where
      words : List (List ℕ)
      words = cut (take (span printable s) s)

      go : (t f : Bool) → number (read (behind_r (cond t [] (cond f words []))))
          ≡ cond t (Err BadReport) (cond (not f) (Err BadReport) (number_if (spelled_so (suc many) words)))
      go true f = none
      go false false = none
      go false true = words_number_lem words

-- ---- what `read_report` and `read_placed` promise of their answers: ws are the words behind `R`
module _ (s : List ℕ) {ws : List (List ℕ)} (e : ws ≡ behind_r (framed_words s)) where
  pub report_told : {r : Option MotorReport} → r ≡ three_of ws → (r ≡ read_report s) × (number_of r ≡ line_refusal s)
  unfolding read_report line_refusal
  report_told r =
      let read = r ∙ ap three_of e in
      (read, ap number_of read ∙ line_number three_of number_of 3 refl just_3 s)

  pub placed_told : {t : List (List ℕ)} {x : Option Number} {y : Option MotorReport} {r : Option PlacedReport} → x ≡ number_said (head_word ws)
      → t ≡ tail_words ws → y ≡ three_of t → r ≡ at_place x y → (r ≡ read_placed s) × (placed_number r ≡ placed_refusal s)
  unfolding read_placed placed_refusal
  placed_told x t y r =
      let read = r ∙ rw (x, y, t) (place_and_three ws) ∙ ap placed_of e in
      (read, ap placed_number read ∙ line_number placed_of placed_number 4 refl just_4 s)
