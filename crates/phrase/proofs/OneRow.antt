-- Words have one row at most that is theirs: which of the table's rows is looked at first does not matter for the place that is told.
-- Assumes nothing.
use mathlib.Core.Path.{◌≡◌, refl, sym, ◌∙◌}
use mathlib.Core.Bool.{Bool, true, false, cond, not, ◌&&◌, ◌||◌}
use mathlib.Core.List.{List, [], ◌∷◌}
use Prim.Native.Nat.{ℕ}
use Rattle.laws.specs.Lists.{fold, all}
use Rattle.laws.specs.Text.{text, same}
use Rattle.laws.proofs.Bools.{and_left, and_right, clash}
use Rattle.laws.proofs.Each.{OneOf}
use Rattle.laws.proofs.Same.{same_true, same_self}
use Rattle.words.specs.Cutting.{Placed}
use Rattle.command.specs.Commands.{Place, word, SETTING, WRITABLE, N, P, Row, table}
use Rattle.phrase.specs.Refusals.{stands}
use Rattle.phrase.specs.Place.{number_due, other_words_fit, first_refused, places, place_among, words_place}
use Rattle.phrase.proofs.Rows.{current_refused}
use Rattle.phrase.proofs.WentWrong.{its_row}

-- ---- one place of two rows
abbrev takes : Place → List ℕ → Bool
takes p w = number_due p w || stands p w

-- whether no word can stand at both: two words that differ, or `current` and a position
abbrev apart_at : Place → Place → Bool
apart_at (word v) (word u) = not (same v u)
apart_at (word v) P = same v (text "current")
apart_at P (word v) = same v (text "current")
apart_at (word v) SETTING = false
apart_at (word v) WRITABLE = false
apart_at (word v) N = false
apart_at SETTING q = false
apart_at WRITABLE q = false
apart_at N q = false
apart_at P SETTING = false
apart_at P WRITABLE = false
apart_at P N = false
apart_at P P = false

-- `current` is no position
no_position : takes P (text "current") ≡ false
unfolding same text
no_position = rw current_refused refl

current_or : (v w : List ℕ) → same v (text "current") ≡ true → same w v ≡ true → takes P w ≡ true → ⊥
current_or v w e a b = clash b (rw (same_true w v a ∙ same_true v (text "current") e) no_position)

never_both : (p q : Place) (w : List ℕ) → apart_at p q ≡ true → takes p w ≡ true → takes q w ≡ true → ⊥
never_both (word v) (word u) w e a b = clash e (rw (sym (same_true w v a), same_true w u b, same_self u) refl)
never_both (word v) P w e a b = current_or v w e a b
never_both P (word v) w e a b = current_or v w e b a
never_both (word v) SETTING w e a b = clash e refl
never_both (word v) WRITABLE w e a b = clash e refl
never_both (word v) N w e a b = clash e refl
never_both SETTING q w e a b = clash e refl
never_both WRITABLE q w e a b = clash e refl
never_both N q w e a b = clash e refl
never_both P SETTING w e a b = clash e refl
never_both P WRITABLE w e a b = clash e refl
never_both P N w e a b = clash e refl
never_both P P w e a b = clash e refl

-- ---- two rows
abbrev apart : List Place → List Place → Bool
apart [] [] = false
apart [] (q ∷ qs) = true
apart (p ∷ ps) [] = true
apart (p ∷ ps) (q ∷ qs) = apart_at p q || apart ps qs

never_theirs : (ps qs : List Place) (ws : List Placed) → apart ps qs ≡ true → other_words_fit ps ws ≡ true → other_words_fit qs ws ≡ true → ⊥
unfolding other_words_fit
never_theirs [] [] ws e a b = clash e refl
never_theirs [] (q ∷ qs) [] e a b = clash b refl
never_theirs [] (q ∷ qs) (w ∷ ws) e a b = clash a refl
never_theirs (p ∷ ps) [] [] e a b = clash a refl
never_theirs (p ∷ ps) [] (w ∷ ws) e a b = clash b refl
never_theirs (p ∷ ps) (q ∷ qs) [] e a b = clash a refl
never_theirs (p ∷ ps) (q ∷ qs) (w ∷ ws) e a b = go (apart_at p q) refl e (λ k. never_theirs ps qs ws k
    (and_right (takes p w.bytes) (other_words_fit ps ws) a) (and_right (takes q w.bytes) (other_words_fit qs ws) b))
  where
    go : (t : Bool) → apart_at p q ≡ t → (t || apart ps qs) ≡ true → (apart ps qs ≡ true → ⊥) → ⊥
    go true h k rest = never_both p q w.bytes h (and_left (takes p w.bytes) (other_words_fit ps ws) a)
        (and_left (takes q w.bytes) (other_words_fit qs ws) b)
    go false h k rest = rest k

-- ---- the table: each two of its rows are apart, which antt computes
abbrev from : Row → Row → Bool
from r q = apart (places r) (places q)

abbrev all_apart : List Row → Bool
all_apart [] = true
all_apart (r ∷ rs) = all (from r) rs && all_apart rs

table_apart : all_apart table ≡ true
unfolding fold same text
table_apart = refl

one_passes : (f : Row → Bool) {r : Row} {rs : List Row} → all f rs ≡ true → OneOf r rs → f r ≡ true
unfolding fold
one_passes f {r = r} e (OneOf.first {xs = rs}) = and_left (f r) (all f rs) e
one_passes f e (OneOf.later {y = q} {xs = rs} o) = one_passes f (and_right (f q) (all f rs) e) o

among_place : {r : Row} {rs : List Row} (ws : List Placed) → all_apart rs ≡ true → OneOf r rs → its_row ws r ≡ true
    → place_among rs ws ≡ first_refused (places r) ws
unfolding place_among
among_place ws e OneOf.first h = rw h
among_place {r = r} ws e (OneOf.later {y = q} {xs = rs} o) h =
    go (its_row ws q) refl (among_place ws (and_right (all (from q) rs) (all_apart rs) e) o h)
  where
    go : (t : Bool) → its_row ws q ≡ t → place_among rs ws ≡ first_refused (places r) ws
        → cond t (first_refused (places q) ws) (place_among rs ws) ≡ first_refused (places r) ws
    go true g k = absurd (never_theirs (places q) (places r) ws (one_passes (from q) (and_left (all (from q) rs) (all_apart rs) e) o) g h)
    go false g k = k

-- Whichever row of the table is the words' own, the place that is told is that of the first of its numbers that refuses.
pub its_place : (ws : List Placed) {r : Row} → OneOf r table → its_row ws r ≡ true → words_place ws ≡ first_refused (places r) ws
unfolding words_place
its_place ws o h = among_place ws table_apart o h
