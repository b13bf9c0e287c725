-- How the line of a motor report is read: "`R axis kind p` ... with spaces and numbers as above"; for a chain `R device axis kind p`.
-- "22 if misspelt, over 80 bytes or without a footer"
use Rattle.std.specs.Prelude.{Option, None, Some, Bool, true, false, cond, not, ◌&&◌, List, [], ◌∷◌, ℕ, eqb, ltb, length, take, drop, Err, Ok}
use Rattle.std.specs.Result.{result_ok}
use Rattle.laws.specs.Lists.{all, span}
use Rattle.laws.specs.declared.Refusal.TheVariants.{BadReport}
use Rattle.laws.specs.Refusals.{◌when◌, first_of, ACCEPTED, Verdict}
use Rattle.laws.specs.Text.{text, same}
use Rattle.units.specs.declared.Number.{Number}
use Rattle.numbers.specs.Reading.{NumberRead, read_number}
use Rattle.words.specs.Cutting.{cut, head_word, tail_words}
use Rattle.line.specs.Reading.{printable, is_footer}
use Rattle.line.specs.Spelling.{longest_line}
use Rattle.input.specs.declared.reports.MotorReport.{MotorReport}
use Rattle.input.specs.declared.reports.PlacedReport.{PlacedReport}

-- the words before the footer; none where the line is "over 80 bytes or without a footer"
abbrev pub framed_words : List ℕ → List (List ℕ)
framed_words s =
    let end = span printable s in
    cond (ltb longest_line (length s)) [] (cond (is_footer (drop end s)) (cut (take end s)) [])

-- the words behind the first, which is `R`; none behind another
abbrev pub behind_r : List (List ℕ) → List (List ℕ)
behind_r [] = []
behind_r (r ∷ ws) = cond (same r (text "R")) ws []

-- what a word says, if that is a number
abbrev pub number_said : List ℕ → Option Number
number_said w = result_ok (read_number w)

-- three numbers: axis, kind, and the last one
abbrev pub numbers_of : Option Number → Option Number → Option Number → Option MotorReport
numbers_of (Some axis) (Some kind) (Some last) = Some (record { axis = axis; kind = kind; last = last })
numbers_of None k n = None
numbers_of (Some axis) None n = None
numbers_of (Some axis) (Some kind) None = None

-- "`axis kind p`": just three words
abbrev pub three_of : List (List ℕ) → Option MotorReport
three_of [] = None
three_of (a ∷ []) = None
three_of (a ∷ k ∷ []) = None
three_of (a ∷ k ∷ n ∷ []) = numbers_of (number_said a) (number_said k) (number_said n)
three_of (a ∷ k ∷ n ∷ x ∷ ws) = None

unfoldable pub read_report : List ℕ → Option MotorReport
read_report s = three_of (behind_r (framed_words s))

-- a place of the chain, and what is reported of the device there
abbrev pub at_place : Option Number → Option MotorReport → Option PlacedReport
at_place (Some device) (Some report) = Some (record { place = device; report = report })
at_place (Some device) None = None
at_place None r = None

-- `device axis kind p`: one word, and such three
abbrev pub placed_of : List (List ℕ) → Option PlacedReport
placed_of [] = None
placed_of (d ∷ ws) = at_place (number_said d) (three_of ws)

unfoldable pub read_placed : List ℕ → Option PlacedReport
read_placed s = placed_of (behind_r (framed_words s))

-- what document 01 says for each case of the answer
abbrev pub number_of : Option MotorReport → Verdict
number_of (Some r) = ACCEPTED
number_of None = Err BadReport

abbrev pub placed_number : Option PlacedReport → Verdict
placed_number (Some r) = ACCEPTED
placed_number None = Err BadReport

-- the words of a report, said apart from their reading: so many, `R` and then numbers
abbrev pub is_number : NumberRead → Bool
is_number (Ok n) = true
is_number (Err p) = false

unfoldable pub spelled_so : ℕ → List (List ℕ) → Bool
spelled_so many ws = eqb (length ws) many && (same (head_word ws) (text "R") && all (λ w. is_number (read_number w)) (tail_words ws))

-- "22 if misspelt, over 80 bytes or without a footer"
unfoldable pub refusal_for : ℕ → List ℕ → Verdict
refusal_for many s =
    let end = span printable s in
    first_of
    (BadReport when ltb longest_line (length s)
    ∷ BadReport when not (is_footer (drop end s))
    ∷ BadReport when not (spelled_so many (cut (take end s)))
    ∷ [])

-- the four words of "`R axis kind p`"
unfoldable pub line_refusal : List ℕ → Verdict
line_refusal s = refusal_for 4 s

-- the five words of `R device axis kind p`
unfoldable pub placed_refusal : List ℕ → Verdict
placed_refusal s = refusal_for 5 s
