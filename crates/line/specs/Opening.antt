-- A line is read in two steps: first its frame and its address, and the rest only where it is wanted.
-- proofs/Opened.antt shows that both together read what specs/Reading.antt says.
use Rattle.std.specs.Prelude.{cond, ◌||◌, List, [], ◌∷◌, ℕ, suc, ◌+◌, ◌-◌, eqb, ltb, take, length, get_or, Result, Ok, Err}
use Rattle.std.specs.Int.{w64}
use Rattle.std.proofs.Common.{Fits}
use Rattle.laws.specs.Text.{space}
use Rattle.laws.specs.declared.Refusal.TheVariants.{BadAddress}
use Rattle.laws.specs.declared.RefusedAt.{RefusedAt}
use Rattle.laws.specs.Refusals.{NOWHERE, in_byte, refusal_at}
use Rattle.numbers.specs.Reading.{no_digit, value_of, read_address, UnsignedRead}
use Rattle.words.specs.Cutting.{Placed, behind, words_at}
use Rattle.phrase.specs.Reading.{read_command}
use Rattle.line.specs.Reading.{Frame, frame_of, starts_number, axis_of, LineRead, sent}
use Rattle.line.specs.declared.Opening.{Opening}
use Rattle.line.specs.declared.Opening.TheVariants.{Bare, To}

-- the digit of a word that starts at place i and has one byte, or none
unfoldable pub digit_at : List ℕ → ℕ → ℕ
digit_at s i =
    cond (ltb i (length s)) (cond (eqb (length s - i) 1 || eqb (get_or s (i + 1) 0) space) (value_of (get_or s i 0)) no_digit) no_digit

-- the address word, which starts at place i, and behind which the content goes on from `at` up to `end`
abbrev pub addressee : ℕ → UnsignedRead → ℕ → ℕ → Result Opening RefusedAt
addressee i (Err p) at end = Err (refusal_at BadAddress (in_byte (i + p)))
addressee i (Ok n) at end = Ok (To n at end)

-- the words of a content that ends at `end`
unfoldable pub open_first : ℕ → List Placed → Result Opening RefusedAt
open_first end [] = Ok (Bare end)
open_first end (w ∷ ws) = cond (starts_number w.bytes) (addressee w.start (read_address w.bytes) (behind w) end) (Ok (Bare end))

-- a line up to the end of its content
abbrev pub open_words : List ℕ → Result Opening RefusedAt
open_words s = open_first (length s) (words_at s 1)

abbrev pub opened : List ℕ → Frame → Result Opening RefusedAt
opened l (Err n) = Err (refusal_at n NOWHERE)
opened l (Ok n) = open_words (take (suc n) l)

unfoldable pub open_line : List ℕ → Result Opening RefusedAt
open_line l = opened l (frame_of l)

-- what stands behind the opening in the line l, whatever line was opened
abbrev pub read_on : List ℕ → Result Opening RefusedAt → LineRead
read_on l (Err e) = Err e
read_on l (Ok (Bare end)) = let s = take end l in Ok (sent 0 0 (length s) (read_command (words_at s 1)))
read_on l (Ok (To n at end)) = let s = take end l in axis_of n (length s) (words_at s at)

-- for the code that adds up where an address word that starts at i refuses: the place in the line is a number of 64 bits
abbrev pub AddressPlaces : ℕ → UnsignedRead → Type 0
AddressPlaces i (Ok n) = Unit
AddressPlaces i (Err p) = Fits w64 (i + p)
