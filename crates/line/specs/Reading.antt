-- How a line is read, with the refusals 2, 1, 3, 4, 10 and 11 in document 01's order, "with address and axis beside 10 and 11",
-- and with the place of each in the line. The refusals and their places are said apart from this in specs/Refusals.antt and
-- specs/Place.antt, and these agree with it.
use Rattle.std.specs.Prelude.{Bool, false, cond, not, ◌&&◌, ◌||◌, List, [], ◌∷◌, ℕ, suc, ◌+◌, eqb, ltb, leb, take, drop, length, Result, Ok, Err}
use Rattle.std.proofs.Math.Option.{Option, none, some}
use Rattle.laws.specs.Lists.{span}
use Rattle.laws.specs.Text.{CR, LF, plus_sign, minus_sign, slash, colon}
use Rattle.laws.specs.declared.Refusal.{Refusal}
use Rattle.laws.specs.declared.Refusal.TheVariants.{TooLong, NotLine, BadSum, BadAddress}
use Rattle.laws.specs.declared.RefusedAt.{RefusedAt}
use Rattle.laws.specs.Refusals.{Verdict, NOWHERE, in_byte, refusal_at}
use Rattle.numbers.specs.Reading.{no_digit, value_of, read_address, read_pair, says_sum, UnsignedRead}
use Rattle.words.specs.Cutting.{Placed, words_at, cut}
use Rattle.command.specs.declared.Command.{Command}
use Rattle.command.specs.Commands.{carries_words}
use Rattle.phrase.specs.Refusals.{words_number}
use Rattle.phrase.specs.Reading.{WordsRead, read_command}
use Rattle.phrase.specs.Place.{place_told}
use Rattle.line.specs.declared.Addressed.{Addressed}
use Rattle.line.specs.Spelling.{Asked, longest_line}

-- ---- the frame: `/`, content, checksum, footer; 2, 1, 3

-- no forbidden byte: a space, or a byte of a word, or the colon
unfoldable pub printable : ℕ → Bool
printable c = leb 32 c && leb c 126

unfoldable pub no_colon : ℕ → Bool
no_colon c = not (eqb c colon)

unfoldable pub is_end : ℕ → Bool
is_end c = eqb c CR || eqb c LF

unfoldable pub is_footer : List ℕ → Bool
is_footer [] = false
is_footer (c ∷ []) = is_end c
is_footer (c ∷ d ∷ []) = is_end c && is_end d
is_footer (c ∷ d ∷ e ∷ f) = false

-- what stands between `/` and footer: so many bytes of content; or the refusal 2, 1 or 3
abbrev pub Frame : Type 0
Frame = Result ℕ Refusal

-- the content s, of n bytes, and what stands behind it from the first colon on: nothing, or its checksum
unfoldable pub checked : ℕ → List ℕ → List ℕ → Frame
checked n s [] = Ok n
checked n s (x ∷ []) = Err BadSum
checked n s (x ∷ h ∷ []) = Err BadSum
checked n s (x ∷ h ∷ l ∷ []) = cond (says_sum s (read_pair h l)) (Ok n) (Err BadSum)
checked n s (x ∷ h ∷ l ∷ y ∷ r) = Err BadSum

unfoldable pub parted : List ℕ → Frame
parted s = checked (span no_colon s) (take (span no_colon s) s) (drop (span no_colon s) s)

-- what is behind the `/`: printable bytes, and then the footer
unfoldable pub after_slash : List ℕ → Frame
after_slash t = cond (is_footer (drop (span printable t) t)) (parted (take (span printable t) t)) (Err NotLine)

unfoldable pub slashed : List ℕ → Frame
slashed [] = Err NotLine
slashed (c ∷ t) = cond (eqb c slash) (after_slash t) (Err NotLine)

unfoldable pub frame_of : List ℕ → Frame
frame_of l = cond (ltb longest_line (length l)) (Err TooLong) (slashed l)

-- ---- what is read of a line

-- a refusal that is met with silence, and its place; or an address, an axis, the place where the content ends, and what the command's
-- words come to
abbrev pub LineRead : Type 0
LineRead = Result Addressed RefusedAt

abbrev pub sent : ℕ → ℕ → ℕ → WordsRead → Addressed
sent n k end w = record { address = n; axis = k; end = end; words = w }

-- ---- address and axis: 4

-- "A first word that begins with a digit, `+` or `-` is always the address word."
unfoldable pub begins_number : ℕ → Bool
begins_number c = eqb c plus_sign || (eqb c minus_sign || ltb (value_of c) 10)

unfoldable pub starts_number : List ℕ → Bool
starts_number [] = false
starts_number (c ∷ w) = begins_number c

-- the digit that a word is, or none
unfoldable pub axis_digit : List ℕ → ℕ
axis_digit [] = no_digit
axis_digit (c ∷ []) = value_of c
axis_digit (c ∷ d ∷ w) = no_digit

-- the words behind the address n, where the content ends at `end`
unfoldable pub axis_of : ℕ → ℕ → List Placed → LineRead
axis_of n end [] = Ok (sent n 0 end (read_command []))
axis_of n end (w ∷ ws) =
    cond (ltb (axis_digit w.bytes) 10)
    (Ok (sent n (axis_digit w.bytes) end (read_command ws)))
    (Ok (sent n 0 end (read_command (w ∷ ws))))

-- the address word, which starts at place i; or the place where it refuses
abbrev pub address_of : ℕ → UnsignedRead → ℕ → List Placed → LineRead
address_of i (Err p) end ws = Err (refusal_at BadAddress (in_byte (i + p)))
address_of i (Ok n) end ws = axis_of n end ws

-- the words of a content
unfoldable pub read_words : ℕ → List Placed → LineRead
read_words end [] = Ok (sent 0 0 end (read_command []))
read_words end (w ∷ ws) =
    cond (starts_number w.bytes) (address_of w.start (read_address w.bytes) end ws) (Ok (sent 0 0 end (read_command (w ∷ ws))))

-- ---- the line

-- a line up to the end of its content, which stands behind the `/`: places are "counted from 0 at the `/`"
abbrev pub read_content : List ℕ → LineRead
read_content s = read_words (length s) (words_at s 1)

abbrev pub framed : List ℕ → Frame → LineRead
framed l (Err n) = Err (refusal_at n NOWHERE)
framed l (Ok n) = read_content (take (suc n) l)

unfoldable pub read_line : List ℕ → LineRead
read_line l = framed l (frame_of l)

-- ---- document 01's number and values for each case of an answer

-- the number: "1 to 5 ... are silent", 10 and 11 are not, and "Accepted is 0"
abbrev pub number_of : LineRead → Verdict
number_of (Err e) = Err e.refusal
number_of (Ok x) = words_number x.words

-- the place that is told with it
abbrev pub place_read : LineRead → ℕ
place_read (Err e) = e.place
place_read (Ok x) = place_told x.words

-- the words that a command carries: those of the line l from a place up to the end of the content
abbrev pub carried_by : Command → List ℕ → List (List ℕ)
carried_by c s = cond (carries_words c) (cut s) []

-- the command of words that were read: its address, its axis, and what its row carries, where l is the line
abbrev pub asked_in : List ℕ → ℕ → ℕ → ℕ → WordsRead → Option Asked
asked_in l n k end (Err e) = none
asked_in l n k end (Ok x) = some (record { address = n; axis = k; command = x.command; echo = carried_by x.command (drop x.from (take end l)) })

abbrev pub asked_by : List ℕ → LineRead → Option Asked
asked_by l (Err e) = none
asked_by l (Ok x) = asked_in l x.address x.axis x.end x.words

unfoldable pub read_asked : List ℕ → Option Asked
read_asked l = asked_by l (read_line l)
