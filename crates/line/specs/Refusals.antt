-- Document 01's table of refusals, as far as a line alone can be refused: when each applies, said apart from the others.
-- Nothing here says in what order a line is looked at. proofs/Refused.antt shows that the reading agrees for every line.
use Rattle.std.specs.Prelude.{Bool, true, false, cond, not, ◌&&◌, ◌||◌, List, [], ◌∷◌, ℕ, ◌-◌, eqb, ltb, leb, length, get_or, take, drop, Err, Ok}
use Rattle.laws.specs.Lists.{all}
use Rattle.laws.specs.Text.{slash, colon}
use Rattle.laws.specs.declared.Refusal.TheVariants.{TooLong, NotLine, BadSum, BadAddress, BadCommand, BadData}
use Rattle.laws.specs.Refusals.{Verdict, ◌when◌, first_of}
use Rattle.numbers.specs.Reading.{read_address, read_pair, says_sum, UnsignedRead}
use Rattle.words.specs.Cutting.{Placed, bytes_of, words_from}
use Rattle.phrase.specs.Refusals.{bad_command, bad_data}
use Rattle.line.specs.Spelling.{longest_line}
use Rattle.line.specs.Reading.{printable, no_colon, is_end, starts_number, axis_digit}

-- how many bytes the footer has: "one or two bytes, each CR or LF", at the end; none where the last byte is neither
unfoldable pub footer_size : List ℕ → ℕ
footer_size l = cond (is_end (get_or l (length l - 1) 0)) (cond (is_end (get_or l (length l - 2) 0)) 2 1) 0

-- the bytes between `/` and footer
unfoldable pub body : List ℕ → List ℕ
body l = take (length l - 1 - footer_size l) (drop 1 l)

-- 2, "over 80 bytes"
unfoldable pub too_long : List ℕ → Bool
too_long l = ltb longest_line (length l)

-- 1, "no `/` first, no footer, or a forbidden byte"
unfoldable pub not_line : List ℕ → Bool
not_line l = not (eqb (get_or l 0 0) slash) || (eqb (footer_size l) 0 || not (all printable (body l)))

-- the last three bytes of b are the checksum of those before them: "A colon stands nowhere else"
unfoldable pub checksum_right : List ℕ → Bool
checksum_right b =
    let s = take (length b - 3) b in
    leb 3 (length b) && (eqb (get_or b (length b - 3) 0) colon &&
    (all no_colon s && says_sum s (read_pair (get_or b (length b - 2) 0) (get_or b (length b - 1) 0))))

-- 3, "colon out of place, bad digits or wrong sum"
unfoldable pub bad_sum : List ℕ → Bool
bad_sum b = not (all no_colon b) && not (checksum_right b)

-- the content of a body: all of it, or what stands before its checksum
unfoldable pub content : List ℕ → List ℕ
content b = cond (all no_colon b) b (take (length b - 3) b)

-- 4, "address word outside the rule": "A first word that begins with a digit, `+` or `-` is always the address word."
abbrev pub is_address : UnsignedRead → Bool
is_address (Ok n) = true
is_address (Err p) = false

unfoldable pub bad_address : List Placed → Bool
bad_address [] = false
bad_address (w ∷ ws) = starts_number w.bytes && not (is_address (read_address w.bytes))

-- the command's own words: those behind the address word and the axis word, where these stand
unfoldable pub behind_axis : List Placed → List Placed
behind_axis [] = []
behind_axis (w ∷ ws) = cond (ltb (axis_digit w.bytes) 10) ws (w ∷ ws)

unfoldable pub own : List Placed → List Placed
own [] = []
own (w ∷ ws) = cond (starts_number w.bytes) (behind_axis ws) (w ∷ ws)

-- the words of a line's content, each with its place in the line: the `/` has place 0
unfoldable pub words_in : List ℕ → List Placed
words_in l = words_from 1 (content (body l))

-- a line's refusal: 2, 1, 3, 4, 10, 11, in this order
unfoldable pub refusal_of : List ℕ → Verdict
refusal_of l =
    let ws = words_in l in
    first_of
    (TooLong when too_long l
    ∷ NotLine when not_line l
    ∷ BadSum when bad_sum (body l)
    ∷ BadAddress when bad_address ws
    ∷ BadCommand when bad_command (bytes_of (own ws))
    ∷ BadData when bad_data (bytes_of (own ws))
    ∷ [])
