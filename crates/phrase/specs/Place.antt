-- Order 3 of document 02: where a command's words went wrong, held against document 01's table alone, as specs/Refusals.antt is.
-- Nothing here says in what order words are looked at. proofs/Refused.antt shows that the reading agrees.
use Rattle.std.specs.Prelude.{Bool, true, false, cond, not, ◌&&◌, ◌||◌, List, [], ◌∷◌, ◌++◌, ℕ, ◌+◌, Err, Ok}
use Rattle.std.specs.Int.{w64}
use Rattle.std.proofs.Common.{Fits}
use Rattle.laws.specs.Text.{text, same}
use Rattle.laws.specs.Refusals.{NOWHERE, in_byte}
use Rattle.numbers.specs.Reading.{read_number, NumberRead}
use Rattle.words.specs.Cutting.{Placed}
use Rattle.command.specs.Commands.{Place, word, SETTING, WRITABLE, N, P, Row, table}
use Rattle.phrase.specs.Refusals.{stands}
use Rattle.phrase.specs.Reading.{WordsRead}

-- whether the word at a place of a row is to be a number: "in P's place all but `current` is one"
abbrev pub number_due : Place → List ℕ → Bool
number_due (word v) w = false
number_due SETTING w = false
number_due WRITABLE w = false
number_due N w = true
number_due P w = not (same w (text "current"))

-- "its row": a row with as many words, whose other words all fit
unfoldable pub other_words_fit : List Place → List Placed → Bool
other_words_fit [] [] = true
other_words_fit [] (w ∷ ws) = false
other_words_fit (p ∷ ps) [] = false
other_words_fit (p ∷ ps) (w ∷ ws) = (number_due p w.bytes || stands p w.bytes) && other_words_fit ps ws

-- "the first of them": the place where the first number of a row refuses, in the line; its word starts at i
abbrev pub or_else : ℕ → NumberRead → ℕ → ℕ
or_else i (Err p) next = in_byte (i + p)
or_else i (Ok n) next = next

unfoldable pub first_refused : List Place → List Placed → ℕ
first_refused [] ws = NOWHERE
first_refused (p ∷ ps) [] = NOWHERE
first_refused (p ∷ ps) (w ∷ ws) =
    let next = first_refused ps ws in
    cond (number_due p w.bytes) (or_else w.start (read_number w.bytes) next) next

-- all words of a row
abbrev pub places : Row → List Place
places r = r.front ++ r.behind

unfoldable pub place_among : List Row → List Placed → ℕ
place_among [] ws = NOWHERE
place_among (r ∷ rs) ws = cond (other_words_fit (places r) ws) (first_refused (places r) ws) (place_among rs ws)

-- the place that is told with 11: that of the row that is theirs, and 255 where none is
unfoldable pub words_place : List Placed → ℕ
words_place ws = place_among table ws

-- the place that was read
abbrev pub place_told : WordsRead → ℕ
place_told (Ok x) = NOWHERE
place_told (Err e) = e.place

-- for the code that adds up a refused number's place in the line, where its word starts at i: it is a number of 64 bits
abbrev pub Places : ℕ → NumberRead → Type 0
Places i (Ok n) = Unit
Places i (Err p) = Fits w64 (i + p)
