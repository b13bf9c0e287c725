-- Order 3 of document 02: the place of a line's refusal, held against the table of refusals and the table of commands alone.
-- "counted from 0 at the `/`". proofs/Refused.antt shows that the reading agrees for every line, proofs/WentWrong.antt what it means.
use Rattle.std.specs.Prelude.{List, [], ◌∷◌, ℕ, ◌+◌, Err, Ok}
use Rattle.laws.specs.declared.Refusal.TheVariants.{BadAddress, BadData}
use Rattle.laws.specs.Refusals.{Verdict, NOWHERE, in_byte}
use Rattle.numbers.specs.Reading.{read_address, UnsignedRead}
use Rattle.words.specs.Cutting.{Placed}
use Rattle.phrase.specs.Place.{words_place}
use Rattle.line.specs.Refusals.{own, words_in, refusal_of}

-- where an address word that starts at place i refuses
abbrev pub address_refused : ℕ → UnsignedRead → ℕ
address_refused i (Err p) = in_byte (i + p)
address_refused i (Ok n) = NOWHERE

unfoldable pub address_place : List Placed → ℕ
address_place [] = NOWHERE
address_place (w ∷ ws) = address_refused w.start (read_address w.bytes)

-- "with 4, and with 11 where only numbers of its row refuse ..., and 255 with all others": ws are the line's words
unfoldable pub place_with : Verdict → List Placed → ℕ
place_with (Err BadAddress) ws = address_place ws
place_with (Err BadData) ws = words_place (own ws)
place_with v ws = NOWHERE

unfoldable pub place_of : List ℕ → ℕ
place_of l = place_with (refusal_of l) (words_in l)
