-- Words and what they are read as, closed by computation: the ends of the range, both bases, and each kind of refusal.
-- A refusal's place is counted from 0 in the word.
use Rattle.std.specs.Prelude.{Err, Ok}
use mathlib.Core.Path.{◌≡◌, refl}
use mathlib.Core.List.{List, [], ◌∷◌, map}
use Prim.Native.Nat.{ℕ}
use Prim.Native.String.{String}
use lib.IntN.{ℤ, pos, negsuc}
use Rattle.laws.specs.Text.{text, same}
use Rattle.numbers.specs.Reading.{value_of, scan, digits_from, starts_hex, unsigned_from, read_address, read_number, UnsignedRead, NumberRead}

pub record Row (R : Type 0) : Type 0 where
  pub word : String
  pub answer : R

abbrev is : String → ℤ → Row NumberRead
is w v = record { word = w; answer = Ok (record { 0 = v }) }

abbrev stops : String → ℕ → Row NumberRead
stops w p = record { word = w; answer = Err p }

unfoldable pub numbers : List (Row NumberRead)
numbers =
    is "0" (pos 0)
    ∷ is "-0" (pos 0)
    ∷ is "+007" (pos 7)
    ∷ is "0x00fF" (pos 255)
    ∷ is "2147483647" (pos 2147483647)
    ∷ is "-2147483648" (negsuc 2147483647)
    ∷ is "+0x7FFFffff" (pos 2147483647)
    ∷ is "-0x80000000" (negsuc 2147483647)
    ∷ stops "2147483648" 9
    ∷ stops "-2147483649" 10
    ∷ stops "0x80000000" 9
    ∷ stops "99999999999x" 9
    ∷ stops "" 0
    ∷ stops "-" 1
    ∷ stops "0x" 2
    ∷ stops "+0x" 3
    ∷ stops "0xg" 2
    ∷ stops "0X5" 1
    ∷ stops "00x5" 2
    ∷ stops "+-5" 1
    ∷ stops "12a" 2
    ∷ []

pub number_cases : map (λ r. read_number (text r.word)) numbers ≡ map (λ r. r.answer) numbers
unfolding numbers read_number unsigned_from starts_hex digits_from scan value_of text same
number_cases = refl

abbrev at : String → ℕ → Row UnsignedRead
at w n = record { word = w; answer = Ok n }

abbrev none : String → ℕ → Row UnsignedRead
none w p = record { word = w; answer = Err p }

unfoldable pub addresses : List (Row UnsignedRead)
addresses = at "0" 0 ∷ at "099" 99 ∷ at "0x63" 99 ∷ none "0x64" 3 ∷ none "100" 2 ∷ none "100x" 2 ∷ none "-1" 0 ∷ none "+1" 0 ∷ none "0x" 2
    ∷ none "1a" 1 ∷ []

pub address_cases : map (λ r. read_address (text r.word)) addresses ≡ map (λ r. r.answer) addresses
unfolding addresses read_address unsigned_from starts_hex digits_from scan value_of text same
address_cases = refl
