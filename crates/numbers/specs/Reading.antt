-- How a number's word is read: its value, or the refusal with its place in the word.
-- The place is that of the first byte that made it refuse, or the word's length if the word stopped too soon.
use Rattle.std.specs.Prelude.{Bool, false, cond, ◌&&◌, List, [], ◌∷◌, ℕ, suc, ◌+◌, ◌*◌, ◌-◌, ◌≤◌, eqb, ltb, leb, pos as plus, take, drop, Option, None, Some, Result, Ok, Err}
use Rattle.std.specs.Bool.{then_some}
use Rattle.numbers.specs.Checksum.{checksum}
use Rattle.numbers.specs.Spelling.{highest_address}
use Rattle.units.specs.Units.{minus}
use Rattle.units.specs.declared.Number.{Number}
use Rattle.laws.specs.Text.{plus_sign, minus_sign, text, same}

-- an unsigned number, or the place of its refusal; a number, likewise; a byte that two hex digits say
abbrev pub UnsignedRead : Type 0
UnsignedRead = Result ℕ ℕ

abbrev pub NumberRead : Type 0
NumberRead = Result Number ℕ

abbrev pub PairRead : Type 0
PairRead = Option ℕ

-- what stands for no digit: more than any digit
abbrev pub no_digit : ℕ
no_digit = 99

-- what a digit stands for, in either case; any other byte is none
unfoldable pub value_of : ℕ → ℕ
value_of c =
    cond (leb 48 c && leb c 57) (c - 48)
    (cond (leb 65 c && leb c 70) (c - 55)
    (cond (leb 97 c && leb c 102) (c - 87) no_digit))

-- the same as the code has it: none where it is no digit
abbrev pub digit_told : ℕ → Option ℕ
digit_told d = then_some (ltb d 16) d

-- digits of base b behind the number n, the first of them at place i; none may carry the value past `most`
unfoldable pub scan : ℕ → ℕ → ℕ → ℕ → List ℕ → UnsignedRead
scan b most n i [] = Ok n
scan b most n i (c ∷ s) =
    cond (ltb (value_of c) b && leb (n * b + value_of c) most)
    (scan b most (n * b + value_of c) (suc i) s)
    (Err i)

-- "at least one digit", the first of them at place i
unfoldable pub digits_from : ℕ → ℕ → ℕ → List ℕ → UnsignedRead
digits_from b most i [] = Err i
digits_from b most i (c ∷ s) = scan b most 0 i (c ∷ s)

unfoldable pub starts_hex : List ℕ → Bool
starts_hex s = same (take 2 s) (text "0x")

-- `0x` and hex digits, or decimal digits, from place i on
unfoldable pub unsigned_from : ℕ → ℕ → List ℕ → UnsignedRead
unsigned_from most i s = cond (starts_hex s) (digits_from 16 most (i + 2) (drop 2 s)) (digits_from 10 most i s)

-- what is read so is never above `most`
abbrev pub AtMost : ℕ → UnsignedRead → Type 0
AtMost most (Ok n) = n ≤ most
AtMost most (Err p) = 0 ≤ p

-- an address: no sign, 0 to 99
unfoldable pub read_address : List ℕ → UnsignedRead
read_address w = unsigned_from highest_address 0 w

abbrev pub above : UnsignedRead → NumberRead
above (Ok n) = Ok (record { 0 = plus n })
above (Err p) = Err p

abbrev pub below : UnsignedRead → NumberRead
below (Ok n) = Ok (record { 0 = minus n })
below (Err p) = Err p

-- a number: a sign or none, and a range with two different ends
unfoldable pub read_number : List ℕ → NumberRead
read_number [] = Err 0
read_number (c ∷ s) =
    cond (eqb c minus_sign) (below (unsigned_from 2147483648 1 s))
    (cond (eqb c plus_sign) (above (unsigned_from 2147483647 1 s))
    (above (unsigned_from 2147483647 0 (c ∷ s))))

-- a pair of hex digits
unfoldable pub read_pair : ℕ → ℕ → PairRead
read_pair h l = cond (ltb (value_of h) 16 && ltb (value_of l) 16) (Some (value_of h * 16 + value_of l)) None

-- whether the two digits say the checksum of s
abbrev pub says_sum : List ℕ → PairRead → Bool
says_sum s (Some n) = eqb n (checksum s)
says_sum s None = false
