-- What is written reads back as itself: a number in decimal text, an address in two digits, a byte as a pair of hex digits.
-- Assumes nothing.
use Rattle.std.specs.Prelude.{Ok, Some}
use mathlib.Core.Path.{◌≡◌}
use Prim.Native.Nat.{ℕ, ◌/◌, ◌%◌, ◌≤◌, ◌<◌}
use lib.IntN.{ℤ}
use mir.Syntax.{w32}
use mir.Val.{SFits}
use Rattle.numbers.specs.Decimal.{decimal, two_digits, hex_digit, hex_pair}
use Rattle.numbers.specs.Reading.{read_address, read_number, read_pair}
use Rattle.numbers.proofs.Numbers.{address_read, number_read, pair_read}
use Rattle.numbers.proofs.Decimal.{decimal_spelled, address_spelled, pair_spelled}

pub number_back : (z : ℤ) → SFits w32 z → read_number (decimal z) ≡ Ok (record { 0 = z })
number_back z h = number_read (decimal_spelled z h)

pub address_back : (n : ℕ) → n ≤ 99 → read_address (two_digits n) ≡ Ok n
address_back n h = address_read (address_spelled n h)

pub pair_back : (n : ℕ) → n < 256 → read_pair (hex_digit (n / 16 % 16)) (hex_digit (n % 16)) ≡ Some n
unfolding hex_pair
pair_back n h = pair_read (pair_spelled n h)
