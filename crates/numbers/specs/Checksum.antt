-- The checksum of a text: "the bytes ... are summed, and the sum is negated modulo 256".
-- Of nothing it is 0.
use Rattle.std.specs.Prelude.{Bool, cond, List, [], ◌∷◌, ◌++◌, ℕ, ◌+◌, ◌-◌, ◌%◌}
use Rattle.laws.specs.Text.{text}
use Rattle.numbers.specs.Decimal.{hex_pair}

unfoldable pub total : List ℕ → ℕ
total [] = 0
total (c ∷ s) = c + total s

unfoldable pub checksum : List ℕ → ℕ
checksum s = (256 - total s % 256) % 256

-- "`:CC` in upper case", where it is wanted
unfoldable pub sum_text : Bool → List ℕ → List ℕ
sum_text wanted s = cond wanted (text ":" ++ hex_pair (checksum s)) []
