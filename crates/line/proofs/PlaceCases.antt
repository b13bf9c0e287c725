-- Lines and the places of their refusals, as one table under one statement: antt computes both what the tables say and what is read.
-- Assumes nothing.
use mathlib.Core.Path.{◌≡◌, refl}
use mathlib.Core.List.{List, [], ◌∷◌, map}
use Prim.Native.Nat.{ℕ}
use Rattle.laws.specs.Text.{text}
use Rattle.line.specs.Reading.{read_line, place_read}
use Rattle.line.specs.Place.{place_of}
use Rattle.line.specs.Open.{reading, refusing}
use Rattle.line.proofs.Cases.{Case, ◌is◌}

-- each line with the place that is told
abbrev pub table : List (Case ℕ)
table =
    -- an address word: stopped too soon, past 99, with a sign
    "/0x\n" is 3
    ∷ "/100x\n" is 3
    ∷ "/0x64 home\n" is 4
    ∷ "/-1\n" is 1
    ∷ "/+1\n" is 1
    ∷ "/  1a home\n" is 4
    -- a number: stopped too soon, past the range, no digit
    ∷ "/move abs 0x\n" is 12
    ∷ "/move abs -\n" is 11
    ∷ "/move abs 00x5\n" is 12
    ∷ "/move abs 2147483648\n" is 19
    ∷ "/move abs -2147483649\n" is 20
    ∷ "/move abs 2147483648x\n" is 19
    ∷ "/set maxspeed 1e5\n" is 15
    ∷ "/01 2  set  pos   0xg\n" is 20
    -- two numbers: the first that refuses; in P's place all but `current` is one
    ∷ "/tools storepos 1 curr\n" is 18
    ∷ "/tools storepos 1 currents\n" is 18
    ∷ "/tools storepos x current\n" is 16
    ∷ "/tools storepos x y\n" is 16
    ∷ "/tools storepos 1x 2x\n" is 17
    ∷ "/tools storepos 1 2x\n" is 19
    -- no place: a word too few or too many, no such row, a word that is no number's, and all other numbers
    ∷ "/move abs x y\n" is 255
    ∷ "/move abs\n" is 255
    ∷ "/tools storepos\n" is 255
    ∷ "/tools storepos x y z\n" is 255
    ∷ "/home 5\n" is 255
    ∷ "/warnings now\n" is 255
    ∷ "/get nothing\n" is 255
    ∷ "/set deviceid x\n" is 255
    ∷ "/set nothing x\n" is 255
    ∷ "/move up x\n" is 255
    ∷ "/move abs 5\n" is 255
    ∷ "/tools echo 0x\n" is 255
    ∷ "/move abs 0x:00\n" is 255
    ∷ "/move abs 0x" is 255
    ∷ []

pub told : map (λ (c : Case ℕ). place_of (text c.line)) table ≡ map (λ (c : Case ℕ). c.answer) table
unfolding refusing
told = refl

pub read : map (λ (c : Case ℕ). place_read (read_line (text c.line))) table ≡ map (λ (c : Case ℕ). c.answer) table
unfolding reading
read = refl
