-- A mark is one byte, and no mark is the byte that is read beyond the end.
-- Assumes nothing.
use mathlib.Core.Path.{◌≡◌, refl}
use mathlib.Core.List.{List, [], ◌∷◌}
use Prim.Native.Nat.{ℕ}
use lib.ListN.{get_or}
use Rattle.laws.specs.Text.{text, same}
use Rattle.words.specs.Find.{index}
use Rattle.host_reader.specs.Reading.{marks, kind_at, kind_of, mark_in}

pub mark_is : (l : List ℕ) → kind_at (mark_in l) ≡ kind_of (get_or l 0 0)
unfolding marks index text same kind_at
mark_is [] = refl
mark_is (c ∷ l) = refl
