-- The names of the active flags: there are as many as active flags, and the first of them stands at the place of the first flag.
-- Assumes nothing.
use mathlib.Core.Path.{◌≡◌, refl, ap}
use mathlib.Core.Bool.{Bool, true, false}
use mathlib.Core.List.{List, [], ◌∷◌}
use Prim.Native.Nat.{ℕ, suc, ◌≤◌}
use native.Mathlib.Omega.{arith}
use lib.ListN.{length, get_or}
use Rattle.flags.specs.Flags.{warning_names, bits, named, count, first}

pub named_count : (fs : List Bool) (ns : List (List ℕ)) → length fs ≤ length ns → length (named fs ns) ≡ count fs
unfolding named count
named_count [] ns h = refl
named_count (f ∷ fs) [] h = absurd (omega arith)
named_count (true ∷ fs) (n ∷ ns) h = ap suc (named_count fs ns (omega arith))
named_count (false ∷ fs) (n ∷ ns) h = named_count fs ns (omega arith)

-- and where no flag is active, neither list has an entry there
pub named_first : (fs : List Bool) (ns : List (List ℕ)) (d : List ℕ) → length fs ≡ length ns → get_or (named fs ns) 0 d ≡ get_or ns (first fs) d
unfolding named first
named_first [] [] d h = refl
named_first [] (n ∷ ns) d h = absurd (omega arith)
named_first (f ∷ fs) [] d h = absurd (omega arith)
named_first (true ∷ fs) (n ∷ ns) d h = refl
named_first (false ∷ fs) (n ∷ ns) d h = named_first fs ns d (omega arith)

-- ---- the eight warnings of a mask
module _ (m : ℕ) where
  pub warnings_number : length (named (bits 8 m) warning_names) ≡ count (bits 8 m)
  unfolding bits warning_names
  warnings_number = named_count (bits 8 m) warning_names (omega arith)

  pub warnings_highest : (none : List ℕ) → get_or (named (bits 8 m) warning_names) 0 none ≡ get_or warning_names (first (bits 8 m)) none
  unfolding bits warning_names
  warnings_highest none = named_first (bits 8 m) warning_names none refl
