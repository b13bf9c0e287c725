-- Warnings as a list of flags, the highest first, and as a mask, whose bit 0 is the highest.
-- "Warnings, highest first: FD FQ FS FT FB FP FE WR. WR is active exactly when the axis has no reference."
use Rattle.std.specs.Prelude.{Bool, false, cond, ◌||◌, List, [], ◌∷◌, ◌++◌, map, ℕ, zero, suc, ◌+◌, ◌*◌, ◌/◌, ◌%◌, eqb, replicate}
use Rattle.laws.specs.Text.{text}
use Rattle.laws.specs.Lists.{fold}

unfoldable pub warning_names : List (List ℕ)
warning_names = map text ("FD" ∷ "FQ" ∷ "FS" ∷ "FT" ∷ "FB" ∷ "FP" ∷ "FE" ∷ "WR" ∷ [])

-- the first n bits of a mask, as flags; and the mask that has just these flags
unfoldable pub bits : ℕ → ℕ → List Bool
bits zero m = []
bits (suc n) m = eqb (m % 2) 1 ∷ bits n (m / 2)

unfoldable pub mask : List Bool → ℕ
mask [] = 0
mask (f ∷ fs) = cond f 1 0 + mask fs * 2

-- the eight flags of an axis: seven bits of the mask in its record, and WR
unfoldable pub active : ℕ → Bool → List Bool
active m wr = bits 7 m ++ (wr ∷ [])

-- "axis 0 takes the union over all axes": f gives the flags of one axis
unfoldable pub either : List Bool → List Bool → List Bool
either [] m = []
either (x ∷ l) [] = []
either (x ∷ l) (y ∷ m) = (x || y) ∷ either l m

abbrev pub union : {X : Type 0} → (X → List Bool) → List X → List Bool
union f xs = fold either (replicate 8 false) f xs

-- the names whose flags are active, "highest first"
unfoldable pub named : List Bool → List (List ℕ) → List (List ℕ)
named [] ns = []
named (f ∷ fs) [] = []
named (f ∷ fs) (n ∷ ns) = cond f (n ∷ named fs ns) (named fs ns)

-- "the number of active warnings"
unfoldable pub count : List Bool → ℕ
count [] = 0
count (f ∷ fs) = cond f (suc (count fs)) (count fs)

-- the place of the first active flag, from 0; the list's length where none is active
unfoldable pub first : List Bool → ℕ
first [] = 0
first (f ∷ fs) = cond f 0 (suc (first fs))
