-- The axis places that a walk looks at: some neighbours of the four that there are.
-- Which of them a place is, is asked of each place by its number.
use Rattle.std.specs.Prelude.{Bool, ◌&&◌, ℕ, ◌+◌, ◌-◌, min, leb, ltb}
use Rattle.device.specs.declared.walks.Stretch.{Stretch}

-- n places from the number k on, of the four that there are
unfoldable pub stretch_of : ℕ → ℕ → Stretch
stretch_of n k = let i = min (k - 1) 4 in record { from = i; many = min n (4 - i) }

-- the place i, from 0, is one of them
unfoldable pub covers : Stretch → ℕ → Bool
covers p i = leb p.from i && ltb i (p.from + p.many)
