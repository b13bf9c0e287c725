-- The sum of a text byte by byte, modulo 256, is the one of its total.
-- Assumes nothing.
use mathlib.Core.Path.{◌≡◌, ◌∙◌}
use mathlib.Core.List.{List, [], ◌∷◌}
use Prim.Native.Nat.{ℕ, ◌+◌, ◌%◌, ◌<◌}
use native.Mathlib.Omega.{arith}
use Rattle.std.specs.List.{fold}
use Rattle.numbers.specs.Checksum.{total}

pub total_folded : (s : List ℕ) (a : ℕ) → a < 256 → fold (λ n c. (n + c) % 256) a s ≡ (a + total s) % 256
unfolding total
total_folded [] a h = omega arith
total_folded (c ∷ s) a h = total_folded s ((a + c) % 256) (omega arith) ∙ omega arith
