-- The library's walks over bytes are those of the rules.
-- Assumes nothing.
use mathlib.Core.Path.{◌≡◌, refl, ap}
use mathlib.Core.Bool.{Bool, ◌&&◌}
use mathlib.Core.List.{List, [], ◌∷◌}
use Prim.Native.Nat.{ℕ}
use Rattle.std.specs.List.{list_all}
use Rattle.laws.specs.Lists.{fold, all}

module _ (p : ℕ → Bool) where
  pub all_is : (s : List ℕ) → list_all p s ≡ all p s
  unfolding fold
  all_is [] = refl
  all_is (c ∷ s) = ap (λ t. p c && t) (all_is s)
