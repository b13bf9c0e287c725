-- What is asked of every element of a list, of some element: the library has other names for both.
-- Assumes nothing.
use mathlib.Core.Path.{◌≡◌, refl, sym, ap, ◌∙◌}
use mathlib.Core.Bool.{Bool, ◌&&◌, ◌||◌}
use mathlib.Core.List.{List, [], ◌∷◌}
use Rattle.std.specs.List.{list_all, list_any, fold as fold_left}
use Rattle.laws.specs.Lists.{fold, all, any}
use Rattle.laws.proofs.Bools.{and_assoc, and_true}

module _ {X : Type 0} (f : X → Bool) where
  pub all_listed : (xs : List X) → list_all f xs ≡ all f xs
  unfolding fold
  all_listed [] = refl
  all_listed (x ∷ xs) = ap (λ (b : Bool). f x && b) (all_listed xs)

  pub any_listed : (xs : List X) → list_any f xs ≡ any f xs
  unfolding fold
  any_listed [] = refl
  any_listed (x ∷ xs) = ap (λ (b : Bool). f x || b) (any_listed xs)

  pub all_folded : (b : Bool) (xs : List X) → fold_left (λ (c : Bool) (x : X). c && f x) b xs ≡ (b && all f xs)
  unfolding fold
  all_folded b [] = sym (and_true b)
  all_folded b (x ∷ xs) = all_folded (b && f x) xs ∙ and_assoc b (f x) (all f xs)
