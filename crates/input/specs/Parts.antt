-- The parts of an input: each ends with its LF, and the last one with the input.
-- "parts them after each LF (a last part without LF counts unless empty)"
use Rattle.std.specs.Prelude.{cond, List, [], ◌∷◌, ℕ, suc, eqb}
use Rattle.laws.specs.Text.{LF}
use Rattle.words.specs.Cutting.{grow}

unfoldable pub parts : List ℕ → List (List ℕ)
parts [] = []
parts (c ∷ s) = cond (eqb c LF) ((c ∷ []) ∷ parts s) (grow c (parts s))

-- how many bytes the first part has
unfoldable pub first_part : List ℕ → ℕ
first_part [] = 0
first_part (c ∷ s) = cond (eqb c LF) 1 (suc (first_part s))
