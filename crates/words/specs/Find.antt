-- A word's place in a list of words, and its meaning in a table.
-- Where the word is not in it, the place is the list's length, and the meaning is the one given for that.
use Rattle.std.specs.Prelude.{cond, List, [], ◌∷◌, map, ℕ, suc, get_or, ltb, length, Option}
use Rattle.std.specs.Bool.{then_some}
use Rattle.laws.specs.Text.{same}

unfoldable pub index : List ℕ → List (List ℕ) → ℕ
index w [] = 0
index w (v ∷ vs) = cond (same w v) 0 (suc (index w vs))

-- the place as the code has it: none where the word is not in the list
abbrev pub found : List ℕ → List (List ℕ) → Option ℕ
found w vs = then_some (ltb (index w vs) (length vs)) (index w vs)

-- a word and what it means
pub record Entry (X : Type 0) : Type 0 where
  pub word : List ℕ
  pub meaning : X

infix 70 ◌means◌
abbrev pub ◌means◌ : {X : Type 0} → List ℕ → X → Entry X
w means x = record { word = w; meaning = x }

unfoldable pub meaning_of : {X : Type 0} → X → List ℕ → List (Entry X) → X
meaning_of none w [] = none
meaning_of none w (e ∷ es) = cond (same w e.word) e.meaning (meaning_of none w es)

-- the meaning at a place of the table
abbrev pub entry_at : {X : Type 0} → X → ℕ → List (Entry X) → X
entry_at none k es = get_or (map (λ e. e.meaning) es) k none
