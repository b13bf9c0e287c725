-- How a content is composed of words: every rule composes a text from smaller ones. Nothing here says how a content is cut.
-- Read `rule : A → B → Content s ws` as: from an A and a B, the bytes s are a content of the words ws.
use Rattle.std.specs.Prelude.{◌≡◌, List, [], ◌∷◌, ◌++◌, ℕ, ◌≤◌}
use Rattle.laws.specs.Text.{space, colon}

-- "bytes 33 to 126 except the colon"
pub record WordByte (c : ℕ) : Type 0 where
  pub low : 33 ≤ c
  pub high : c ≤ 126
  pub no_colon : c ≡ colon → ⊥

pub data Spaces : List ℕ → Type 0 where
  none : Spaces []
  more : {s : List ℕ} → Spaces s → Spaces (space ∷ s)

pub data Word : List ℕ → Type 0 where
  one : {c : ℕ} → WordByte c → Word (c ∷ [])
  more : {c : ℕ} {w : List ℕ} → WordByte c → Word w → Word (c ∷ w)

-- "words ... parted by one or more spaces. Spaces may stand before the first word and after the last, or alone where there is
-- no word": spaces alone; a word behind spaces; a word behind spaces, and a content that begins with a space
pub data Content : List ℕ → List (List ℕ) → Type 0 where
  blank : {p : List ℕ} → Spaces p → Content p []
  last : {p w : List ℕ} → Spaces p → Word w → Content (p ++ w) (w ∷ [])
  next : {p w s : List ℕ} {ws : List (List ℕ)} → Spaces p → Word w → Content (space ∷ s) ws → Content (p ++ (w ++ space ∷ s)) (w ∷ ws)
