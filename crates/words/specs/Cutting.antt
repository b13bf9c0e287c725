-- The words of a content, as a function on the list of its bytes; and the first word from a place on, as the code finds it.
-- "Words ... parted by one or more spaces. Spaces may stand before the first word and after the last, or alone where there is no word."
use Rattle.std.specs.Prelude.{Bool, false, cond, not, List, [], ◌∷◌, map, ℕ, suc, ◌+◌, eqb, ltb, length, drop}
use Rattle.laws.specs.Text.{space}
use Rattle.laws.specs.Lists.{span}
use Rattle.words.specs.declared.Word.{Word}

unfoldable pub is_space : ℕ → Bool
is_space c = eqb c space

unfoldable pub no_space : ℕ → Bool
no_space c = not (eqb c space)

-- whether a word begins with the first byte of the content
abbrev pub begins : List ℕ → Bool
begins [] = false
begins (c ∷ s) = no_space c

-- a word, and the place of its first byte
pub record Placed : Type 0 where
  pub start : ℕ
  pub bytes : List ℕ

abbrev pub placed : ℕ → List ℕ → Placed
placed i w = record { start = i; bytes = w }

-- the place behind its last byte
abbrev pub behind : Placed → ℕ
behind w = w.start + length w.bytes

-- words without their places
abbrev pub bytes_of : List Placed → List (List ℕ)
bytes_of ws = map (λ (w : Placed). w.bytes) ws

-- a byte put before the first word; and one at place i
unfoldable pub grow : ℕ → List (List ℕ) → List (List ℕ)
grow c [] = (c ∷ []) ∷ []
grow c (w ∷ ws) = (c ∷ w) ∷ ws

unfoldable pub grow_at : ℕ → ℕ → List Placed → List Placed
grow_at i c [] = placed i (c ∷ []) ∷ []
grow_at i c (w ∷ ws) = placed i (c ∷ w.bytes) ∷ ws

-- the words of a text whose first byte stands at place i: a space is passed over; another byte is put before the word that
-- begins behind it, or is a word alone
unfoldable pub words_from : ℕ → List ℕ → List Placed
words_from i [] = []
words_from i (c ∷ s) =
    let ws = words_from (suc i) s in
    cond (is_space c) ws (cond (begins s) (grow_at i c ws) (placed i (c ∷ []) ∷ ws))

-- the words of s from the place `at` on, by their places in s
abbrev pub words_at : List ℕ → ℕ → List Placed
words_at s at = words_from at (drop at s)

-- the words of a text, without their places
unfoldable pub cut : List ℕ → List (List ℕ)
cut s = bytes_of (words_from 0 s)

-- the first word, or nothing where there is none; and the other words
unfoldable pub head_word : List (List ℕ) → List ℕ
head_word [] = []
head_word (w ∷ ws) = w

unfoldable pub tail_words : {W : Type 0} → List W → List W
tail_words [] = []
tail_words (w ∷ ws) = ws

-- ---- places in a content
-- behind the spaces from `at` on, and behind the word from a on
abbrev pub start_of : List ℕ → ℕ → ℕ
start_of s at = at + span is_space (drop at s)

abbrev pub end_of : List ℕ → ℕ → ℕ
end_of s a = a + span no_space (drop a s)

-- where the first word from `at` on stands, or the end of the text where there is none
unfoldable pub word_at : List ℕ → ℕ → Word
word_at s at = cond (ltb (start_of s at) (length s)) (record { start = start_of s at; end = end_of s (start_of s at) })
    (record { start = length s; end = length s })

-- behind the first word from `at` on, or the end of the text
unfoldable pub past_of : List ℕ → ℕ → ℕ
past_of s at = (word_at s at).end
