-- How the code's rows of the table of commands are read: words, with names for what a command carries.
-- The proof of `row` shows that its rows, filled so, are those of document 01's table (command/specs/Commands).
use Rattle.std.specs.Prelude.{cond, List, [], ◌∷◌, ◌++◌, map, ℕ}
use Rattle.laws.specs.Text.{text}
use Rattle.words.specs.Find.{Entry, ◌means◌, meaning_of}
use Rattle.numbers.specs.Decimal.{decimal}
use Rattle.command.specs.Settings.{name_of}
use Rattle.command.specs.Commands.{row_at, any_words, filled}
use Rattle.command.specs.declared.forms.Form.{Form}

-- what stands for these names: its numbers, its setting, and the words es that it carries
abbrev pub carried : Form → List (List ℕ) → List (Entry (List (List ℕ)))
carried f es =
    text "N" means (decimal f.first.0 ∷ [])
    ∷ text "P" means (decimal f.second.0 ∷ [])
    ∷ text "SETTING" means (name_of f.setting ∷ [])
    ∷ text "WORDS" means es
    ∷ []

-- any other word stands for itself
unfoldable pub words_for : Form → List (List ℕ) → List ℕ → List (List ℕ)
words_for f es w = meaning_of (w ∷ []) w (carried f es)

unfoldable pub filled_row : Form → List (List ℕ) → List (List ℕ) → List (List ℕ)
filled_row f es [] = []
filled_row f es (w ∷ ws) = words_for f es w ++ filled_row f es ws

-- the words of a row of the table, from its place on: what it carries stands at its end
unfoldable pub row_words : Form → List (List ℕ) → ℕ → List (List ℕ)
row_words f es k = map (filled f) ((row_at k).front ++ (row_at k).behind) ++ cond (any_words (row_at k)) es []
