-- The texts of `help commands`, order 5 of document 02: "one info line each with the texts home, stop, ..., in that order; later
-- commands add their first word at the end."
use Rattle.std.specs.Prelude.{Bool, List, [], ◌∷◌, map, ℕ, get_or}
use Rattle.laws.specs.Text.{text}
use Rattle.reply.specs.Reply.{info}

unfoldable pub help_texts : List (List ℕ)
help_texts =
    text "home"
    ∷ text "stop"
    ∷ text "estop"
    ∷ text "move"
    ∷ text "get"
    ∷ text "set"
    ∷ text "tools storepos"
    ∷ text "warnings"
    ∷ text "tools parking"
    ∷ text "tools echo"
    ∷ text "help commands"
    ∷ []

-- the text at a place from 0; beyond the last there is none
abbrev pub help_text : ℕ → List ℕ
help_text i = get_or help_texts i []

-- "96 bytes for the reply and for each info line": longest_reply * suc (length help_texts), which proofs/HelpTexts.antt computes
abbrev pub longest_answer : ℕ
longest_answer = 1152

-- what is left of it behind the reply
abbrev pub longest_infos : ℕ
longest_infos = 1056

-- the info lines of a device of this address, for axis 0: it is the device that they speak of
unfoldable pub info_lines : ℕ → Bool → List (List ℕ)
info_lines address sum = map (info address 0 sum) help_texts
