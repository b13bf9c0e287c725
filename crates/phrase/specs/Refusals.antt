-- When a command's words are refused, held against document 01's table alone: which rows begin so, and which row they fit.
-- Nothing here says in what order words are looked at. proofs/Refused.antt shows that the reading agrees.
use Rattle.std.specs.Prelude.{Bool, true, false, not, ◌&&◌, ◌||◌, List, [], ◌∷◌, ℕ, length, drop, Err, None, Ok, Some}
use Rattle.laws.specs.Lists.{any}
use Rattle.laws.specs.Text.{same}
use Rattle.laws.specs.declared.Refusal.TheVariants.{BadCommand, BadData}
use Rattle.laws.specs.Refusals.{Verdict, ACCEPTED, ◌when◌, first_of}
use Rattle.numbers.specs.Reading.{read_number, NumberRead}
use Rattle.command.specs.Settings.{read_only}
use Rattle.command.specs.Commands.{Place, word, SETTING, WRITABLE, N, P, Row, table, any_words}
use Rattle.phrase.specs.Reading.{read_setting, SettingRead, WordsRead}

-- what may stand at a place of a row
abbrev pub is_setting : SettingRead → Bool
is_setting (Some s) = true
is_setting None = false

abbrev pub is_writable : SettingRead → Bool
is_writable (Some s) = not (read_only s)
is_writable None = false

abbrev pub is_number : NumberRead → Bool
is_number (Ok n) = true
is_number (Err p) = false

abbrev pub stands : Place → List ℕ → Bool
stands (word v) w = same w v
stands SETTING w = is_setting (read_setting w)
stands WRITABLE w = is_writable (read_setting w)
stands N w = is_number (read_number w)
stands P w = is_number (read_number w)

-- whether words begin so, and whether they are just so
unfoldable pub begin_so : List Place → List (List ℕ) → Bool
begin_so [] ws = true
begin_so (p ∷ ps) [] = false
begin_so (p ∷ ps) (w ∷ ws) = stands p w && begin_so ps ws

unfoldable pub just_so : List Place → List (List ℕ) → Bool
just_so [] [] = true
just_so [] (w ∷ ws) = false
just_so (p ∷ ps) [] = false
just_so (p ∷ ps) (w ∷ ws) = stands p w && just_so ps ws

-- whether a row begins as words do, and whether it fits them: its front, and behind that its other words or any
abbrev begins : List (List ℕ) → Row → Bool
begins ws r = begin_so r.front ws

abbrev pub fits : List (List ℕ) → Row → Bool
fits ws r = begin_so r.front ws && (any_words r || just_so r.behind (drop (length r.front) ws))

-- 10, "first word unknown; second word of move or tools, or setting, unknown or missing; set of a read-only setting":
-- there is a word, and no row begins so
unfoldable pub bad_command : List (List ℕ) → Bool
bad_command [] = false
bad_command (v ∷ ws) = not (any (begins (v ∷ ws)) table)

-- 11, "any other word missing, too many or misspelt": there is a word, and no row fits
unfoldable pub bad_data : List (List ℕ) → Bool
bad_data [] = false
bad_data (v ∷ ws) = not (any (fits (v ∷ ws)) table)

-- document 01's number for what words are read as: "Accepted is 0"
abbrev pub words_number : WordsRead → Verdict
words_number (Ok x) = ACCEPTED
words_number (Err e) = Err e.refusal

-- "Checks run in the table's order and the first that applies wins."
unfoldable pub words_refusal : List (List ℕ) → Verdict
words_refusal ws = first_of (BadCommand when bad_command ws ∷ BadData when bad_data ws ∷ [])
