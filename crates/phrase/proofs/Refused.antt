-- Words are refused with 10 or 11 exactly where document 01's table says so, 10 before 11, and at the place that it says.
-- Assumes nothing.
use Rattle.std.specs.Prelude.{Err, None, Ok, Some}
use mathlib.Core.Path.{◌≡◌, refl, ap, ◌∙◌}
use mathlib.Core.Bool.{Bool, true, false, cond, not, ◌&&◌, ◌||◌}
use mathlib.Core.List.{List, [], ◌∷◌, map}
use Prim.Native.Nat.{ℕ}
use Rattle.laws.specs.Lists.{fold}
use Rattle.laws.specs.Text.{text, same}
use Rattle.laws.specs.declared.Refusal.TheVariants.{BadCommand, BadData}
use Rattle.laws.specs.Refusals.{Verdict, ACCEPTED, ◌when◌, first_of, NOWHERE}
use Rattle.laws.proofs.Bools.{and_false}
use Rattle.laws.proofs.Each.{none}
use Rattle.numbers.specs.Reading.{read_number, NumberRead}
use Rattle.words.specs.Cutting.{Placed, placed, bytes_of}
use Rattle.words.specs.Find.{Entry, meaning_of}
use Rattle.command.specs.Settings.{read_only}
use Rattle.command.specs.declared.AxisCommand.TheVariants.{Home, Stop, Estop, MoveTo, WarningsClear}
use Rattle.command.specs.declared.DeviceCommand.TheVariants.{ParkingState, Park, Unpark, Help}
use Rattle.command.specs.declared.Command.{Command}
use Rattle.command.specs.declared.Command.TheVariants.{OfAxes, OfDevice}
use Rattle.command.specs.declared.Target.TheVariants.{Min, Max}
use Rattle.command.specs.Commands.{Place, N, get_command}
use Rattle.phrase.specs.declared.Numbered.{Numbered}
use Rattle.phrase.specs.declared.Numbered.TheVariants as With
use Rattle.phrase.specs.Reading.{SettingRead, ended, made, one_number, moves, read_move, read_setting, read_get, read_set, read_storepos, parkings, read_parking, tools, read_tools, read_warnings, read_help, firsts, read_command, WordsRead}
use Rattle.phrase.specs.Refusals.{begin_so, just_so, is_number, bad_command, bad_data, words_number, words_refusal}
use Rattle.phrase.specs.Place.{other_words_fit, or_else, first_refused, place_among, words_place, place_told}
use Rattle.phrase.proofs.Among.{◌also◌, among}

-- the number that the table gives
abbrev given : Bool → Bool → Verdict
given a b = first_of (BadCommand when a ∷ BadData when b ∷ [])

abbrev words_of : List (Entry WordsRead) → List (List ℕ)
words_of es = map (λ (e : Entry WordsRead). e.word) es

-- what words are read as agrees with the table: the number, and the place
abbrev Agrees : List Placed → Type 0
Agrees ws =
    (words_number (read_command ws) ≡ given (bad_command (bytes_of ws)) (bad_data (bytes_of ws)))
    × (place_told (read_command ws) ≡ words_place ws)

-- what stands behind the front of a row
fit : (b : Bool) → cond b ACCEPTED (Err BadData) ≡ given false (not (b || false))
unfolding first_of
fit true = refl
fit false = refl

-- the row with these words behind its front is the only one that begins so
abbrev Behind : List Place → WordsRead → List Placed → Type 0
Behind ps r t =
    (words_number r ≡ given false (not (just_so ps (bytes_of t) || false)))
    × (place_told r ≡ cond (other_words_fit ps t) (first_refused ps t) NOWHERE)

ended_fits : (c : Command) (t : List Placed) → Behind [] (ended c t) t
unfolding ended just_so other_words_fit first_refused
ended_fits c [] = (fit true, refl)
ended_fits c (w ∷ t) = (fit false, refl)

number_fits : (k : Numbered) (t : List Placed) → Behind (N ∷ []) (one_number k t) t
unfolding one_number just_so other_words_fit first_refused
number_fits k [] = (fit false, refl)
number_fits k (w ∷ []) = go (read_number w.bytes)
  where
    go : (r : NumberRead) → (words_number (made k w.start r) ≡ given false (not (is_number r && true || false)))
        × (place_told (made k w.start r) ≡ or_else w.start r NOWHERE)
    go (Ok n) = (fit true, refl)
    go (Err p) = (fit false, refl)
number_fits k (w ∷ v ∷ t) = (simp and_false (fit false), refl)

-- any words may stand behind the front: none has a place
any_fits : (t : List Placed) → NOWHERE ≡ cond (other_words_fit [] t) (first_refused [] t) NOWHERE
unfolding other_words_fit first_refused
any_fits [] = refl
any_fits (w ∷ t) = refl

-- what the table of commands says of words, opened by one name
unfoldable tables : ℕ
unfolding bad_command bad_data begin_so just_so first_of fold same text words_place place_among other_words_fit first_refused
tables = 0

-- the first word of a command, at place i, and the words behind it
module _ (i : ℕ) where
  move_agrees : (ws : List Placed) → Agrees (placed i (text "move") ∷ ws)
  unfolding read_command read_move meaning_of tables
  move_agrees [] = (refl, refl)
  move_agrees (u ∷ t) =
      among (λ (v : List ℕ). Agrees (placed i (text "move") ∷ placed u.start v ∷ t)) u.bytes {vs = words_of (moves t)}
      (number_fits With.MoveAbs t
      also number_fits With.MoveRel t
      also number_fits With.MoveVel t
      also ended_fits (OfAxes (MoveTo Min)) t
      also ended_fits (OfAxes (MoveTo Max)) t
      also number_fits With.MoveStored t
      also none)
      (λ d. simp (d.0, d.1.0, d.1.1.0, d.1.1.1.0, d.1.1.1.1.0, d.1.1.1.1.1.0) (refl, refl))

  after_get : (u : Placed) (t : List Placed) (x : SettingRead) → read_setting u.bytes ≡ x → Agrees (placed i (text "get") ∷ u ∷ t)
  unfolding read_command read_get meaning_of tables
  after_get u t None q = rw q (refl, refl)
  after_get u t (Some s) q = rw q (ended_fits (get_command s) t)

  get_agrees : (ws : List Placed) → Agrees (placed i (text "get") ∷ ws)
  unfolding read_command read_get meaning_of tables
  get_agrees [] = (refl, refl)
  get_agrees (u ∷ t) = after_get u t (read_setting u.bytes) refl

  after_set : (u : Placed) (t : List Placed) (x : SettingRead) → read_setting u.bytes ≡ x → Agrees (placed i (text "set") ∷ u ∷ t)
  unfolding read_command read_set meaning_of tables
  after_set u t None q = rw q (refl, refl)
  after_set u t (Some s) q = go (read_only s) refl
    where
      go : (b : Bool) → read_only s ≡ b → Agrees (placed i (text "set") ∷ u ∷ t)
      go true r = rw (q, r) (refl, refl)
      go false r = rw (q, r) (number_fits (With.SetTo s) t)

  set_agrees : (ws : List Placed) → Agrees (placed i (text "set") ∷ ws)
  unfolding read_command read_set meaning_of tables
  set_agrees [] = (refl, refl)
  set_agrees (u ∷ t) = after_set u t (read_setting u.bytes) refl

  module _ (j : ℕ) where
    abbrev Storepos : List Placed → Type 0
    Storepos t = Agrees (placed i (text "tools") ∷ placed j (text "storepos") ∷ t)

    storepos-agrees : (t : List Placed) → Storepos t
    unfolding read_command read_tools read_storepos meaning_of tables
    storepos-agrees [] = (refl, refl)
    storepos-agrees (w ∷ []) = go (read_number w.bytes) refl
      where
        go : (x : NumberRead) → read_number w.bytes ≡ x → Storepos (w ∷ [])
        go (Ok n) q = rw q (refl, refl)
        go (Err o) q = rw q (refl, refl)
    storepos-agrees (w ∷ v ∷ []) = go (same v.bytes (text "current")) refl (read_number w.bytes) refl (read_number v.bytes) refl
      where
        go : (b : Bool) → same v.bytes (text "current") ≡ b → (x : NumberRead) → read_number w.bytes ≡ x
            → (y : NumberRead) → read_number v.bytes ≡ y → Storepos (w ∷ v ∷ [])
        go true e (Ok n) q (Ok m) r = rw (e, q, r) (refl, refl)
        go true e (Ok n) q (Err o) r = rw (e, q, r) (refl, refl)
        go true e (Err o) q (Ok m) r = rw (e, q, r) (refl, refl)
        go true e (Err o) q (Err p) r = rw (e, q, r) (refl, refl)
        go false e (Ok n) q (Ok m) r = rw (e, q, r) (refl, refl)
        go false e (Ok n) q (Err o) r = rw (e, q, r) (refl, refl)
        go false e (Err o) q y r = rw (e, q) (refl, refl)
    storepos-agrees (w ∷ v ∷ u ∷ t) = simp and_false (refl, refl)

    abbrev Parking : List Placed → Type 0
    Parking t = Agrees (placed i (text "tools") ∷ placed j (text "parking") ∷ t)

    parking-agrees : (ws : List Placed) → Parking ws
    unfolding read_command read_tools read_parking meaning_of tables
    parking-agrees [] = (refl, refl)
    parking-agrees (u ∷ t) = among (λ (v : List ℕ). Parking (placed u.start v ∷ t)) u.bytes {vs = words_of (parkings t)}
        (ended_fits (OfDevice ParkingState) t also ended_fits (OfDevice Park) t also ended_fits (OfDevice Unpark) t also none)
        (λ d. simp (d.0, d.1.0, d.1.1.0) (refl, refl))

  tools_agrees : (ws : List Placed) → Agrees (placed i (text "tools") ∷ ws)
  unfolding read_command read_tools meaning_of tables
  tools_agrees [] = (refl, refl)
  tools_agrees (u ∷ t) =
      among (λ (v : List ℕ). Agrees (placed i (text "tools") ∷ placed u.start v ∷ t)) u.bytes {vs = words_of (tools 0 t)}
      (storepos-agrees u.start t also parking-agrees u.start t also (refl, any_fits t) also none)
      (λ d. simp (d.0, d.1.0, d.1.1.0) (refl, refl))

  warnings_agrees : (ws : List Placed) → Agrees (placed i (text "warnings") ∷ ws)
  unfolding read_command read_warnings meaning_of tables
  warnings_agrees [] = (refl, refl)
  warnings_agrees (u ∷ t) =
      among (λ (v : List ℕ). Agrees (placed i (text "warnings") ∷ placed u.start v ∷ t)) u.bytes {vs = text "clear" ∷ []}
      (ended_fits (OfAxes WarningsClear) t also none)
      (λ d. simp d.0 (refl, refl))

  help_agrees : (ws : List Placed) → Agrees (placed i (text "help") ∷ ws)
  unfolding read_command read_help meaning_of tables
  help_agrees [] = (refl, refl)
  help_agrees (u ∷ t) =
      among (λ (v : List ℕ). Agrees (placed i (text "help") ∷ placed u.start v ∷ t)) u.bytes {vs = text "commands" ∷ []}
      (ended_fits (OfDevice Help) t also none)
      (λ d. simp d.0 (refl, refl))

first_agrees : (w : Placed) (t : List Placed) → Agrees (w ∷ t)
unfolding read_command meaning_of tables
first_agrees w t = among (λ (v : List ℕ). Agrees (placed w.start v ∷ t)) w.bytes {vs = words_of (firsts t)}
    (ended_fits (OfAxes Home) t
    also ended_fits (OfAxes Stop) t
    also ended_fits (OfAxes Estop) t
    also move_agrees w.start t
    also get_agrees w.start t
    also set_agrees w.start t
    also tools_agrees w.start t
    also warnings_agrees w.start t
    also help_agrees w.start t
    also none)
    (λ d. simp (
      d.0,
      d.1.0,
      d.1.1.0,
      d.1.1.1.0,
      d.1.1.1.1.0,
      d.1.1.1.1.1.0,
      d.1.1.1.1.1.1.0,
      d.1.1.1.1.1.1.1.0,
      d.1.1.1.1.1.1.1.1.0,
    ) (refl, refl))

agrees : (ws : List Placed) → Agrees ws
unfolding read_command bad_command bad_data first_of words_place place_among other_words_fit
agrees [] = (refl, refl)
agrees (w ∷ t) = first_agrees w t

-- Words are refused with the first of 10 and 11 that applies, and with no other number.
pub words_refused : (ws : List Placed) → words_number (read_command ws) ≡ words_refusal (bytes_of ws)
unfolding words_refusal
words_refused ws = (agrees ws).0

-- The place that is told with them is the one that the table says.
pub words_placed : (ws : List Placed) → place_told (read_command ws) ≡ words_place ws
words_placed ws = (agrees ws).1

-- what `read_command` promises of its answer
pub answered : {r : WordsRead} (ws : List Placed) → r ≡ read_command ws
    → (r ≡ read_command ws) × ((words_number r ≡ words_refusal (bytes_of ws)) × (place_told r ≡ words_place ws))
answered ws e = (e, (ap words_number e ∙ words_refused ws, ap place_told e ∙ words_placed ws))
