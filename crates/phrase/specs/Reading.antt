-- How a command's words are read, each with its place in the line: the command, or the refusal 10 or 11 and its place.
-- 10 is given at a word that the table does not have, before any word behind it is looked at, and so before 11.
-- A place is told with 11 where a number refuses; specs/Place.antt says by the table where that is.
use Rattle.std.specs.Prelude.{cond, List, [], ◌∷◌, ◌++◌, map, ℕ, ◌+◌, Option, None, Some, Result, Ok, Err}
use Rattle.laws.specs.Text.{text, same}
use Rattle.laws.specs.declared.Refusal.TheVariants.{BadCommand, BadData}
use Rattle.laws.specs.declared.RefusedAt.{RefusedAt}
use Rattle.laws.specs.Refusals.{NOWHERE, in_byte, refusal_at}
use Rattle.units.specs.Units.{position, speed}
use Rattle.units.specs.declared.Number.{Number}
use Rattle.numbers.specs.Reading.{read_number, NumberRead}
use Rattle.words.specs.Cutting.{Placed, behind}
use Rattle.words.specs.Find.{Entry, ◌means◌, meaning_of}
use Rattle.command.specs.declared.Setting.{Setting}
use Rattle.command.specs.declared.Target.TheVariants.{Abs, Rel, Min, Max, Stored}
use Rattle.command.specs.declared.AxisCommand.TheVariants.{Nothing, Home, Stop, Estop, MoveTo, MoveVel, Storepos, StoreposAt, StoreposCurrent, Warnings, WarningsClear}
use Rattle.command.specs.declared.DeviceCommand.TheVariants.{ParkingState, Park, Unpark, Echo, Help}
use Rattle.command.specs.declared.Command.{Command}
use Rattle.command.specs.declared.Command.TheVariants.{OfAxes, OfDevice}
use Rattle.command.specs.Commands.{get_command, set_command}
use Rattle.command.specs.Settings.{axis_settings, device_settings, name_of, read_only}
use Rattle.phrase.specs.declared.Numbered.{Numbered}
use Rattle.phrase.specs.declared.Numbered.TheVariants as With
use Rattle.phrase.specs.declared.Worded.{Worded}

-- what a command's words come to: the command, and the place where the words that it carries begin, 0 where it carries none; or a refusal
abbrev pub WordsRead : Type 0
WordsRead = Result Worded RefusedAt

abbrev pub worded : Command → ℕ → Worded
worded c from = record { command = c; from = from }

-- the refusals that have no place
abbrev pub unknown : WordsRead
unknown = Err (refusal_at BadCommand NOWHERE)

abbrev pub misspelt : WordsRead
misspelt = Err (refusal_at BadData NOWHERE)

-- a command with no word behind it
unfoldable pub ended : Command → List Placed → WordsRead
ended c [] = Ok (worded c 0)
ended c (w ∷ ws) = misspelt

-- the command of a row that waits for its number
abbrev pub numbered : Numbered → Number → Command
numbered With.MoveAbs n = OfAxes (MoveTo (Abs (position n.0)))
numbered With.MoveRel n = OfAxes (MoveTo (Rel (position n.0)))
numbered With.MoveVel n = OfAxes (MoveVel (speed n.0))
numbered With.MoveStored n = OfAxes (MoveTo (Stored n))
numbered (With.SetTo s) n = set_command s n
numbered With.Store n = OfAxes (Storepos n)
numbered (With.StoreAt m) n = OfAxes (StoreposAt m (position n.0))
numbered With.StoreCurrent n = OfAxes (StoreposCurrent n)

-- with the number whose word starts at place i; or the place where that refuses
abbrev pub made : Numbered → ℕ → NumberRead → WordsRead
made k i (Ok n) = Ok (worded (numbered k n) 0)
made k i (Err p) = Err (refusal_at BadData (in_byte (i + p)))

-- a row whose last word is its number: one word is left, and it is a number
unfoldable pub one_number : Numbered → List Placed → WordsRead
one_number k [] = misspelt
one_number k (w ∷ []) = made k w.start (read_number w.bytes)
one_number k (w ∷ v ∷ ws) = misspelt

-- behind `move`
abbrev pub moves : List Placed → List (Entry WordsRead)
moves ws =
    text "abs" means one_number With.MoveAbs ws
    ∷ text "rel" means one_number With.MoveRel ws
    ∷ text "vel" means one_number With.MoveVel ws
    ∷ text "min" means ended (OfAxes (MoveTo Min)) ws
    ∷ text "max" means ended (OfAxes (MoveTo Max)) ws
    ∷ text "stored" means one_number With.MoveStored ws
    ∷ []

unfoldable pub read_move : List Placed → WordsRead
read_move [] = unknown
read_move (w ∷ ws) = meaning_of unknown w.bytes (moves ws)

-- the setting that a word names
abbrev pub SettingRead : Type 0
SettingRead = Option Setting

-- the settings by their names
abbrev pub settings : List Setting
settings = map (λ s. Setting.OfAxis s) axis_settings ++ map (λ s. Setting.OfDevice s) device_settings

abbrev pub named : Setting → Entry SettingRead
named s = name_of s means Some s

abbrev pub axis_names : List (Entry SettingRead)
axis_names = map named (map (λ s. Setting.OfAxis s) axis_settings)

abbrev pub device_names : List (Entry SettingRead)
device_names = map named (map (λ s. Setting.OfDevice s) device_settings)

abbrev pub names : List (Entry SettingRead)
names = map named settings

unfoldable pub read_setting : List ℕ → SettingRead
read_setting w = meaning_of None w names

-- behind `get`
abbrev pub get_of : SettingRead → List Placed → WordsRead
get_of None ws = unknown
get_of (Some s) ws = ended (get_command s) ws

unfoldable pub read_get : List Placed → WordsRead
read_get [] = unknown
read_get (w ∷ ws) = get_of (read_setting w.bytes) ws

-- behind `set`: "set of a read-only setting" is 10
abbrev pub set_of : SettingRead → List Placed → WordsRead
set_of None ws = unknown
set_of (Some s) ws = cond (read_only s) unknown (one_number (With.SetTo s) ws)

unfoldable pub read_set : List Placed → WordsRead
read_set [] = unknown
read_set (w ∷ ws) = set_of (read_setting w.bytes) ws

-- behind `tools storepos`: N; N P; N current
abbrev pub store_at : ℕ → NumberRead → Placed → WordsRead
store_at i (Err p) v = Err (refusal_at BadData (in_byte (i + p)))
store_at i (Ok n) v = made (With.StoreAt n) v.start (read_number v.bytes)

unfoldable pub read_storepos : List Placed → WordsRead
read_storepos [] = misspelt
read_storepos (w ∷ []) = made With.Store w.start (read_number w.bytes)
read_storepos (w ∷ v ∷ []) =
    let n = read_number w.bytes in
    cond (same v.bytes (text "current")) (made With.StoreCurrent w.start n) (store_at w.start n v)
read_storepos (w ∷ v ∷ u ∷ ws) = misspelt

-- behind `tools parking`
abbrev pub parkings : List Placed → List (Entry WordsRead)
parkings ws =
    text "state" means ended (OfDevice ParkingState) ws
    ∷ text "park" means ended (OfDevice Park) ws
    ∷ text "unpark" means ended (OfDevice Unpark) ws
    ∷ []

unfoldable pub read_parking : List Placed → WordsRead
read_parking [] = misspelt
read_parking (w ∷ ws) = meaning_of misspelt w.bytes (parkings ws)

-- behind `tools`: p is the place behind the word `echo`, where the words begin that it carries
abbrev pub tools : ℕ → List Placed → List (Entry WordsRead)
tools p ws =
    text "storepos" means read_storepos ws
    ∷ text "parking" means read_parking ws
    ∷ text "echo" means Ok (worded (OfDevice Echo) p)
    ∷ []

unfoldable pub read_tools : List Placed → WordsRead
read_tools [] = unknown
read_tools (w ∷ ws) = meaning_of unknown w.bytes (tools (behind w) ws)

-- behind `warnings`
unfoldable pub read_warnings : List Placed → WordsRead
read_warnings [] = Ok (worded (OfAxes Warnings) 0)
read_warnings (w ∷ ws) = cond (same w.bytes (text "clear")) (ended (OfAxes WarningsClear) ws) misspelt

-- behind `help`
unfoldable pub read_help : List Placed → WordsRead
read_help [] = misspelt
read_help (w ∷ ws) = cond (same w.bytes (text "commands")) (ended (OfDevice Help) ws) misspelt

-- the first word
abbrev pub firsts : List Placed → List (Entry WordsRead)
firsts ws =
    text "home" means ended (OfAxes Home) ws
    ∷ text "stop" means ended (OfAxes Stop) ws
    ∷ text "estop" means ended (OfAxes Estop) ws
    ∷ text "move" means read_move ws
    ∷ text "get" means read_get ws
    ∷ text "set" means read_set ws
    ∷ text "tools" means read_tools ws
    ∷ text "warnings" means read_warnings ws
    ∷ text "help" means read_help ws
    ∷ []

unfoldable pub read_command : List Placed → WordsRead
read_command [] = Ok (worded (OfAxes Nothing) 0)
read_command (w ∷ ws) = meaning_of unknown w.bytes (firsts ws)
