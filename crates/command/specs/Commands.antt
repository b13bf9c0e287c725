-- Document 01's table of commands, and behind it the commands of 02: one line a row, with its words and what is constant of it. The only
-- list of these words beside the spelling and the reader: refusing, writing and what an echo carries are said from it.
use Rattle.std.specs.Prelude.{Bool, true, false, cond, List, [], ◌∷◌, ◌++◌, map, ℕ, get_or, drop}
use Prim.Native.String.{String}
use Rattle.laws.specs.Text.{text}
use Rattle.units.specs.Units.{position, speed}
use Rattle.units.specs.declared.Position.{Position as Microsteps}
use Rattle.units.specs.declared.Number.{Number}
use Rattle.numbers.specs.Decimal.{decimal}
use Rattle.command.specs.declared.Setting.{Setting}
use Rattle.command.specs.declared.Target.TheVariants.{Abs, Rel, Min, Max}
use Rattle.command.specs.declared.Target.TheVariants as Target
use Rattle.command.specs.declared.AxisCommand.{AxisCommand}
use Rattle.command.specs.declared.AxisCommand.TheVariants as Axis
use Rattle.command.specs.declared.DeviceCommand.{DeviceCommand}
use Rattle.command.specs.declared.DeviceCommand.TheVariants as Device
use Rattle.command.specs.declared.Command.{Command}
use Rattle.command.specs.declared.Command.TheVariants.{OfAxes, OfDevice}
use Rattle.command.specs.declared.forms.Form.{Form}
use Rattle.command.specs.declared.kinds.Use.{Use}
use Rattle.command.specs.declared.kinds.Use.TheVariants.{Apart, Gets, Sets}
use Rattle.command.specs.declared.kinds.Data.{Data}
use Rattle.command.specs.declared.kinds.Data.TheVariants.{Nought, Values, Stored, Position, Active, Parked, Words, Info}
use Rattle.command.specs.declared.kinds.Kind.{Kind}
use Rattle.command.specs.declared.kinds.Demands.{Demands}
use Rattle.command.specs.Settings.{about, name_of, read_only, only_at_rest}
use Rattle.command.specs.Forms.{form_of}

-- what may stand at a place of a row: that word, a setting, a setting that can be written, its number, its position
pub data Place : Type 0 where
  word : List ℕ → Place
  SETTING WRITABLE N P : Place

-- the words that tell which row it is; those behind them; what is constant of it; and the command that it makes of a setting,
-- its number and its position
pub record Row : Type 0 where
  pub front : List Place
  pub behind : List Place
  pub kind : Kind
  pub makes : Setting → Number → Number → Command

abbrev kind : Use → Bool → Bool → Bool → Data → Kind
kind u p r s d = record { uses = u; unparked = p; rest = r; shows = s; reply = d }

abbrev row : List Place → List Place → Use → Bool → Bool → Bool → Data → (Setting → Number → Number → Command) → Row
row front behind u p r s d makes = record { front = front; behind = behind; kind = kind u p r s d; makes = makes }

-- a command of axes that carries nothing, its number, its number and its position; a command of the device
abbrev axes : AxisCommand → Setting → Number → Number → Command
axes c s n p = OfAxes c

abbrev numbered : (Number → AxisCommand) → Setting → Number → Number → Command
numbered c s n p = OfAxes (c n)

abbrev positioned : (Number → Microsteps → AxisCommand) → Setting → Number → Number → Command
positioned c s n p = OfAxes (c n (position p.0))

abbrev device : DeviceCommand → Setting → Number → Number → Command
device c s n p = OfDevice c

-- the scope of `get` and `set` is the "setting's"
abbrev pub get_command : Setting → Command
get_command (Setting.OfAxis s) = OfAxes (Axis.Get s)
get_command (Setting.OfDevice s) = OfDevice (Device.Get s)

abbrev pub set_command : Setting → Number → Command
set_command (Setting.OfAxis s) n = OfAxes (Axis.Set s n)
set_command (Setting.OfDevice s) n = OfDevice (Device.Set s n)

-- the words of the table's columns
abbrev w : String → Place
w s = word (text s)

abbrev unparked : Bool
unparked = true

abbrev anytime : Bool
anytime = false

abbrev at_rest : Bool
at_rest = true

abbrev even_moving : Bool
even_moving = false

abbrev shows : Bool
shows = true

abbrev changes : Bool
changes = false

-- "(none)"
abbrev pub none : Row
none = row [] [] Apart anytime even_moving shows Nought (axes Axis.Nothing)

-- the words of the row, in two groups: 10 is for the first, 11 for the second; its setting is read, written, or there is none;
-- "On a parked device home, move, stop and estop are rejected", and 02, order 4: "PARKED no longer given for home"; STATUSBUSY:
-- "park with an axis moving"; whether it only shows; the data of its reply; the command that it makes
abbrev pub table : List Row
table =
    row (w "home" ∷ []) [] Apart anytime even_moving changes Nought (axes Axis.Home)
    ∷ row (w "stop" ∷ []) [] Apart unparked even_moving changes Nought (axes Axis.Stop)
    ∷ row (w "estop" ∷ []) [] Apart unparked even_moving changes Nought (axes Axis.Estop)
    ∷ row (w "move" ∷ w "abs" ∷ []) (N ∷ []) Apart unparked even_moving changes Nought (numbered (λ n. Axis.MoveTo (Abs (position n.0))))
    ∷ row (w "move" ∷ w "rel" ∷ []) (N ∷ []) Apart unparked even_moving changes Nought (numbered (λ n. Axis.MoveTo (Rel (position n.0))))
    ∷ row (w "move" ∷ w "vel" ∷ []) (N ∷ []) Apart unparked even_moving changes Nought (numbered (λ n. Axis.MoveVel (speed n.0)))
    ∷ row (w "move" ∷ w "min" ∷ []) [] Apart unparked even_moving changes Nought (axes (Axis.MoveTo Min))
    ∷ row (w "move" ∷ w "max" ∷ []) [] Apart unparked even_moving changes Nought (axes (Axis.MoveTo Max))
    ∷ row (w "move" ∷ w "stored" ∷ []) (N ∷ []) Apart unparked even_moving changes Nought (numbered (λ n. Axis.MoveTo (Target.Stored n)))
    ∷ row (w "get" ∷ SETTING ∷ []) [] Gets anytime even_moving shows Values (λ s n p. get_command s)
    ∷ row (w "set" ∷ WRITABLE ∷ []) (N ∷ []) Sets anytime even_moving changes Nought (λ s n p. set_command s n)
    ∷ row (w "tools" ∷ w "storepos" ∷ []) (N ∷ []) Apart anytime even_moving changes Stored (numbered Axis.Storepos)
    ∷ row (w "tools" ∷ w "storepos" ∷ []) (N ∷ P ∷ []) Apart anytime even_moving changes Nought (positioned Axis.StoreposAt)
    ∷ row (w "tools" ∷ w "storepos" ∷ []) (N ∷ w "current" ∷ []) Apart anytime even_moving changes Position (numbered Axis.StoreposCurrent)
    ∷ row (w "warnings" ∷ []) [] Apart anytime even_moving shows Active (axes Axis.Warnings)
    ∷ row (w "warnings" ∷ []) (w "clear" ∷ []) Apart anytime even_moving changes Active (axes Axis.WarningsClear)
    ∷ row (w "tools" ∷ w "parking" ∷ []) (w "state" ∷ []) Apart anytime even_moving shows Parked (device Device.ParkingState)
    ∷ row (w "tools" ∷ w "parking" ∷ []) (w "park" ∷ []) Apart anytime at_rest changes Nought (device Device.Park)
    ∷ row (w "tools" ∷ w "parking" ∷ []) (w "unpark" ∷ []) Apart anytime even_moving changes Nought (device Device.Unpark)
    ∷ row (w "tools" ∷ w "echo" ∷ []) [] Apart anytime even_moving shows Words (device Device.Echo)
    ∷ row (w "help" ∷ []) (w "commands" ∷ []) Apart anytime even_moving shows Info (device Device.Help)
    ∷ []

abbrev pub row_at : ℕ → Row
row_at k = get_or (none ∷ table) k none

abbrev pub kinds : List Kind
kinds = map (λ r. r.kind) (none ∷ table)

abbrev pub kind_at : ℕ → Kind
kind_at k = get_or kinds k none.kind

-- ---- what a command demands

abbrev pub demands_by : Kind → Bool → ℕ → Bool → Demands
demands_by k barred access rest =
    record { barred = barred; access = access; unparked = k.unparked; rest = rest; shows = k.shows; reply = k.reply }

-- what the setting adds: whether it is read only, the access that it takes, whether it is written only at rest
abbrev barred_by : Use → Setting → Bool
barred_by Apart s = false
barred_by Gets s = false
barred_by Sets s = read_only s

abbrev access_by : Use → Setting → ℕ
access_by Apart s = 1
access_by Gets s = (about s).get
access_by Sets s = (about s).set

abbrev rest_by : Use → Bool → Setting → Bool
rest_by Apart rest s = rest
rest_by Gets rest s = rest
rest_by Sets rest s = only_at_rest s

abbrev pub demands_with : Use → Kind → Setting → Demands
demands_with u k s = demands_by k (barred_by u s) (access_by u s) (rest_by u k.rest s)

abbrev pub demands_of : Form → Demands
demands_of f = demands_with (kind_at f.row).uses (kind_at f.row) f.setting

abbrev pub demands : Command → Demands
demands c = demands_of (form_of c)

-- ---- info lines

abbrev pub is_info : Data → Bool
is_info Nought = false
is_info Values = false
is_info Stored = false
is_info Position = false
is_info Active = false
is_info Parked = false
is_info Words = false
is_info Info = true

-- 02, order 5: "answers 0 and one info line each"
abbrev pub informs : Command → Bool
informs c = is_info (demands c).reply

-- ---- its words

abbrev pub is_words : Data → Bool
is_words Nought = false
is_words Values = false
is_words Stored = false
is_words Position = false
is_words Active = false
is_words Parked = false
is_words Words = true
is_words Info = false

-- "tools echo WORDS": any words behind the others, which the reply has as its data
abbrev pub any_words : Row → Bool
any_words r = is_words r.kind.reply

-- "An echo command carries its words as a list": no other command carries any
abbrev pub carries_words : Command → Bool
carries_words c = is_words (demands c).reply

-- the words that it carries, where ws are all of its words
unfoldable pub echo_of : Command → List (List ℕ) → List (List ℕ)
echo_of c ws = cond (carries_words c) (drop 2 ws) []

-- a place with what a command has for it, its numbers in decimal
abbrev pub filled : Form → Place → List ℕ
filled f (word v) = v
filled f SETTING = name_of f.setting
filled f WRITABLE = name_of f.setting
filled f N = decimal f.first.0
filled f P = decimal f.second.0

-- the words of a command, where es are those that it carries
abbrev pub command_words : Command → List (List ℕ) → List (List ℕ)
command_words c es =
    let r = row_at (form_of c).row in
    map (filled (form_of c)) (r.front ++ r.behind) ++ cond (carries_words c) es []
