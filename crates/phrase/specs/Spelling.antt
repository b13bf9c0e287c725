-- How a command's words are spelled, row by row of document 01's table of commands. Nothing here says how they are read.
-- Read `rule : A → Row ws c es` as: from an A, the words ws spell the command c, and es are the words that an echo carries.
use Rattle.std.specs.Prelude.{◌≡◌, false, List, [], ◌∷◌, ℕ, ℤ}
use Rattle.laws.specs.Text.{text}
use Rattle.units.specs.Units.{position, speed, number}
use Rattle.numbers.specs.Spelling.{NumberWord}
use Rattle.command.specs.declared.AxisSetting.{AxisSetting}
use Rattle.command.specs.declared.DeviceSetting.{DeviceSetting}
use Rattle.command.specs.declared.Setting.TheVariants as Setting
use Rattle.command.specs.declared.Target.TheVariants.{Abs, Rel, Min, Max, Stored}
use Rattle.command.specs.declared.AxisCommand.TheVariants.{Nothing, Home, Stop, Estop, MoveTo, MoveVel, Get, Set, Storepos, StoreposAt, StoreposCurrent, Warnings, WarningsClear}
use Rattle.command.specs.declared.DeviceCommand.TheVariants.{ParkingState, Park, Unpark, Echo, Help}
use Rattle.command.specs.declared.DeviceCommand.TheVariants as Device
use Rattle.command.specs.declared.Command.{Command}
use Rattle.command.specs.declared.Command.TheVariants.{OfAxes, OfDevice}
use Rattle.command.specs.Settings.{name_of, read_only}

pub data Row : List (List ℕ) → Command → List (List ℕ) → Type 0 where
  nothing : Row [] (OfAxes Nothing) []
  home : Row (text "home" ∷ []) (OfAxes Home) []
  stop : Row (text "stop" ∷ []) (OfAxes Stop) []
  estop : Row (text "estop" ∷ []) (OfAxes Estop) []
  move_abs : {w : List ℕ} {n : ℤ} → NumberWord w n → Row (text "move" ∷ text "abs" ∷ w ∷ []) (OfAxes (MoveTo (Abs (position n)))) []
  move_rel : {w : List ℕ} {n : ℤ} → NumberWord w n → Row (text "move" ∷ text "rel" ∷ w ∷ []) (OfAxes (MoveTo (Rel (position n)))) []
  move_vel : {w : List ℕ} {n : ℤ} → NumberWord w n → Row (text "move" ∷ text "vel" ∷ w ∷ []) (OfAxes (MoveVel (speed n))) []
  move_min : Row (text "move" ∷ text "min" ∷ []) (OfAxes (MoveTo Min)) []
  move_max : Row (text "move" ∷ text "max" ∷ []) (OfAxes (MoveTo Max)) []
  move_stored : {w : List ℕ} {n : ℤ} → NumberWord w n → Row (text "move" ∷ text "stored" ∷ w ∷ []) (OfAxes (MoveTo (Stored (number n)))) []
  -- the scope of `get` and `set` is the "setting's"
  get : {s : AxisSetting} → Row (text "get" ∷ name_of (Setting.OfAxis s) ∷ []) (OfAxes (Get s)) []
  get_device : {s : DeviceSetting} → Row (text "get" ∷ name_of (Setting.OfDevice s) ∷ []) (OfDevice (Device.Get s)) []
  -- "`set` is spelled only for settings that can be written."
  set : {s : AxisSetting} {w : List ℕ} {n : ℤ} → read_only (Setting.OfAxis s) ≡ false → NumberWord w n
      → Row (text "set" ∷ name_of (Setting.OfAxis s) ∷ w ∷ []) (OfAxes (Set s (number n))) []
  set_device : {s : DeviceSetting} {w : List ℕ} {n : ℤ} → read_only (Setting.OfDevice s) ≡ false → NumberWord w n
      → Row (text "set" ∷ name_of (Setting.OfDevice s) ∷ w ∷ []) (OfDevice (Device.Set s (number n))) []
  storepos : {w : List ℕ} {n : ℤ} → NumberWord w n → Row (text "tools" ∷ text "storepos" ∷ w ∷ []) (OfAxes (Storepos (number n))) []
  storepos_at : {w v : List ℕ} {n p : ℤ} → NumberWord w n → NumberWord v p
      → Row (text "tools" ∷ text "storepos" ∷ w ∷ v ∷ []) (OfAxes (StoreposAt (number n) (position p))) []
  storepos_current : {w : List ℕ} {n : ℤ} → NumberWord w n
      → Row (text "tools" ∷ text "storepos" ∷ w ∷ text "current" ∷ []) (OfAxes (StoreposCurrent (number n))) []
  warnings : Row (text "warnings" ∷ []) (OfAxes Warnings) []
  warnings_clear : Row (text "warnings" ∷ text "clear" ∷ []) (OfAxes WarningsClear) []
  parking_state : Row (text "tools" ∷ text "parking" ∷ text "state" ∷ []) (OfDevice ParkingState) []
  park : Row (text "tools" ∷ text "parking" ∷ text "park" ∷ []) (OfDevice Park) []
  unpark : Row (text "tools" ∷ text "parking" ∷ text "unpark" ∷ []) (OfDevice Unpark) []
  -- "An echo command carries its words as a list."
  echo : {ws : List (List ℕ)} → Row (text "tools" ∷ text "echo" ∷ ws) (OfDevice Echo) ws
  -- 02, order 5
  help : Row (text "help" ∷ text "commands" ∷ []) (OfDevice Help) []
