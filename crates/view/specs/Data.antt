-- The data of an accepted command's reply: document 01's table of commands, its last column.
-- The record is the one before the command: "`clear` lists what was active and then clears".
use Rattle.std.specs.Prelude.{cond, List, ℕ}
use Rattle.laws.specs.Text.{text}
use Rattle.numbers.specs.Decimal.{decimal}
use Rattle.command.specs.declared.Setting.{Setting}
use Rattle.command.specs.declared.Setting.TheVariants.{OfAxis, OfDevice}
use Rattle.command.specs.declared.Command.{Command}
use Rattle.command.specs.declared.forms.Form.{Form}
use Rattle.command.specs.declared.kinds.Data.{Data}
use Rattle.command.specs.declared.kinds.Data.TheVariants.{Nought, Values, Stored, Position, Active, Parked, Words, Info}
use Rattle.command.specs.Forms.{form_of}
use Rattle.command.specs.Commands.{demands}
use Rattle.device.specs.declared.Device.{Device}
use Rattle.device.specs.Record.{value}
use Rattle.reply.specs.Data.{values, warning_list, echoed}
use Rattle.reply.specs.declared.told.Told.{Told}
use Rattle.view.specs.View.{values_of, warnings_of, listed_for}
use Rattle.view.specs.declared.Value.TheVariants as Value

-- "setting's" scope: the values of the axes, or the value of the device
abbrev pub setting_data : Device → ℕ → Setting → List ℕ
setting_data d k (OfAxis s) = values (values_of (Value.Of s) d k)
setting_data d k (OfDevice s) = decimal (value s d).0

-- "0 or 1"
unfoldable pub parked_data : Device → List ℕ
parked_data d = cond d.parked (text "1") (text "0")

-- the text of each kind of data, for the axis k, the form f of the command and the words ws of an echo
abbrev pub text_of : Device → ℕ → List (List ℕ) → Form → Data → List ℕ
text_of d k ws f Nought = text "0"
text_of d k ws f Values = setting_data d k f.setting
text_of d k ws f Stored = values (values_of (Value.Stored f.first) d k)
text_of d k ws f Position = values (values_of Value.Pos d k)
text_of d k ws f Active = warning_list (warnings_of d k)
text_of d k ws f Parked = parked_data d
text_of d k ws f Words = echoed ws
text_of d k ws f Info = text "0"

unfoldable pub data_of : Device → ℕ → List (List ℕ) → Command → List ℕ
data_of d k ws c = text_of d k ws (form_of c) (demands c).reply

-- what is told of a setting, and of each kind of data: the value that is taken out of the record for that text
-- (proofs/Telling.antt); the words of an echo stand in the line from `from` to `end`
abbrev pub setting_told : Device → ℕ → Setting → Told
setting_told d k (OfAxis s) = Told.Values (listed_for (Value.Of s) d k)
setting_told d k (OfDevice s) = Told.One (value s d)

abbrev pub told_of : Device → ℕ → Form → Data → ℕ → ℕ → Told
told_of d k f Nought from end = Told.Nought
told_of d k f Values from end = setting_told d k f.setting
told_of d k f Stored from end = Told.Values (listed_for (Value.Stored f.first) d k)
told_of d k f Position from end = Told.Values (listed_for Value.Pos d k)
told_of d k f Active from end = Told.Active (warnings_of d k)
told_of d k f Parked from end = Told.Parked d.parked
told_of d k f Words from end = Told.Words from end
told_of d k f Info from end = Told.Info
