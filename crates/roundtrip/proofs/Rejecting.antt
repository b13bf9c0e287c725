-- "10 to 16 write the rejecting reply, its data the name": the reader and the device reject with no other number, and each has a name.
-- Assumes nothing.
use Rattle.std.specs.Prelude.{Ok, Err}
use Rattle.laws.specs.declared.Refusal.TheVariants.{BadCommand, BadData, BadAxis, DeviceOnly, NoAccess, Parked, StatusBusy}
use Rattle.laws.specs.Refusals.{Verdict}
use Rattle.laws.specs.declared.Refusal.{Refusal}
use mathlib.Core.Path.{◌≡◌, refl, subst}
use mathlib.Core.Bool.{Bool, true, false, cond}
use mathlib.Core.List.{List}
use Prim.Native.Nat.{ℕ}
use Rattle.laws.proofs.Refusals.{of_rows}
use Rattle.laws.specs.Text.{text}
use Rattle.laws.proofs.Each.{Each, none, more}
use Rattle.command.specs.declared.Command.{Command}
use Rattle.phrase.proofs.WordsNumbered.{Misspelt}
use Rattle.phrase.proofs.WordsNumbered as Words
use Rattle.phrase.proofs.Written.{word_of}
use Rattle.line.specs.Reading.{LineRead, read_line}
use Rattle.line.proofs.EveryLine.{Reads, unframed, misaddressed, misspelt, spelled, every_line}
use Rattle.device.specs.declared.Device.{Device}
use Rattle.rules.specs.Refusals.{refusal}
use Rattle.reply.specs.Data.{refusal_name}
use Rattle.carriage.proofs.Demands.{Rejects}
use Rattle.host_reader.specs.Spelling.{Data}
use Rattle.roundtrip.proofs.Texts.{one_data}

pub data Rejecting : Refusal → Type 0 where
  bad_command_lem : Rejecting BadCommand
  bad_data_lem : Rejecting BadData
  bad_axis_lem : Rejecting BadAxis
  device_only_lem : Rejecting DeviceOnly
  no_access : Rejecting NoAccess
  parked : Rejecting Parked
  status_busy_lem : Rejecting StatusBusy

-- each of them has its name
pub name_data : {n : Refusal} → Rejecting n → Data (refusal_name n)
unfolding refusal_name text
name_data bad_command_lem = one_data (word_of (text "BADCOMMAND") refl)
name_data bad_data_lem = one_data (word_of (text "BADDATA") refl)
name_data bad_axis_lem = one_data (word_of (text "BADAXIS") refl)
name_data device_only_lem = one_data (word_of (text "DEVICEONLY") refl)
name_data no_access = one_data (word_of (text "NOACCESS") refl)
name_data parked = one_data (word_of (text "PARKED") refl)
name_data status_busy_lem = one_data (word_of (text "STATUSBUSY") refl)

-- ---- the device's refusals
abbrev RejectsSo : Verdict → Type 0
RejectsSo (Ok u) = Unit
RejectsSo (Err n) = Rejecting n

pub device_rejects : (d : Device) (k : ℕ) (c : Command) {n : Refusal} → refusal d k c ≡ Err n → Rejecting n
unfolding refusal
device_rejects d k c e =
    subst RejectsSo e
    (of_rows RejectsSo tt (more bad_command_lem (more bad_axis_lem
    (more device_only_lem (more no_access (more parked (more status_busy_lem (more bad_data_lem none))))))))

-- ---- the reader's
words_reject : {v : Verdict} → Misspelt v → RejectsSo v
words_reject Words.bad_command_lem = bad_command_lem
words_reject Words.bad_data_lem = bad_data_lem

read_rejects : {l : List ℕ} {r : LineRead} → Reads l r → Rejects Rejecting r
read_rejects (unframed h no_words) = tt
read_rejects (misaddressed c h) = tt
read_rejects (misspelt c h no_words x) = words_reject x
read_rejects (spelled w) = tt

pub line_rejects : (l : List ℕ) → Rejects Rejecting (read_line l)
line_rejects l = read_rejects (every_line l)
