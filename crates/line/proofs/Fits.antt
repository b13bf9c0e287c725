-- Every command but an echo has a line that fits, whatever its numbers: so none that is in range is left without a line that is read
-- as it. Assumes nothing.
use mathlib.Core.Path.{◌≡◌, refl}
use mathlib.Core.Bool.{Bool, true, false}
use mathlib.Core.List.{List, [], ◌∷◌, ◌++◌, map, append-nil}
use mathlib.Core.Option.{some}
use Prim.Native.Nat.{ℕ, zero, suc, ◌+◌, ◌≤◌}
use native.Mathlib.Omega.{arith}
use lib.Dec.{leb}
use lib.ListN.{length, get_or, length-append}
use borrow.Author.Tests.{leb-true}
use Rattle.laws.specs.Lists.{fold, all}
use Rattle.laws.specs.Text.{text, spaced}
use Rattle.laws.proofs.Bools.{and_left, and_right}
use Rattle.numbers.specs.Decimal.{digits, two_digits}
use Rattle.numbers.proofs.Decimal.{digits_length, decimal_length}
use Rattle.command.specs.declared.AxisSetting.TheVariants as AxisSetting
use Rattle.command.specs.declared.DeviceSetting.TheVariants as DeviceSetting
use Rattle.command.specs.declared.Setting.{Setting}
use Rattle.command.specs.declared.forms.Form.{Form}
use Rattle.command.specs.Settings.{name_of}
use Rattle.command.specs.Forms.{form_of}
use Rattle.command.specs.Commands.{Place, word, SETTING, WRITABLE, N, P, Row, none, table, row_at, carries_words, filled}
use Rattle.phrase.specs.Writing.{Number32}
use Rattle.line.specs.Spelling.{Asked}
use Rattle.line.specs.Reading.{read_asked}
use Rattle.line.specs.Writing.{content_for, line_for, InRange}
use Rattle.line.proofs.Every.{every_command}

-- ---- how many bytes the words of a row take at most, each with a space before it
abbrev place_size : Place → ℕ
place_size (word v) = length v
place_size SETTING = 19
place_size WRITABLE = 19
place_size N = 11
place_size P = 11

unfoldable total : List Place → ℕ
total [] = 0
total (x ∷ xs) = suc (place_size x + total xs)

abbrev row_short_lem : Row → Bool
row_short_lem r = leb (total (r.front ++ r.behind)) 40

table_short : all row_short_lem (none ∷ table) ≡ true
unfolding fold text total
table_short = refl

entry_short : (rows : List Row) (k : ℕ) → row_short_lem none ≡ true → all row_short_lem rows ≡ true → row_short_lem (get_or rows k none) ≡ true
unfolding fold
entry_short [] k d e = d
entry_short (r ∷ rows) zero d e = and_left (row_short_lem r) (all row_short_lem rows) e
entry_short (r ∷ rows) (suc k) d e = entry_short rows k d (and_right (row_short_lem r) (all row_short_lem rows) e)

row_short : (k : ℕ) → row_short_lem (row_at k) ≡ true
unfolding fold total
row_short k = entry_short (none ∷ table) k refl table_short

name_short : (s : Setting) → leb (length (name_of s)) 19 ≡ true
unfolding name_of text
name_short (Setting.OfAxis AxisSetting.Pos) = refl
name_short (Setting.OfAxis AxisSetting.LimitMin) = refl
name_short (Setting.OfAxis AxisSetting.LimitMax) = refl
name_short (Setting.OfAxis AxisSetting.MaxSpeed) = refl
name_short (Setting.OfAxis AxisSetting.Accel) = refl
name_short (Setting.OfAxis AxisSetting.DriverCurrentMax) = refl
name_short (Setting.OfAxis AxisSetting.DriverCurrentRun) = refl
name_short (Setting.OfAxis AxisSetting.DriverCurrentHold) = refl
name_short (Setting.OfAxis AxisSetting.DriverDir) = refl
name_short (Setting.OfAxis AxisSetting.EncoderIndexCount) = refl
name_short (Setting.OfDevice DeviceSetting.CommAddress) = refl
name_short (Setting.OfDevice DeviceSetting.CommAlert) = refl
name_short (Setting.OfDevice DeviceSetting.CommChecksum) = refl
name_short (Setting.OfDevice DeviceSetting.SystemAccess) = refl
name_short (Setting.OfDevice DeviceSetting.DeviceId) = refl
name_short (Setting.OfDevice DeviceSetting.SystemAxisCount) = refl

module _ (f : Form) (n : Number32 f.first.0) (p : Number32 f.second.0) where
  place_short : (x : Place) → length (filled f x) ≤ place_size x
  place_short (word v) = omega arith
  place_short SETTING = leb-true (length (name_of f.setting)) 19 (name_short f.setting)
  place_short WRITABLE = leb-true (length (name_of f.setting)) 19 (name_short f.setting)
  place_short N = decimal_length f.first.0 n
  place_short P = decimal_length f.second.0 p

  spaced_short : (v : List ℕ) (xs : List Place) → length (spaced (v ∷ map (filled f) xs)) ≤ length v + total xs
  unfolding spaced total
  spaced_short v [] = omega arith
  spaced_short v (x ∷ xs) =
      let w = filled f x in
      rw (length-append v (32 ∷ spaced (w ∷ map (filled f) xs))) (omega (arith, place_short x, spaced_short w xs))

-- ---- the line
module _ (a : Asked) (h : InRange a) (no-echo : carries_words a.command ≡ false) where
  fits : length (line_for a) ≤ 80
  unfolding line_for content_for spaced text two_digits
  fits =
      let c = a.command in
      let f = form_of c in
      let row = row_at f.row in
      let xs = row.front ++ row.behind in
      let k = digits a.axis in
      let short = spaced_short f h.command.first h.command.second k xs in
      let most = leb-true (total xs) 40 (row_short f.row) in
      let axis = digits_length 0 a.axis (omega (arith, h.axis)) in
      rw (no-echo, append-nil (map (filled f) xs), length-append (spaced (k ∷ map (filled f) xs)) (text "\n"))
      (omega (arith, short, most, axis))

  -- Every command but an echo that is in range is read from its line.
  pub every_plain_command : read_asked (line_for a) ≡ some a
  every_plain_command = every_command a h fits
