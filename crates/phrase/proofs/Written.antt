-- Every command that can be spelled is spelled by its words, and all of these are words.
-- Assumes nothing.
use mathlib.Core.Path.{◌≡◌, refl, sym, subst}
use mathlib.Core.Bool.{Bool, true, false, cond, not, ◌&&◌}
use mathlib.Core.List.{List, [], ◌∷◌, ◌++◌, map}
use Prim.Native.Nat.{ℕ, zero, suc, ◌≤◌}
use native.Mathlib.Omega.{arith}
use lib.Dec.{eqb, leb}
use lib.IntN.{ℤ}
use lib.ListN.{get_or}
use borrow.Author.Tests.{leb-true, eqb-false, not-true}
use Rattle.laws.specs.Lists.{fold, all}
use Rattle.laws.specs.Text.{text}
use Rattle.laws.proofs.Bools.{and_left, and_right}
use Rattle.laws.proofs.Each.{Each}
use Rattle.numbers.specs.Spelling.{Digit, figure, capital, small, Digits, UnsignedWord, decimal, hex, NumberWord, bare, signed_plus, signed_minus}
use Rattle.numbers.proofs.Decimal.{decimal_spelled}
use Rattle.words.specs.Spelling.{WordByte, Word}
use Rattle.command.specs.declared.AxisSetting.TheVariants as AxisSetting
use Rattle.command.specs.declared.DeviceSetting.TheVariants as DeviceSetting
use Rattle.command.specs.declared.Setting.{Setting}
use Rattle.command.specs.declared.Target.TheVariants.{Abs, Rel, Min, Max, Stored}
use Rattle.command.specs.declared.AxisCommand.TheVariants as Axis
use Rattle.command.specs.declared.DeviceCommand.TheVariants as Device
use Rattle.command.specs.declared.Command.{Command}
use Rattle.command.specs.declared.Command.TheVariants.{OfAxes, OfDevice}
use Rattle.command.specs.declared.forms.Form.{Form}
use Rattle.command.specs.Settings.{name_of}
use Rattle.command.specs.Forms.{form_of}
use Rattle.command.specs.Commands.{Place, word, SETTING, WRITABLE, N, P, Row as TableRow, none, table, row_at, demands, carries_words, filled, command_words}
use Rattle.phrase.specs.Spelling.{Row}
use Rattle.phrase.specs.Writing.{Number32, Spellable}

-- ---- the row of a command, of which es are the words where it carries any
pub row_filled : (c : Command) (es : List (List ℕ)) → Number32 (form_of c).first.0 → Number32 (form_of c).second.0
    → (demands c).barred ≡ false → Row (command_words c es) c (cond (carries_words c) es [])
row_filled (OfAxes Axis.Nothing) es n p w = Row.nothing
row_filled (OfAxes Axis.Home) es n p w = Row.home
row_filled (OfAxes Axis.Stop) es n p w = Row.stop
row_filled (OfAxes Axis.Estop) es n p w = Row.estop
row_filled (OfAxes (Axis.MoveTo (Abs x))) es n p w = Row.move_abs (decimal_spelled x.0 n)
row_filled (OfAxes (Axis.MoveTo (Rel x))) es n p w = Row.move_rel (decimal_spelled x.0 n)
row_filled (OfAxes (Axis.MoveTo Min)) es n p w = Row.move_min
row_filled (OfAxes (Axis.MoveTo Max)) es n p w = Row.move_max
row_filled (OfAxes (Axis.MoveTo (Stored x))) es n p w = Row.move_stored (decimal_spelled x.0 n)
row_filled (OfAxes (Axis.MoveVel x)) es n p w = Row.move_vel (decimal_spelled x.0 n)
row_filled (OfAxes (Axis.Get s)) es n p w = Row.get
row_filled (OfAxes (Axis.Set s x)) es n p w = Row.set w (decimal_spelled x.0 n)
row_filled (OfAxes (Axis.Storepos x)) es n p w = Row.storepos (decimal_spelled x.0 n)
row_filled (OfAxes (Axis.StoreposAt x y)) es n p w = Row.storepos_at (decimal_spelled x.0 n) (decimal_spelled y.0 p)
row_filled (OfAxes (Axis.StoreposCurrent x)) es n p w = Row.storepos_current (decimal_spelled x.0 n)
row_filled (OfAxes Axis.Warnings) es n p w = Row.warnings
row_filled (OfAxes Axis.WarningsClear) es n p w = Row.warnings_clear
row_filled (OfDevice (Device.Get s)) es n p w = Row.get_device
row_filled (OfDevice (Device.Set s x)) es n p w = Row.set_device w (decimal_spelled x.0 n)
row_filled (OfDevice Device.ParkingState) es n p w = Row.parking_state
row_filled (OfDevice Device.Park) es n p w = Row.park
row_filled (OfDevice Device.Unpark) es n p w = Row.unpark
row_filled (OfDevice Device.Echo) es n p w = Row.echo
row_filled (OfDevice Device.Help) es n p w = Row.help

only_carried : (b : Bool) (es : List (List ℕ)) → (b ≡ false → es ≡ []) → cond b es [] ≡ es
only_carried true es h = refl
only_carried false es h = sym (h refl)

pub row_written : (c : Command) (es : List (List ℕ)) → Spellable c es → Row (command_words c es) c es
row_written c es h =
    subst (Row (command_words c es) c) (only_carried (carries_words c) es h.only_echo)
    (row_filled c es h.first h.second h.writable)

-- ---- the words are words: those of the tables by a test that antt computes, numbers by their digits
abbrev pub is_byte : ℕ → Bool
is_byte c = leb 33 c && (leb c 126 && not (eqb c 58))

abbrev pub is_word : List ℕ → Bool
is_word [] = false
is_word (c ∷ []) = is_byte c
is_word (c ∷ d ∷ w) = is_byte c && is_word (d ∷ w)

byte_of : (c : ℕ) → is_byte c ≡ true → WordByte c
byte_of c e =
    let r = and_right (leb 33 c) (leb c 126 && not (eqb c 58)) e in
    record {
      low = leb-true 33 c (and_left (leb 33 c) (leb c 126 && not (eqb c 58)) e);
      high = leb-true c 126 (and_left (leb c 126) (not (eqb c 58)) r);
      no_colon = eqb-false c 58 (not-true (eqb c 58) (and_right (leb c 126) (not (eqb c 58)) r));
    }

pub word_of : (w : List ℕ) → is_word w ≡ true → Word w
word_of [] e = let z : ◌≡◌ {A = ℕ} 0 1 = cc in absurd (omega arith)
word_of (c ∷ []) e = Word.one (byte_of c e)
word_of (c ∷ d ∷ w) e = Word.more (byte_of c (and_left (is_byte c) (is_word (d ∷ w)) e))
    (word_of (d ∷ w) (and_right (is_byte c) (is_word (d ∷ w)) e))

digit_byte : {b c d : ℕ} → b ≤ 16 → Digit b c d → WordByte c
digit_byte h (figure l t e) = record { low = omega arith; high = omega arith; no_colon = λ z. omega arith }
digit_byte h (capital l t e) = record { low = omega arith; high = omega arith; no_colon = λ z. omega arith }
digit_byte h (small l t e) = record { low = omega arith; high = omega arith; no_colon = λ z. omega arith }

pub digit_word : {b c d : ℕ} → b ≤ 16 → Digit b c d → Word (c ∷ [])
digit_word h x = Word.one (digit_byte h x)

word_more : {w : List ℕ} {c : ℕ} → Word w → WordByte c → Word (w ++ c ∷ [])
word_more (Word.one h) k = Word.more h (Word.one k)
word_more (Word.more h w) k = Word.more h (word_more w k)

digits_word : {b : ℕ} {s : List ℕ} {n : ℕ} → b ≤ 16 → Digits b s n → Word s
digits_word h (Digits.one x) = digit_word h x
digits_word h (Digits.more r x) = word_more (digits_word h r) (digit_byte h x)

pub unsigned_word : {s : List ℕ} {n : ℕ} → UnsignedWord s n → Word s
unfolding text
unsigned_word (decimal r) = digits_word (omega arith) r
unsigned_word (hex r) = Word.more (byte_of 48 refl) (Word.more (byte_of 120 refl) (digits_word (omega arith) r))

pub number_word : {s : List ℕ} {n : ℤ} → NumberWord s n → Word s
unfolding text
number_word (bare u h) = unsigned_word u
number_word (signed_plus u h) = Word.more (byte_of 43 refl) (unsigned_word u)
number_word (signed_minus u h) = Word.more (byte_of 45 refl) (unsigned_word u)

name_tested : (s : Setting) → is_word (name_of s) ≡ true
unfolding name_of text
name_tested (Setting.OfAxis AxisSetting.Pos) = refl
name_tested (Setting.OfAxis AxisSetting.LimitMin) = refl
name_tested (Setting.OfAxis AxisSetting.LimitMax) = refl
name_tested (Setting.OfAxis AxisSetting.MaxSpeed) = refl
name_tested (Setting.OfAxis AxisSetting.Accel) = refl
name_tested (Setting.OfAxis AxisSetting.DriverCurrentMax) = refl
name_tested (Setting.OfAxis AxisSetting.DriverCurrentRun) = refl
name_tested (Setting.OfAxis AxisSetting.DriverCurrentHold) = refl
name_tested (Setting.OfAxis AxisSetting.DriverDir) = refl
name_tested (Setting.OfAxis AxisSetting.EncoderIndexCount) = refl
name_tested (Setting.OfDevice DeviceSetting.CommAddress) = refl
name_tested (Setting.OfDevice DeviceSetting.CommAlert) = refl
name_tested (Setting.OfDevice DeviceSetting.CommChecksum) = refl
name_tested (Setting.OfDevice DeviceSetting.SystemAccess) = refl
name_tested (Setting.OfDevice DeviceSetting.DeviceId) = refl
name_tested (Setting.OfDevice DeviceSetting.SystemAxisCount) = refl

pub name_word : (s : Setting) → Word (name_of s)
name_word s = word_of (name_of s) (name_tested s)

-- every word that the table has is one
abbrev place_tested : Place → Bool
place_tested (word v) = is_word v
place_tested SETTING = true
place_tested WRITABLE = true
place_tested N = true
place_tested P = true

abbrev row_tested_lem : TableRow → Bool
row_tested_lem r = all place_tested (r.front ++ r.behind)

table_tested : all row_tested_lem (none ∷ table) ≡ true
unfolding fold text
table_tested = refl

entry_tested : (rows : List TableRow) (k : ℕ) → row_tested_lem none ≡ true → all row_tested_lem rows ≡ true → row_tested_lem (get_or rows k none) ≡ true
unfolding fold
entry_tested [] k d e = d
entry_tested (r ∷ rows) zero d e = and_left (row_tested_lem r) (all row_tested_lem rows) e
entry_tested (r ∷ rows) (suc k) d e = entry_tested rows k d (and_right (row_tested_lem r) (all row_tested_lem rows) e)

row_tested : (k : ℕ) → row_tested_lem (row_at k) ≡ true
unfolding fold
row_tested k = entry_tested (none ∷ table) k refl table_tested

-- the words that a command has for the places of its row
module _ (f : Form) (n : Number32 f.first.0) (p : Number32 f.second.0) where
  place_word : (x : Place) → place_tested x ≡ true → Word (filled f x)
  place_word (word v) e = word_of v e
  place_word SETTING e = name_word f.setting
  place_word WRITABLE e = name_word f.setting
  place_word N e = number_word (decimal_spelled f.first.0 n)
  place_word P e = number_word (decimal_spelled f.second.0 p)

  places_words : (xs : List Place) {es : List (List ℕ)} → all place_tested xs ≡ true → Each Word es → Each Word (map (filled f) xs ++ es)
  unfolding fold
  places_words [] e r = r
  places_words (x ∷ xs) e r = Each.more (place_word x (and_left (place_tested x) (all place_tested xs) e))
      (places_words xs (and_right (place_tested x) (all place_tested xs) e) r)

carried_words : (b : Bool) {es : List (List ℕ)} → Each Word es → Each Word (cond b es [])
carried_words true r = r
carried_words false r = Each.none

pub words_filled : (c : Command) (es : List (List ℕ)) → Number32 (form_of c).first.0 → Number32 (form_of c).second.0 → Each Word es
    → Each Word (command_words c es)
words_filled c es n p r =
    let row = row_at (form_of c).row in
    places_words (form_of c) n p (row.front ++ row.behind) (row_tested (form_of c).row) (carried_words (carries_words c) r)

pub written_words : (c : Command) (es : List (List ℕ)) → Spellable c es → Each Word (command_words c es)
written_words c es h = words_filled c es h.first h.second h.words
