-- Commands and what the host writes for them, closed by computation: lines of each kind, and each refusal.
-- The buffer has 80 bytes, all of them `.`, but where a row says another length.
use Rattle.std.specs.Prelude.{Ok, Err, Result}
use Rattle.laws.specs.declared.Refusal.TheVariants.{NoRoom, TooLong, BadData}
use Rattle.laws.specs.declared.Refusal.{Refusal}
use mathlib.Core.Path.{◌≡◌, refl}
use mathlib.Core.Bool.{Bool, true, false}
use mathlib.Core.List.{List, [], ◌∷◌, ◌++◌, map}
use Prim.Native.Nat.{ℕ}
use lib.IntN.{pos, negsuc}
use lib.ListN.{replicate, take}
use Rattle.laws.specs.Lists.{fold}
use Rattle.laws.specs.Refusals.{first_of, Verdict, ACCEPTED}
use Rattle.laws.specs.Text.{text, spaced}
use Rattle.units.specs.Units.{position, number}
use Rattle.numbers.specs.Checksum.{total, checksum, sum_text}
use Rattle.numbers.specs.Decimal.{last_digit, digits_within, digits, decimal, two_digits, hex_digit, hex_pair}
use Rattle.words.specs.Cutting.{is_space, no_space, grow_at, words_from, cut}
use Rattle.command.specs.Settings.{name_of}
use Rattle.command.specs.declared.AxisSetting.TheVariants.{Pos}
use Rattle.command.specs.declared.DeviceSetting.TheVariants.{DeviceId}
use Rattle.command.specs.declared.Target.TheVariants.{Abs, Stored}
use Rattle.command.specs.declared.AxisCommand.TheVariants.{Nothing, Home, MoveTo, Set}
use Rattle.command.specs.declared.DeviceCommand.TheVariants.{Echo}
use Rattle.command.specs.declared.DeviceCommand.TheVariants as Device
use Rattle.command.specs.declared.Command.{Command}
use Rattle.command.specs.declared.Command.TheVariants.{OfAxes, OfDevice}
use Rattle.host_reader.specs.Reading.{data_byte}
use Rattle.host_writer.specs.Writing.{line_words, line_end, line_text, unspellable, writer_refusal, Outcome, write_line}

-- address, axis, command, message, checksum, and the buffer's length; the number, and the line or nothing
pub record Row : Type 0 where
  pub address : ℕ
  pub axis : ℕ
  pub command : Command
  pub message : List ℕ
  pub sum : Bool
  pub room : ℕ
  pub answer : Verdict
  pub line : List ℕ

abbrev row : ℕ → ℕ → Command → List ℕ → Bool → ℕ → Verdict → List ℕ → Row
row a k c m s r v l = record { address = a; axis = k; command = c; message = m; sum = s; room = r; answer = v; line = l }

abbrev dots : ℕ → List ℕ
dots n = replicate n 46

unfoldable pub rows : List Row
rows =
    row 1 0 (OfAxes Nothing) [] false 80 ACCEPTED (text "/01 0\n")
    ∷ row 1 0 (OfAxes Nothing) [] true 80 ACCEPTED (text "/01 0:4F\n")
    ∷ row 1 0 (OfAxes Home) [] true 80 ACCEPTED (text "/01 0 home:86\n")
    ∷ row 99 9 (OfAxes (MoveTo (Abs (position (negsuc 2147483647))))) [] false 80 ACCEPTED (text "/99 9 move abs -2147483648\n")
    -- the writer does not look at a row's own range
    ∷ row 1 0 (OfAxes (MoveTo (Stored (number (pos 99))))) [] false 80 ACCEPTED (text "/01 0 move stored 99\n")
    ∷ row 7 1 (OfAxes (Set Pos (number (pos 5)))) [] true 80 ACCEPTED (text "/07 1 set pos 5:15\n")
    -- an echo's message is parted at its spaces
    ∷ row 1 0 (OfDevice Echo) (text "  a   b ") false 80 ACCEPTED (text "/01 0 tools echo a b\n")
    ∷ row 1 0 (OfDevice Echo) (text "   ") false 80 ACCEPTED (text "/01 0 tools echo\n")
    ∷ row 1 0 (OfDevice Echo) (dots 62) false 80 ACCEPTED (text "/01 0 tools echo " ++ dots 62 ++ text "\n")
    -- refusals: 20, then 11, then 2
    ∷ row 100 0 (OfAxes Home) [] false 79 (Err NoRoom) []
    ∷ row 100 0 (OfAxes Home) [] false 80 (Err BadData) []
    ∷ row 255 0 (OfAxes Home) [] false 80 (Err BadData) []
    ∷ row 1 10 (OfAxes Home) [] false 80 (Err BadData) []
    ∷ row 1 0 (OfDevice (Device.Set DeviceId (number (pos 1)))) [] false 80 (Err BadData) []
    ∷ row 1 0 (OfDevice Echo) (text "a:b") false 80 (Err BadData) []
    ∷ row 1 0 (OfDevice Echo) (0 ∷ []) false 80 (Err BadData) []
    ∷ row 1 0 (OfDevice Echo) (255 ∷ []) false 80 (Err BadData) []
    ∷ row 1 0 (OfDevice Echo) (dots 63) false 80 (Err TooLong) []
    ∷ row 1 0 (OfDevice Echo) (dots 60) true 80 (Err TooLong) []
    ∷ row 1 0 (OfDevice Echo) (dots 5000) false 80 (Err TooLong) []
    ∷ []

abbrev written : Row → Outcome
written r = write_line r.address r.axis r.command r.message r.sum (dots r.room)

-- whether it is accepted, and the length that it tells
abbrev verdict : Result ℕ Refusal → Verdict
verdict (Ok n) = ACCEPTED
verdict (Err n) = Err n

abbrev length_told : Result ℕ Refusal → ℕ
length_told (Ok n) = n
length_told (Err n) = 0

pub verdict_cases : map (λ r. verdict (written r).answer) rows ≡ map (λ r. r.answer) rows
unfolding rows write_line writer_refusal first_of unspellable line_text line_end line_words spaced text fold name_of cut is_space no_space
    grow_at words_from total checksum sum_text last_digit digits_within digits decimal two_digits hex_digit hex_pair
verdict_cases = refl

pub line_cases : map (λ r. take (length_told (written r).answer) (written r).buffer) rows ≡ map (λ r. r.line) rows
unfolding rows write_line writer_refusal first_of unspellable line_text line_end line_words spaced text fold name_of cut is_space no_space
    grow_at words_from total checksum sum_text last_digit digits_within digits decimal two_digits hex_digit hex_pair
line_cases = refl
