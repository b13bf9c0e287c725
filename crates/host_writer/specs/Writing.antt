-- What the host's command writer writes, and what it refuses.
-- "two address digits, the axis digit, single spaces, decimal numbers, a checksum if asked (upper case) and LF, into 80 bytes or more"
use Rattle.laws.specs.declared.Refusal.{Refusal}
use Rattle.std.specs.Prelude.{Bool, not, ◌&&◌, ◌||◌, List, [], ◌∷◌, ◌++◌, ℕ, ltb, length, drop, Ok, Err, Result}
use Rattle.laws.specs.Text.{text, spaced}
use Rattle.laws.specs.Lists.{all}
use Rattle.laws.specs.declared.Refusal.TheVariants.{NoRoom, TooLong, BadData}
use Rattle.laws.specs.Refusals.{◌when◌, first_of, Verdict}
use Rattle.numbers.specs.Checksum.{sum_text}
use Rattle.numbers.specs.Decimal.{digits, two_digits}
use Rattle.numbers.specs.Spelling.{highest_address}
use Rattle.words.specs.Cutting.{cut}
use Rattle.line.specs.Spelling.{longest_line}
use Rattle.command.specs.declared.Command.{Command}
use Rattle.command.specs.Commands.{demands, carries_words, command_words}
use Rattle.host_reader.specs.Reading.{data_byte}

-- "an echo message (parted at its spaces into words)"
unfoldable pub line_words : ℕ → ℕ → Command → List ℕ → List (List ℕ)
line_words address axis c message = two_digits address ∷ digits axis ∷ command_words c (cut message)

-- what stands before the command's words
unfoldable pub front_text : ℕ → ℕ → List ℕ
front_text address axis = text "/" ++ spaced (two_digits address ∷ digits axis ∷ [])

-- the checksum of the content s, if asked, and LF
unfoldable pub line_end : Bool → List ℕ → List ℕ
line_end sum s = sum_text sum s ++ text "\n"

unfoldable pub line_text : ℕ → ℕ → Command → List ℕ → Bool → List ℕ
line_text address axis c message sum =
    let s = spaced (line_words address axis c message) in text "/" ++ s ++ line_end sum s

-- "a set of a read-only setting, or an echo message ... with a byte outside 32 to 126 or a colon".
-- No number is one "the spelling cannot hold", since each has 32 bits.
abbrev pub unfit : Command → List ℕ → Bool
unfit c message = (demands c).barred || (carries_words c && not (all data_byte message))

unfoldable pub unspellable : ℕ → ℕ → Command → List ℕ → Bool
unspellable address axis c message = ltb highest_address address || ltb 9 axis || unfit c message

-- "The command writer checks 20, 11, 2."
unfoldable pub writer_refusal : ℕ → ℕ → Command → List ℕ → Bool → List ℕ → Verdict
writer_refusal address axis c message sum b =
    first_of
    (NoRoom when ltb (length b) longest_line
    ∷ BadData when unspellable address axis c message
    ∷ TooLong when ltb longest_line (length (line_text address axis c message sum))
    ∷ [])

-- the line's length or a refusal, and what is in the buffer then
pub record Outcome : Type 0 where
  pub answer : Result ℕ Refusal
  pub buffer : List ℕ

abbrev pub outcome : Result ℕ Refusal → List ℕ → Outcome
outcome w b = record { answer = w; buffer = b }

-- the line t, where nothing refuses it: "Buffer bytes after what is written keep their values."
-- "Refusals of the writer ... give their number alone and write or change nothing."
abbrev pub settled : Verdict → List ℕ → List ℕ → Outcome
settled (Ok u) t b = outcome (Ok (length t)) (t ++ drop (length t) b)
settled (Err n) t b = outcome (Err n) b

unfoldable pub write_line : ℕ → ℕ → Command → List ℕ → Bool → List ℕ → Outcome
write_line address axis c message sum b =
    settled (writer_refusal address axis c message sum b) (line_text address axis c message sum) b
