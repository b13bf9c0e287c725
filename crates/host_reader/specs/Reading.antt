-- How the host reads a message: its front, what its kind has behind that, each field at its place, and the end behind all.
-- "The host reads exactly this form ... Otherwise NOTREPLY."
use Rattle.std.specs.Prelude.{Bool, cond, not, ◌&&◌, ◌||◌, List, [], ◌∷◌, ℕ, zero, suc, ◌+◌, ◌*◌, ◌-◌, eqb, ltb, leb, length, get_or, take, drop, Option, None, Some, is_some, option_and_then, Err}
use Rattle.std.specs.Bool.{then_some}
use Rattle.laws.specs.Lists.{span}
use Rattle.laws.specs.declared.Refusal.TheVariants.{NotReply}
use Rattle.laws.specs.Refusals.{Verdict, ACCEPTED, ◌when◌, first_of}
use Rattle.laws.specs.Text.{colon, text, same}
use Rattle.numbers.specs.Reading.{value_of, read_pair, says_sum}
use Rattle.words.specs.Find.{index}
use Rattle.flags.specs.Flags.{warning_names}
use Rattle.reply.specs.Reply.{longest_reply}
use Rattle.host_reader.specs.declared.Text.{Text}
use Rattle.host_reader.specs.declared.State.{State}
use Rattle.host_reader.specs.declared.Said.{Said}
use Rattle.host_reader.specs.declared.Said.TheVariants.{Reply, Alert, Info}
use Rattle.host_reader.specs.declared.Message.{Message}
use Rattle.host_reader.specs.declared.Kind.{Kind}
use Rattle.host_reader.specs.declared.Kind.TheVariants as Kinds
use Rattle.host_reader.specs.declared.Front.{Front}

-- what is found of a part, and what is found behind it: nothing where the part is wrong
infixl 10 ◌>>=◌
abbrev pub ◌>>=◌ : {A B : Type 0} → Option A → (A → Option B) → Option B
o >>= f = option_and_then f o

-- n bytes from place i on, and whether the text w stands there
abbrev pub field : List ℕ → ℕ → ℕ → List ℕ
field l i n = take n (drop i l)

abbrev pub stands : List ℕ → ℕ → List ℕ → Bool
stands l i w = same (field l i (length w)) w

-- a digit where it is a decimal one
abbrev pub decimal : ℕ → Option ℕ
decimal d = then_some (ltb d 10) d

-- the number that two decimal digits say
abbrev pub two_of : ℕ → ℕ → Option ℕ
two_of tens ones = then_some (ltb tens 10 && ltb ones 10) (tens * 10 + ones)

-- the words that may stand in a field, each known by its place
unfoldable pub marks : List (List ℕ)
marks = text "@" ∷ text "!" ∷ text "#" ∷ []

unfoldable pub verdicts : List (List ℕ)
verdicts = text "RJ" ∷ text "OK" ∷ []

unfoldable pub statuses : List (List ℕ)
statuses = text "IDLE" ∷ text "BUSY" ∷ []

unfoldable pub warnings : List (List ℕ)
warnings = text "--" ∷ warning_names

-- of two words: whether it is the second; none where it is neither
abbrev pub second : ℕ → Option Bool
second k = then_some (ltb k 2) (eqb k 1)

-- the kind by the place of its mark; a mark that is none has no kind
unfoldable pub kind_at : ℕ → Option Kind
kind_at zero = Some Kinds.Reply
kind_at (suc zero) = Some Kinds.Alert
kind_at (suc (suc zero)) = Some Kinds.Info
kind_at (suc (suc (suc k))) = None

-- the same by the mark itself, which is one byte
abbrev pub kind_of : ℕ → Option Kind
kind_of c = kind_at (index (c ∷ []) marks)

-- ---- the front: a mark, "address in two digits", "address 01 to 99, axis 0 to 9", a space between
abbrev pub mark_in : List ℕ → ℕ
mark_in l = index (field l 0 1) marks

abbrev pub address_in : List ℕ → Option ℕ
address_in l = two_of (value_of (get_or l 1 0)) (value_of (get_or l 2 0))

abbrev pub axis_in : List ℕ → ℕ
axis_in l = value_of (get_or l 4 0)

abbrev pub front_in : List ℕ → Option Front
front_in l = do
  kind ← kind_at (mark_in l)
  address ← address_in l
  then_some (leb 1 address && stands l 3 (text " ") && ltb (axis_in l) 10) (record { kind = kind; address = address; axis = axis_in l })

-- ---- "IDLE or BUSY, highest warning or `--`", from the front of s on
abbrev pub status_in : List ℕ → ℕ
status_in s = index (field s 0 4) statuses

abbrev pub warning_in : List ℕ → ℕ
warning_in s = index (field s 5 2) warnings

abbrev pub state_in : List ℕ → Option State
state_in s = do
  busy ← second (status_in s)
  then_some (stands s 4 (text " ") && ltb (warning_in s) 9) (record { busy = busy; warning = warning_in s })

-- ---- texts: "bytes 32 to 126, no colon"
abbrev pub data_byte : ℕ → Bool
data_byte c = leb 32 c && leb c 126 && not (eqb c colon)

-- where what a kind has of its own begins; and where it ends, for behind it stands the colon of a checksum, or CR
abbrev pub front_end : ℕ
front_end = 5

abbrev pub content_end : List ℕ → ℕ
content_end l = front_end + span data_byte (drop front_end l)

-- "one or more bytes", "first byte no space": from place i to the end
abbrev pub text_at : List ℕ → ℕ → ℕ → Option Text
text_at l i end = then_some (ltb i end && not (stands l i (text " "))) (record { place = i; length = end - i })

-- ---- the three kinds, behind the front
abbrev pub data_place : ℕ
data_place = 17

abbrev pub text_place : ℕ
text_place = 6

abbrev pub alert_end : ℕ
alert_end = 13

abbrev pub verdict_in : List ℕ → ℕ
verdict_in l = index (field l 6 2) verdicts

-- "OK or RJ, IDLE or BUSY, highest warning or `--`, data; single spaces between"
abbrev pub reply_in : List ℕ → ℕ → Option Said
reply_in l end = do
  ok ← second (verdict_in l)
  state ← state_in (drop 9 l)
  t ← text_at l data_place end
  then_some (stands l 5 (text " ") && stands l 8 (text " ") && stands l 16 (text " ")) (Reply ok state t)

-- "status, warning flag"
abbrev pub alert_in : List ℕ → ℕ → Option Said
alert_in l end = do
  state ← state_in (drop 6 l)
  then_some (stands l 5 (text " ") && eqb end alert_end) (Alert state)

-- "Text follows the rule for reply data, or is empty with no space before it."
abbrev pub info_in : List ℕ → ℕ → Option Said
info_in l end =
    cond (eqb end front_end)
    (Some (Info (record { place = front_end; length = 0 })))
    (do
      t ← text_at l text_place end
      then_some (stands l 5 (text " ")) (Info t))

abbrev pub said_in : List ℕ → Kind → ℕ → Option Said
said_in l Kinds.Reply end = reply_in l end
said_in l Kinds.Alert end = alert_in l end
said_in l Kinds.Info end = info_in l end

-- ---- the end: "checksum optional but right if present (either case)", and CR LF
abbrev pub right_end : List ℕ → List ℕ → Bool
right_end s e =
    same e (text "\r\n") || (stands e 0 (text ":") && same (drop 3 e) (text "\r\n") && says_sum s (read_pair (get_or e 1 0) (get_or e 2 0)))

-- what is summed is all between the mark and the end
abbrev pub ended : List ℕ → ℕ → Bool
ended l end = right_end (drop 1 (take end l)) (drop end l)

-- ---- the whole
abbrev pub message_in : List ℕ → Option Message
message_in l = do
  front ← front_in l
  said ← said_in l front.kind (content_end l)
  then_some (ended l (content_end l)) (record { address = front.address; axis = front.axis; said = said })

-- "exactly this form", and "at most 96 bytes in all"
abbrev pub is_message : List ℕ → Bool
is_message l = leb (length l) longest_reply && is_some (message_in l)

abbrev pub read_message : List ℕ → Option Message
read_message l = cond (is_message l) (message_in l) None

-- what document 01 says for each case of the answer
abbrev pub number_of : Option Message → Verdict
number_of (Some m) = ACCEPTED
number_of None = Err NotReply

-- "Otherwise NOTREPLY."
abbrev pub message_refusal : List ℕ → Verdict
message_refusal l = first_of (NotReply when not (is_message l) ∷ [])
