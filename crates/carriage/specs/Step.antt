-- What a line makes of a record and a buffer: number, length, next record and every byte. Document 01's table of refusals
-- in its order: 20, 21, 2, 1, 3, 4, 20 (of order 5), 5 (silence), 10, 11 (the reader), 12, 13, 14, 15, 16, 11 (the device).
use Rattle.laws.specs.declared.Refusal.{Refusal}
use Rattle.std.specs.Prelude.{◌≡◌, Bool, true, false, cond, not, ◌&&◌, ◌||◌, List, [], ◌∷◌, ◌++◌, ℕ, suc, ◌*◌, eqb, ltb, length, take, drop, Ok, Err, is_ok}
use Rattle.laws.specs.declared.Refusal.TheVariants.{NoRoom, BadState, NotMine}
use Rattle.laws.specs.Refusals.{◌when◌, first_of, NOWHERE, Verdict, ACCEPTED, met}
use Rattle.units.specs.Units.{place}
use Rattle.command.specs.declared.Command.{Command}
use Rattle.command.specs.Commands.{informs}
use Rattle.phrase.specs.Reading.{WordsRead}
use Rattle.line.specs.Reading.{LineRead, read_line, place_read, carried_by}
use Rattle.device.specs.declared.Device.{Device}
use Rattle.device.specs.Good.{good}
use Rattle.rules.specs.Refusals.{refusal}
use Rattle.rules.specs.Effects.{next}
use Rattle.reply.specs.Data.{refusal_name}
use Rattle.reply.specs.Help.{help_texts, info_lines}
use Rattle.reply.specs.Reply.{longest_reply, reply, joined}
use Rattle.view.specs.View.{head_of}
use Rattle.carriage.specs.declared.Answer.{Answer}
use Rattle.view.specs.Data.{data_of}

-- the answer, and the buffer as it is left
pub record Stepped : Type 0 where
  pub answer : Answer
  pub buffer : List ℕ

-- "1 to 5, 20, 21 are silent: length 0, nothing written"
unfoldable pub silent : Verdict → Device → List ℕ → Stepped
silent v d b = record { answer = record { verdict = v; length = 0; next = d }; buffer = b }

-- "Buffer bytes after what is written keep their values."
unfoldable pub written : Verdict → Device → List ℕ → List ℕ → Stepped
written v d t b = record { answer = record { verdict = v; length = length t; next = d }; buffer = t ++ drop (length t) b }

-- "`:CC` ... if comm.checksum is 1"
unfoldable pub wants_sum : Device → Bool
wants_sum d = eqb (place d.comm.checksum.0) 1

unfoldable pub reply_of : Device → ℕ → Bool → List ℕ → List ℕ
reply_of d k ok words = reply (head_of d k ok) (wants_sum d) words

-- "10 to 16 write the rejecting reply, its data the name, and change no record"
unfoldable pub rejected : Refusal → Device → ℕ → List ℕ → Stepped
rejected n d k b = written (Err n) d (reply_of d k false (refusal_name n)) b

-- 02, order 5: "`help commands` ... answers 0 and one info line each"
unfoldable pub infos_of : Device → Command → List (List ℕ)
infos_of d c = cond (informs c) (info_lines (place d.comm.address.0) (wants_sum d)) []

-- "A reply describes the record after the command." Info lines stand behind it
unfoldable pub accepted : Device → ℕ → List (List ℕ) → Command → List ℕ → Stepped
accepted d k es c b =
    written ACCEPTED (next d k c) (reply_of (next d k c) k true (data_of d k es c) ++ joined (infos_of (next d k c) c)) b

-- a command for axis k, with the words es of an echo, that meets this verdict
abbrev pub judged : Verdict → Device → ℕ → List (List ℕ) → Command → List ℕ → Stepped
judged (Ok u) d k es c b = accepted d k es c b
judged (Err n) d k es c b = rejected n d k b

unfoldable pub obeyed : Device → ℕ → List (List ℕ) → Command → List ℕ → Stepped
obeyed d k es c b = judged (refusal d k c) d k es c b

-- "neither 0 nor own address"
unfoldable pub concerns : Device → ℕ → Bool
concerns d n = eqb n 0 || eqb n (place d.comm.address.0)

-- the silent refusals of what was read: the reader's 2, 1, 3 or 4; and 5
abbrev pub unread : LineRead → Verdict
unread (Err e) = Err e.refusal
unread (Ok x) = ACCEPTED

abbrev pub not_mine : Device → LineRead → Bool
not_mine d (Err e) = false
not_mine d (Ok x) = not (concerns d x.address)

-- 02, order 5: "96 bytes for the reply and for each info line", whatever becomes of the command; to what is none a reply is the answer
abbrev pub command_room : Command → ℕ
command_room c = longest_reply * cond (informs c) (suc (length help_texts)) 1

abbrev pub words_room : WordsRead → ℕ
words_room (Err e) = longest_reply
words_room (Ok x) = command_room x.command

abbrev pub room_for : LineRead → ℕ
room_for (Err e) = longest_reply
room_for (Ok x) = words_room x.words

-- "Checks run in the table's order and the first that applies wins." And order 5: "NOROOM for `help commands`, once the line has read and
-- before 5"
unfoldable pub silence : Device → LineRead → List ℕ → Verdict
silence d r b =
    first_of
    (NoRoom when ltb (length b) longest_reply
    ∷ BadState when not (good d)
    ∷ met (unread r)
    ∷ NoRoom when ltb (length b) (room_for r)
    ∷ NotMine when not_mine d r
    ∷ [])

-- the reader's 10 or 11; or its command, and the words that it carries, which stand in the line l from a place up to another
abbrev pub addressed : Device → List ℕ → ℕ → ℕ → WordsRead → List ℕ → Stepped
addressed d l k end (Err e) b = rejected e.refusal d k b
addressed d l k end (Ok x) b = obeyed d k (carried_by x.command (drop x.from (take end l))) x.command b

-- what is not met with silence
abbrev pub answered : Device → List ℕ → LineRead → List ℕ → Stepped
answered d l (Err e) b = silent (Err e.refusal) d b
answered d l (Ok x) b = addressed d l x.axis x.end x.words b

-- what was read, whatever line it was read from
unfoldable pub respond : Device → List ℕ → LineRead → List ℕ → Stepped
respond d l r b = cond (is_ok (silence d r b)) (answered d l r b) (silent (silence d r b) d b)

-- the device, a line's bytes and the lent buffer: the line is read, ruled and answered
unfoldable pub step : Device → List ℕ → List ℕ → Stepped
step d l b = respond d l (read_line l) b

-- order 3: the place in the line that goes with its refusal: the reader's, unless the record is not good or the line is another's
unfoldable pub refused_at : Device → List ℕ → ℕ
refused_at d l = cond (good d && not (not_mine d (read_line l))) (place_read (read_line l)) NOWHERE

-- a result and a buffer that are just what a step makes
pub record Gives (s : Stepped) (r : Answer) (c : List ℕ) : Type 0 where
  pub result : r ≡ s.answer
  pub left : c ≡ s.buffer
