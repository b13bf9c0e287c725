-- What a line makes of a chain of records and of a buffer: number, length, next records and every byte. Order 2 of document 02: "the
-- caller lends a run of device records, one line and a reply buffer, and each record that the line concerns is changed where it stands"
use Rattle.std.specs.Prelude.{◌≡◌, Bool, cond, not, List, [], ◌∷◌, ◌++◌, map, ℕ, ◌*◌, ltb, eqb, length, take, drop, get_or, replicate, is_ok}
use Rattle.laws.specs.Lists.{all}
use Rattle.laws.specs.declared.Refusal.TheVariants.{NoRoom, BadState, NotMine}
use Rattle.laws.specs.Refusals.{◌when◌, first_of, Verdict, met}
use Rattle.line.specs.Reading.{LineRead, read_line}
use Rattle.device.specs.declared.Device.{Device}
use Rattle.device.specs.Good.{good}
use Rattle.reply.specs.Help.{longest_answer}
use Rattle.reply.specs.Reply.{longest_reply, joined}
use Rattle.carriage.specs.Step.{step, unread, not_mine, room_for}
use Rattle.chain.specs.declared.Told.{Told}

-- ---- one device of the chain: it answers as it does where it hears the line alone

-- a buffer with room for every answer, a reply and its info lines, whatever stands in it
unfoldable pub blank : List ℕ
blank = replicate longest_answer 0

-- its next record; a record that the line does not concern stays as it is
unfoldable pub next_of : List ℕ → Device → Device
next_of l d = (step d l blank).answer.next

-- the text of its answer, the reply and behind it the info lines; none from a device that the line does not concern
unfoldable pub text_of : List ℕ → Device → List ℕ
text_of l d = take (step d l blank).answer.length (step d l blank).buffer

-- ---- the chain

-- what it comes to; and of each place of the chain, in its order, the next record and the answer
pub record Chained : Type 0 where
  pub verdict : Verdict
  pub devices : List Device
  pub answers : List (List ℕ)

-- "It gives the line's 1 to 4, 5 if it concerns none, else 0."
unfoldable pub verdict_of : List ℕ → List Device → Verdict
verdict_of l xs =
    first_of
    (met (unread (read_line l))
    ∷ NotMine when all (λ d. not_mine d (read_line l)) xs
    ∷ [])

-- "up to 16"
abbrev pub longest_chain : ℕ
longest_chain = 16

-- "NOROOM if the buffer has under 96 bytes for each record, or the chain is empty or longer than 16; BADSTATE if any record is not good;
-- both before the line is read": of how many records, how many bytes, and whether all records are good
unfoldable pub refusal : ℕ → ℕ → Bool → Verdict
refusal n room allGood =
    first_of
    (NoRoom when ltb room (longest_reply * n)
    ∷ NoRoom when eqb n 0
    ∷ NoRoom when ltb longest_chain n
    ∷ BadState when not allGood
    ∷ [])

-- order 5: "NOROOM for `help commands`, once the line has read and before 5, unless there are 96 bytes for the reply and for each info
-- line, times the records of the chain": of what was read, whomever it concerns
unfoldable pub refusal_of : ℕ → ℕ → Bool → LineRead → Verdict
refusal_of n room allGood r =
    first_of
    (met (refusal n room allGood)
    ∷ NoRoom when ltb room (room_for r * n)
    ∷ [])

abbrev pub refused : List Device → List ℕ → ℕ → Verdict
refused xs l room = refusal_of (length xs) room (all good xs) (read_line l)

-- each record answers; or the refusal alone
abbrev pub responds : List ℕ → List Device → Chained
responds l xs = record { verdict = verdict_of l xs; devices = map (next_of l) xs; answers = map (text_of l) xs }

abbrev pub refuses : Verdict → List Device → Chained
refuses v xs = record { verdict = v; devices = xs; answers = [] }

-- records, a line, and how many bytes the lent buffer has
unfoldable pub chain : List Device → List ℕ → ℕ → Chained
chain xs l room = cond (is_ok (refused xs l room)) (responds l xs) (refuses (refused xs l room) xs)

-- a result, records and a buffer that are just what a chain makes of a buffer b: "Replies follow in chain order", back to back, each with
-- its info lines; bytes behind the last answer keep their values
pub record Gives (s : Chained) (b : List ℕ) (r : Told) (ys : List Device) (c : List ℕ) : Type 0 where
  pub result : r ≡ record { verdict = s.verdict; length = length (joined s.answers) }
  pub devices : ys ≡ s.devices
  pub left : c ≡ joined s.answers ++ drop (length (joined s.answers)) b

-- ---- the answer of place i, counted from 0: its text, wherever it stands in the buffer; and where it begins there
abbrev pub answer_at : ℕ → Chained → List ℕ
answer_at i s = get_or s.answers i []

abbrev pub begins_at : ℕ → Chained → ℕ
begins_at i s = length (joined (take i s.answers))
