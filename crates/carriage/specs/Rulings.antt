-- A line on its way to an answer, before anything is written: what the device hears of it, and what that comes to for the record.
-- The inner functions promise it; proofs/Rulings.antt shows that it is answered as Step.antt says.
use Rattle.laws.specs.declared.RefusedAt.{RefusedAt}
use Rattle.std.specs.Prelude.{Bool, false, cond, not, ◌&&◌, ◌||◌, List, ℕ, eqb, leb, ltb, Ok, Err, Result}
use Rattle.laws.specs.declared.Refusal.TheVariants.{NoRoom, BadState, NotMine}
use Rattle.laws.specs.Refusals.{NOWHERE, refusal_at, Verdict}
use Rattle.command.specs.declared.Command.{Command}
use Rattle.command.specs.Commands.{demands}
use Rattle.phrase.specs.Reading.{WordsRead}
use Rattle.line.specs.declared.Opening.{Opening}
use Rattle.line.specs.Reading.{LineRead}
use Rattle.line.specs.Opening.{open_line, read_on}
use Rattle.device.specs.declared.Device.{Device}
use Rattle.rules.specs.Refusals.{refusal}
use Rattle.reply.specs.Help.{longest_answer}
use Rattle.reply.specs.Reply.{longest_reply}
use Rattle.view.specs.View.{head_of}
use Rattle.carriage.specs.declared.Heading.{Heading}
use Rattle.carriage.specs.declared.Ruling.{Ruling}
use Rattle.carriage.specs.declared.Ruling.TheVariants.{Silent, Rejected, Accepted}
use Rattle.carriage.specs.Step.{concerns, wants_sum, room_for}

-- an address that is neither 0 nor the device's own
abbrev pub foreign : ℕ → Result Opening RefusedAt → Bool
foreign own (Err e) = false
foreign own (Ok (Opening.Bare end)) = false
foreign own (Ok (Opening.To a at end)) = not (eqb a 0 || eqb a own)

-- what is read, where there is room for the answer to it
abbrev pub roomy : ℕ → LineRead → LineRead
roomy room r = cond (ltb room (room_for r)) (Err (refusal_at NoRoom NOWHERE)) r

-- a line of which no more is read than its address, where that is foreign and there is room for every answer
abbrev pub heard_on : ℕ → List ℕ → ℕ → Result Opening RefusedAt → LineRead
heard_on own l room o = cond (leb longest_answer room && foreign own o) (Err (refusal_at NotMine NOWHERE)) (roomy room (read_on l o))

-- what a device of this address hears of the line l: nothing but 20 or 21 where there is no room for a reply, or its record is not good
abbrev pub heard : ℕ → Bool → List ℕ → ℕ → LineRead
heard own good l room =
    cond (ltb room longest_reply) (Err (refusal_at NoRoom NOWHERE))
    (cond good (heard_on own l room (open_line l)) (Err (refusal_at BadState NOWHERE)))

-- a command that meets this verdict, whose words stand between these places
abbrev pub ruled_so : Verdict → ℕ → ℕ → ℕ → Command → Ruling
ruled_so (Ok u) k from end c = Accepted k from end c (demands c)
ruled_so (Err n) k from end c = Rejected k n

-- the reader's 10 or 11, or the first refusal that its command meets, or none
abbrev pub rule_words : Device → ℕ → ℕ → WordsRead → Ruling
rule_words d k end (Err e) = Rejected k e.refusal
rule_words d k end (Ok x) = ruled_so (refusal d k x.command) k x.from end x.command

-- the reader's silence; or 5 where the line does not concern the device; or what its words come to
abbrev pub rule : Device → LineRead → Ruling
rule d (Err e) = Silent e.refusal
rule d (Ok x) = cond (concerns d x.address) (rule_words d x.axis x.end x.words) (Silent NotMine)

-- what a reply has of its record besides the data
abbrev pub heading_of : Device → ℕ → Bool → Heading
heading_of d k ok = record { head = head_of d k ok; sum = wants_sum d }
