-- What was read of a line makes of a record and a buffer, where one line is read once for several records.
-- proofs/ReadOnce.antt shows that this is the step, for what is read of that line.
use Rattle.std.specs.Prelude.{Bool, cond, List, ℕ, ◌+◌, leb, ltb, Ok, Err}
use Rattle.laws.specs.declared.Refusal.TheVariants.{NoRoom, BadState}
use Rattle.laws.specs.Refusals.{NOWHERE, refusal_at}
use Rattle.line.specs.Reading.{LineRead, sent}
use Rattle.device.specs.declared.Device.{Device}
use Rattle.reply.specs.Reply.{longest_reply}
use Rattle.carriage.specs.Step.{Stepped, respond}
use Rattle.carriage.specs.Rulings.{roomy}
use Rattle.phrase.specs.Reading.{WordsRead}

-- as many bytes of words as every reply has room for: 96, less its head, its sum and its end. No line carries more
abbrev pub most_words : ℕ
most_words = 74

abbrev pub end_within : ℕ → ℕ → ℕ
end_within from end = cond (leb end (from + most_words)) end (from + most_words)

-- what is read is handed over with a line, whatever line that is: of its words no more are looked at than fit
abbrev pub end_fitting : WordsRead → ℕ → ℕ
end_fitting (Err e) end = end
end_fitting (Ok x) end = end_within x.from end

abbrev pub fitting : LineRead → LineRead
fitting (Err e) = Err e
fitting (Ok x) = Ok (sent x.address x.axis (end_fitting x.words x.end) x.words)

unfoldable pub respond_to : Device → List ℕ → LineRead → List ℕ → Stepped
respond_to d l r b = respond d l (fitting r) b

-- what a device hears of it: 20 or 21 where there is no room for a reply, or its record is not good
abbrev pub overheard : Bool → LineRead → ℕ → LineRead
overheard good r room = cond (ltb room longest_reply) (Err (refusal_at NoRoom NOWHERE)) (cond good (roomy room r) (Err (refusal_at BadState NOWHERE)))
