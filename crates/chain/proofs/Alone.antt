-- One record of a chain: in a buffer with room it writes the same text whatever stands in the buffer, and it is silent exactly where the
-- line does not concern it. Assumes nothing.
use Rattle.std.specs.Prelude.{Ok, Err, is_ok}
use Rattle.laws.specs.declared.Refusal.TheVariants.{NotMine}
use Rattle.laws.specs.declared.Refusal.{Refusal}
use mathlib.Core.Path.{◌≡◌, refl, sym, ap, ◌∙◌}
use mathlib.Core.Bool.{Bool, true, false}
use mathlib.Core.List.{List, [], ◌++◌}
use Prim.Native.Nat.{ℕ, ◌≤◌}
use native.Mathlib.Omega.{arith}
use lib.ListN.{length, take, drop, length-append}
use lib.Seq.{take_at}
use borrow.Author.Tests.{le-ltb}
use Rattle.laws.specs.Refusals.{first_of, Verdict, ACCEPTED}
use Rattle.command.specs.declared.Command.{Command}
use Rattle.phrase.specs.Reading.{WordsRead}
use Rattle.line.specs.Reading.{LineRead, read_line, carried_by, sent}
use Rattle.device.specs.declared.Device.{Device}
use Rattle.device.specs.Good.{good}
use Rattle.rules.specs.Refusals.{refusal}
use Rattle.rules.specs.Effects.{next}
use Rattle.reply.specs.Data.{refusal_name}
use Rattle.reply.specs.Help.{longest_answer}
use Rattle.reply.specs.Reply.{joined}
use Rattle.view.specs.Data.{data_of}
use Rattle.carriage.specs.Step.{Stepped, silent, written, reply_of, rejected, infos_of, accepted, obeyed, addressed, answered, room_for, silence, respond, step, judged}
use Rattle.carriage.proofs.AnswerRoom.{least_room, most_room}
use Rattle.carriage.proofs.Room.{answer_within}
use Rattle.carriage.proofs.SilentNumbers.{reply_some}
use Rattle.laws.proofs.Bools.{clash}
use Rattle.carriage.proofs.Steps.{respond_silent, respond_mine, respond_other}
use Rattle.chain.specs.Chain.{blank, next_of, text_of}
use Rattle.chain.specs.Walk.{heeds, told}

-- an answer that is a text at the front of the buffer, whatever buffer that is
record Writes (f : List ℕ → Stepped) : Type 0 where
  verdict : Verdict
  next : Device
  text : List ℕ
  is : (b : List ℕ) → f b ≡ written verdict next text b

quietly : (v : Verdict) (d : Device) → Writes (silent v d)
unfolding silent written
quietly v d = record { verdict = v; next = d; text = []; is = λ b. refl }

rejecting : (n : Refusal) (d : Device) (k : ℕ) → Writes (rejected n d k)
unfolding rejected
rejecting n d k = record { verdict = Err n; next = d; text = reply_of d k false (refusal_name n); is = λ b. refl }

obeying : (d : Device) (k : ℕ) (es : List (List ℕ)) (c : Command) → Writes (obeyed d k es c)
unfolding obeyed accepted
obeying d k es c = go (refusal d k c)
  where
    go : (v : Verdict) → Writes (judged v d k es c)
    go (Ok u) =
        let e = next d k c in
        record { verdict = ACCEPTED; next = e; text = reply_of e k true (data_of d k es c) ++ joined (infos_of e c); is = λ b. refl }
    go (Err n) = rejecting n d k

answering : (d : Device) (l : List ℕ) (r : LineRead) → Writes (answered d l r)
answering d l (Err e) = quietly (Err e.refusal) d
answering d l (Ok x) = go x.words
  where
    go : (w : WordsRead) → Writes (addressed d l x.axis x.end w)
    go (Err e) = rejecting e.refusal d x.axis
    go (Ok y) = obeying d x.axis (carried_by y.command (drop y.from (take x.end l))) y.command

-- ---- the buffer has room for the answer to what was read

blank_room : length blank ≡ longest_answer
unfolding blank
blank_room = refl

roomy : (r : LineRead) → room_for r ≤ length blank
roomy r = omega (arith, blank_room, most_room r)

same_silence : (d : Device) (r : LineRead) (b : List ℕ) → room_for r ≤ length b → silence d r b ≡ silence d r blank
unfolding silence first_of
same_silence d r b h =
    let least = least_room r in
    rw (le-ltb (length b) 96 (omega arith), le-ltb (length b) (room_for r) h, blank_room, le-ltb longest_answer (room_for r) (most_room r))

module _ (d : Device) (l : List ℕ) where
  -- what the record says to the line
  record Says : Type 0 where
    verdict : Verdict
    next : Device
    text : List ℕ
    is : (b : List ℕ) → room_for (read_line l) ≤ length b → step d l b ≡ written verdict next text b

  saying : Says
  unfolding step respond
  saying = go (is_ok (silence d (read_line l) blank)) refl
    where
      go : (t : Bool) → is_ok (silence d (read_line l) blank) ≡ t → Says
      go true e =
          let a = answering d l (read_line l) in
          record { verdict = a.verdict; next = a.next; text = a.text; is = λ b h. rw (same_silence d (read_line l) b h, e) (a.is b) }
      go false e =
          let a = quietly (silence d (read_line l) blank) d in
          record { verdict = a.verdict; next = a.next; text = a.text; is = λ b h. rw (same_silence d (read_line l) b h, e) (a.is b) }

  -- what it comes to, alone
  abbrev pub verdict_alone : Verdict
  verdict_alone = (step d l blank).answer.verdict

  text_is : text_of l d ≡ saying.text
  unfolding text_of written
  text_is =
      rw (saying.is blank (roomy (read_line l)))
      (take_at saying.text (drop (length saying.text) blank) (length saying.text) refl)

  next_is : next_of l d ≡ saying.next
  unfolding next_of written
  next_is = ap (λ (x : Stepped). x.answer.next) (saying.is blank (roomy (read_line l)))

  verdict_is : verdict_alone ≡ saying.verdict
  unfolding written
  verdict_is = ap (λ (x : Stepped). x.answer.verdict) (saying.is blank (roomy (read_line l)))

  pub alone : (b : List ℕ) → room_for (read_line l) ≤ length b → step d l b ≡ written verdict_alone (next_of l d) (text_of l d) b
  alone b h = saying.is b h ∙ rw (text_is, next_is, verdict_is)

  pub text_long : length (text_of l d) ≡ (step d l blank).answer.length
  unfolding written
  text_long = sym (ap (λ (x : Stepped). x.answer.length) (alone blank (roomy (read_line l))))

  pub text_short : length (text_of l d) ≤ room_for (read_line l)
  text_short = omega (arith, text_long, answer_within d l blank)

-- words that are answered have a reply
words_some : (d : Device) (l : List ℕ) (k end : ℕ) (w : WordsRead) → (addressed d l k end w blank).answer.length ≡ 0 → ⊥
unfolding rejected accepted written obeyed
words_some d l k end (Err u) e = reply_some d k false (refusal_name u.refusal) e
words_some d l k end (Ok x) e = go (refusal d k x.command) e
  where
    es : List (List ℕ)
    es = carried_by x.command (drop x.from (take end l))

    c : Command
    c = x.command

    go : (v : Verdict) → (judged v d k es c blank).answer.length ≡ 0 → ⊥
    go (Ok u) q =
        let t = reply_of (next d k c) k true (data_of d k es c) in
        reply_some (next d k c) k true (data_of d k es c) (omega (arith, q, length-append t (joined (infos_of (next d k c) c))))
    go (Err n) q = reply_some d k false (refusal_name n) q

-- ---- a good record
module _ (d : Device) (l : List ℕ) (g : good d ≡ true) where
  -- that the line does not concern: silence
  quiet : (r : LineRead) → heeds d r ≡ false → (v : Verdict) × (respond d l r blank ≡ silent v d blank)
  quiet (Err e) h = (Err e.refusal, sym (respond_silent d l blank (omega (arith, blank_room)) g e))
  quiet (Ok x) h =
      (Err NotMine, sym (respond_other d l blank (omega (arith, blank_room)) g x.address x.axis x.end x.words (roomy (Ok (sent x.address x.axis x.end x.words))) h))

  quiet_told : (r : LineRead) (h : heeds d r ≡ false) → (quiet r h).0 ≡ (told r 0).verdict
  unfolding quiet
  quiet_told (Err e) h = refl
  quiet_told (Ok x) h = refl

  module _ (h : heeds d (read_line l) ≡ false) where
    pub quiet_next : next_of l d ≡ d
    unfolding next_of step silent
    quiet_next = ap (λ (x : Stepped). x.answer.next) (quiet (read_line l) h).1

    pub quiet_verdict : verdict_alone d l ≡ (told (read_line l) 0).verdict
    unfolding step silent
    quiet_verdict = ap (λ (x : Stepped). x.answer.verdict) (quiet (read_line l) h).1 ∙ quiet_told (read_line l) h

    pub quiet_text : text_of l d ≡ []
    unfolding text_of step silent
    quiet_text = rw (quiet (read_line l) h).1

  -- that it concerns: an answer
  pub aloud_text : (r : LineRead) → read_line l ≡ r → heeds d r ≡ true → length (text_of l d) ≡ 0 → ⊥
  unfolding step
  aloud_text (Err u) e h z = clash h refl
  aloud_text (Ok u) e h z =
      words_some d l u.axis u.end u.words
      (ap (λ (x : Stepped). x.answer.length)
      (respond_mine d l blank (omega (arith, blank_room)) g u.address u.axis u.end u.words (roomy (Ok (sent u.address u.axis u.end u.words))) h
      ∙ ap (λ (r : LineRead). respond d l r blank) (sym e))
      ∙ sym (text_long d l) ∙ z)
