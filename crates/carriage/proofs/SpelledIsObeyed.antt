-- From the bytes of a line to what they bring about: a line that the spelling rules write for a command is obeyed as that command,
-- or, where it is for another device, met with silence. Nothing is said of how a line is read. Assumes nothing.
use Rattle.laws.proofs.Refusals.{refused_is}
use Rattle.laws.specs.Refusals.{Verdict, ACCEPTED}
use Rattle.laws.specs.declared.Refusal.{Refusal}
use Rattle.std.specs.Prelude.{Ok, Err, is_ok}
use mathlib.Core.Path.{◌≡◌, refl, sym, ap, ◌∙◌}
use mathlib.Core.Bool.{Bool, true, false, cond}
use mathlib.Core.List.{List}
use mathlib.Core.Option.{some}
use Prim.Native.Nat.{ℕ, ◌≤◌}
use native.Mathlib.Omega.{arith}
use lib.ListN.{length, take, drop}
use Rattle.laws.specs.declared.Refusal.TheVariants.{NotMine}
use Rattle.command.specs.declared.Command.{Command}
use Rattle.line.specs.Reading.{LineRead, read_line, carried_by, asked_by, asked_in, read_asked, sent}
use Rattle.line.specs.Spelling.{Asked, Line}
use Rattle.line.proofs.Demand3.{no_asked, demand_3}
use Rattle.device.specs.declared.Device.{Device}
use Rattle.device.specs.Good.{good}
use Rattle.rules.specs.Refusals.{refusal}
use Rattle.rules.specs.Effects.{next, obey}
use Rattle.reply.specs.Reply.{longest_reply}
use Rattle.carriage.specs.Step.{Stepped, silent, written, rejected, accepted, obeyed, concerns, command_room, silence, respond, step, judged}
use Rattle.carriage.proofs.AnswerRoom.{command_least}
use Rattle.carriage.proofs.Steps.{respond_mine, respond_other}
use Rattle.phrase.specs.Reading.{worded, WordsRead}

-- what is read of a line l that is written for a: its command, with the words that it carries
record Heard (l : List ℕ) (r : LineRead) (a : Asked) : Type 0 where
  end : ℕ
  from : ℕ
  read : r ≡ Ok (sent a.address a.axis end (Ok (worded a.command from)))
  echo : carried_by a.command (drop from (take end l)) ≡ a.echo

heard_as : (l : List ℕ) (r : LineRead) (a : Asked) → asked_by l r ≡ some a → Heard l r a
heard_as l (Err u) a e = no_asked e
heard_as l (Ok y) a e = go y.words e
  where
    go : (w : WordsRead) → asked_in l y.address y.axis y.end w ≡ some a → Heard l (Ok (sent y.address y.axis y.end w)) a
    go (Err u) e = no_asked e
    go (Ok x) e =
        let q : record { address = y.address; axis = y.axis; command = x.command; echo = carried_by x.command (drop x.from (take y.end l)) } ≡ a
        = cc in
        rw (← q) (record { end = y.end; from = x.from; read = refl; echo = refl })

heard : {l : List ℕ} {a : Asked} → Line l a → Heard l (read_line l) a
unfolding read_asked
heard {l} {a} w = heard_as l (read_line l) a ((demand_3 l a).0 w)

-- the record is good, and the buffer has room for the answer
module _ {l : List ℕ} {a : Asked} (d : Device) (b : List ℕ) (w : Line l a) (g : good d ≡ true)
    (room : command_room a.command ≤ length b) where
  reply_room : longest_reply ≤ length b
  reply_room = omega (arith, command_least a.command)

  -- A line that is written for a command is obeyed as that command, where its address concerns the device.
  pub spelled_is_obeyed : concerns d a.address ≡ true → step d l b ≡ obeyed d a.axis a.echo a.command b
  unfolding step
  spelled_is_obeyed h =
      let m = heard w in
      rw m.read
      (sym (respond_mine d l b reply_room g a.address a.axis m.end (Ok (worded a.command m.from)) room h)
      ∙ ap (λ (es : List (List ℕ)). obeyed d a.axis es a.command b) m.echo)

  -- One for another device is met with silence, whatever its command: record and buffer stay.
  pub spelled_elsewhere : concerns d a.address ≡ false → step d l b ≡ silent (Err NotMine) d b
  unfolding step
  spelled_elsewhere h =
      let m = heard w in
      rw m.read (sym (respond_other d l b reply_room g a.address a.axis m.end (Ok (worded a.command m.from)) room h))

-- What holds of every silence that refuses, and of the command obeyed, holds of the answer to its line: over every record and buffer.
pub spelled_answer : (P : Stepped → Type 0) {l : List ℕ} {a : Asked} (d : Device) (b : List ℕ) → Line l a
    → ((v : Verdict) → (v ≡ ACCEPTED → ⊥) → P (silent v d b)) → P (obeyed d a.axis a.echo a.command b) → P (step d l b)
unfolding step respond
spelled_answer P {l} {a} d b w quiet done =
    let m = heard w in
    let r = Ok (sent a.address a.axis m.end (Ok (worded a.command m.from))) in
    rw m.read (go m.end m.from m.echo (silence d r b) _ refl)
  where
    go : (end from : ℕ) → carried_by a.command (drop from (take end l)) ≡ a.echo → (v : Verdict) (t : Bool) → is_ok v ≡ t
        → P (cond t (obeyed d a.axis (carried_by a.command (drop from (take end l))) a.command b) (silent v d b))
    go end from e v true q = rw e done
    go end from e v false q = quiet v (refused_is v q)

-- ---- a command obeyed: its verdict and the next record are those of the rules, and what is refused is rejected
module _ (d : Device) (k : ℕ) (es : List (List ℕ)) (c : Command) (b : List ℕ) where
  pub obeyed_verdict : (obeyed d k es c b).answer.verdict ≡ (obey d k c).verdict
  unfolding obeyed obey accepted rejected written
  obeyed_verdict = go (refusal d k c)
    where
      go : (v : Verdict) → (judged v d k es c b).answer.verdict ≡ v
      go (Ok u) = refl
      go (Err n) = refl

  pub obeyed_next : (obeyed d k es c b).answer.next ≡ (obey d k c).next
  unfolding obeyed obey accepted rejected written
  obeyed_next = go (refusal d k c)
    where
      go : (v : Verdict) → (judged v d k es c b).answer.next ≡ cond (is_ok v) (next d k c) d
      go (Ok u) = refl
      go (Err n) = refl

  pub obeyed_refused : {n : Refusal} → (obey d k c).verdict ≡ Err n → obeyed d k es c b ≡ rejected n d k b
  unfolding obeyed obey
  obeyed_refused h = rw h

-- A line that is accepted has brought about what the rules say of its command: over every record and buffer.
pub accepted_line : {l : List ℕ} {a : Asked} {c : Command} (d : Device) (b : List ℕ) → Line l a → a.command ≡ c
    → (step d l b).answer.verdict ≡ ACCEPTED
    → ((obey d a.axis c).verdict ≡ ACCEPTED) × ((step d l b).answer.next ≡ (obey d a.axis c).next)
unfolding silent
accepted_line {l} {a} {c} d b w x =
    spelled_answer (λ s. s.answer.verdict ≡ ACCEPTED → ((obey d a.axis c).verdict ≡ ACCEPTED) × (s.answer.next ≡ (obey d a.axis c).next))
    d b w (λ n h e. absurd (h e))
    (rw (← x) (λ e. (sym (obeyed_verdict d a.axis a.echo a.command b) ∙ e, obeyed_next d a.axis a.echo a.command b)))
