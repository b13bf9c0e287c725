-- Demands 1 and 2 on the answer to a line, over every record, line and buffer: what a refusal leaves, and what stays good.
-- Assumes nothing.
use Rattle.laws.specs.declared.Refusal.TheVariants.{NoRoom, BadState, NotMine}
use Rattle.laws.specs.declared.Refusal.{Refusal}
use Rattle.std.specs.Prelude.{Ok, Err, is_ok, is_err}
use mathlib.Core.Path.{◌≡◌, refl, sym, ap, ◌∙◌}
use mathlib.Core.Bool.{Bool, true, false, cond, not}
use mathlib.Core.List.{List, [], ◌∷◌, ◌++◌, append-nil}
use Prim.Native.Nat.{ℕ}
use lib.Dec.{ltb}
use lib.ListN.{length, take, drop}
use lib.Seq.{take_at}
use Rattle.laws.specs.Lists.{fold}
use Rattle.laws.specs.Refusals.{Row, ◌when◌, first_of, refusal_at, Verdict, ACCEPTED, met}
use Rattle.laws.proofs.Answers.{one_answer}
use Rattle.laws.proofs.Bools.{not_false}
use Rattle.laws.proofs.Refusals.{unmet, below, accepted_is, refused_is, not_both}
use Rattle.command.specs.declared.Command.{Command}
use Rattle.phrase.specs.Reading.{WordsRead, worded}
use Rattle.phrase.proofs.WordsNumbered.{Misspelt}
use Rattle.line.specs.Reading.{LineRead, read_line, carried_by, sent}
use Rattle.line.proofs.Carried.{Carried, carried_of}
use Rattle.line.proofs.EveryLine.{Reads, misspelt, every_line}
use Rattle.device.specs.declared.Device.{Device}
use Rattle.device.specs.Good.{good}
use Rattle.rules.specs.Refusals.{refusal}
use Rattle.rules.specs.Effects.{next, obey}
use Rattle.rules.proofs.GoodStays.{good_stays}
use Rattle.rules.proofs.RefusalKeeps.{accepted_next}
use Rattle.reply.specs.Data.{refusal_name}
use Rattle.reply.specs.Reply.{joined}
use Rattle.view.specs.Data.{data_of}
use Rattle.carriage.specs.declared.Answer.{Answer}
use Rattle.carriage.specs.Step.{addressed, Stepped, Gives, silent, written, reply_of, rejected, infos_of, accepted, obeyed, unread, not_mine, answered, room_for, silence, respond, step, judged}

-- "length 0, nothing written": and the record stays
pub record Unchanged (d : Device) (b : List ℕ) (s : Stepped) : Type 0 where
  pub next : s.answer.next ≡ d
  pub length : s.answer.length ≡ 0
  pub buffer : s.buffer ≡ b

-- the rows of the table of silences: none of them applies where there is no silence
module _ (d : Device) (r : LineRead) (b : List ℕ) (e : silence d r b ≡ ACCEPTED) where
  abbrev read : List Row
  read = met (unread r) ∷ NoRoom when ltb (length b) (room_for r) ∷ NotMine when not_mine d r ∷ []

  room : first_of (BadState when not (good d) ∷ read) ≡ ACCEPTED
  unfolding silence
  room = below NoRoom (ltb (length b) 96) (BadState when not (good d) ∷ read) e

  read_good : good d ≡ true
  read_good = not_false (good d) (unmet BadState (not (good d)) read room)

  read_number : unread r ≡ ACCEPTED
  unfolding first_of
  read_number = go (unread r) (below BadState (not (good d)) read room)
    where
      go : (v : Verdict) → cond (is_err v) v (cond (ltb (length b) (room_for r)) (Err NoRoom) (cond (not_mine d r) (Err NotMine) ACCEPTED)) ≡ ACCEPTED
          → v ≡ ACCEPTED
      go (Ok u) h = refl
      go (Err n) h = h

-- what holds of every refusal that the reader rejects a line's words with
abbrev pub RejectsWords : (Refusal → Type 0) → WordsRead → Type 0
RejectsWords Q (Ok x) = Unit
RejectsWords Q (Err e) = Q e.refusal

abbrev pub Rejects : (Refusal → Type 0) → LineRead → Type 0
Rejects Q (Err e) = Unit
Rejects Q (Ok x) = RejectsWords Q x.words

-- what holds of the silence, of words that are misspelt, of a command that is refused and of one that is accepted, holds of every
-- answer: with what was read of the line
module _ (P : Stepped → Type 0) (d : Device) (l b : List ℕ)
    (quiet : (silence d (read_line l) b ≡ ACCEPTED → ⊥) → P (silent (silence d (read_line l) b) d b))
    (wrong : (a k end : ℕ) (m : Refusal) (p : ℕ) → read_line l ≡ Ok (sent a k end (Err (refusal_at m p))) → Misspelt (Err m) → good d ≡ true → P (rejected m d k b))
    (refused : (a k end from : ℕ) (c : Command) (n : Refusal) → read_line l ≡ Ok (sent a k end (Ok (worded c from))) → good d ≡ true
    → refusal d k c ≡ Err n → P (rejected n d k b))
    (done : (a k end from : ℕ) (c : Command) → read_line l ≡ Ok (sent a k end (Ok (worded c from))) → good d ≡ true
    → refusal d k c ≡ ACCEPTED → P (accepted d k (carried_by c (drop from (take end l))) c b)) where
  obeys : (a k end from : ℕ) (c : Command) → read_line l ≡ Ok (sent a k end (Ok (worded c from))) → good d ≡ true
      → P (obeyed d k (carried_by c (drop from (take end l))) c b)
  unfolding obeyed
  obeys a k end from c is g = go (refusal d k c) refl
    where
      go : (v : Verdict) → refusal d k c ≡ v → P (judged v d k (carried_by c (drop from (take end l))) c b)
      go (Ok u) e = done a k end from c is g e
      go (Err n) e = refused a k end from c n is g e

  answers : (r : LineRead) → read_line l ≡ r → Reads l r → silence d r b ≡ ACCEPTED → P (answered d l r b)
  answers (Err e) is h z = not_both e.refusal (read_number d (Err e) b z)
  answers (Ok x) is h z = go x.words is h z
    where
      go : (w : WordsRead) → read_line l ≡ Ok (sent x.address x.axis x.end w) → Reads l (Ok (sent x.address x.axis x.end w))
          → silence d (Ok (sent x.address x.axis x.end w)) b ≡ ACCEPTED → P (addressed d l x.axis x.end w b)
      go (Err e) is (misspelt c u v w) z = wrong x.address x.axis x.end e.refusal e.place is w (read_good d _ b z)
      go (Ok y) is h z = obeys x.address x.axis x.end y.from y.command is (read_good d _ b z)

  pub each_answer : P (step d l b)
  unfolding step respond
  each_answer = go (is_ok (silence d (read_line l) b)) refl
    where
      go : (t : Bool) → is_ok (silence d (read_line l) b) ≡ t
          → P (cond t (answered d l (read_line l) b) (silent (silence d (read_line l) b) d b))
      go true e = answers (read_line l) refl (every_line l) (accepted_is (silence d (read_line l) b) e)
      go false e = quiet (refused_is (silence d (read_line l) b) e)

-- the same, where it is of no account which refusal it is
pub every_answer : (P : Stepped → Type 0) (d : Device) (l b : List ℕ) → P (silent (silence d (read_line l) b) d b)
    → ((n : Refusal) (k : ℕ) → good d ≡ true → P (rejected n d k b))
    → ((k : ℕ) (c : Command) (es : List (List ℕ)) → good d ≡ true → refusal d k c ≡ ACCEPTED → Carried l c es → P (accepted d k es c b))
    → P (step d l b)
every_answer P d l b quiet refused done =
    each_answer P d l b (λ h. quiet) (λ a k end m p is w g. refused m k g) (λ a k end from c n is g h. refused n k g)
    (λ a k end from c is g e. done k c _ g e (carried_of l a k end from c is))

-- A refusal, silent or replied, leaves the record as it was.
pub refusal_keeps_the_record : (d : Device) (l b : List ℕ) → ((step d l b).answer.verdict ≡ ACCEPTED → ⊥) → (step d l b).answer.next ≡ d
unfolding silent rejected accepted written
refusal_keeps_the_record d l b =
    every_answer (λ s. (s.answer.verdict ≡ ACCEPTED → ⊥) → s.answer.next ≡ d) d l b (λ h. refl) (λ n k g h. refl)
    (λ k c es g e w h. absurd (h refl))

-- On a good record the next record is good.
pub good_goes_on : (d : Device) (l b : List ℕ) → good d ≡ true → good (step d l b).answer.next ≡ true
unfolding silent rejected accepted written obey
good_goes_on d l b g =
    every_answer (λ s. good s.answer.next ≡ true) d l b g (λ n k g. g)
    (λ k c es g e w. ap good (sym (accepted_next d k c e)) ∙ good_stays d k c g)

-- Bytes behind a reply keep their values, whatever was answered: the buffer is some text, and what stood behind it.
pub record Behind (b : List ℕ) (s : Stepped) : Type 0 where
  pub text : List ℕ
  pub long : s.answer.length ≡ length text
  pub left : s.buffer ≡ text ++ drop (length text) b

pub keeps_behind : (d : Device) (l b : List ℕ) → Behind b (step d l b)
unfolding silent rejected accepted written
keeps_behind d l b =
    every_answer (Behind b) d l b (record { text = []; long = refl; left = refl })
    (λ n k g. record { text = reply_of d k false (refusal_name n); long = refl; left = refl })
    (λ k c es g e w.
    record { text = reply_of (next d k c) k true (data_of d k es c) ++ joined (infos_of (next d k c) c); long = refl; left = refl })

-- ---- the reply

-- the data of a reply beside a verdict, to words that were read for the axis k: the refusal's name; or, of a command that is
-- accepted, its data, with the words that it carries
abbrev pub data_for : Device → List ℕ → ℕ → ℕ → WordsRead → Verdict → List ℕ
data_for d l k end (Err e) (Ok u) = []
data_for d l k end (Ok x) (Ok u) = data_of d k (carried_by x.command (drop x.from (take end l))) x.command
data_for d l k end (Err e) (Err n) = refusal_name n
data_for d l k end (Ok x) (Err n) = refusal_name n

-- the info lines behind it: those of a command that is accepted
abbrev pub infos_for : Device → WordsRead → Verdict → List (List ℕ)
infos_for e (Err u) v = []
infos_for e (Ok x) v = cond (is_ok v) (infos_of e x.command) []

-- what an answer s leaves in the buffer; the reply of its next record to what was read, for the axis that was sent, OK exactly where
-- it is accepted; and that reply with the info lines behind it
abbrev pub sent_in : Stepped → List ℕ
sent_in s = take s.answer.length s.buffer

abbrev pub reply_to : Device → List ℕ → ℕ → ℕ → WordsRead → Stepped → List ℕ
reply_to d l k end w s = reply_of s.answer.next k (is_ok s.answer.verdict) (data_for d l k end w s.answer.verdict)

abbrev pub answer_to : Device → List ℕ → LineRead → Stepped → List ℕ
answer_to d l (Err e) s = []
answer_to d l (Ok x) s = reply_to d l x.axis x.end x.words s ++ joined (infos_for s.answer.next x.words s.answer.verdict)

-- "A reply describes the record after the command": whatever is read of the line, nothing else stands in the buffer.
pub reply_describes_next : (d : Device) (l b : List ℕ) → ((step d l b).answer.length ≡ 0 → ⊥)
    → sent_in (step d l b) ≡ answer_to d l (read_line l) (step d l b)
unfolding silent rejected accepted written joined fold
reply_describes_next d l b =
    each_answer (λ s. (s.answer.length ≡ 0 → ⊥) → sent_in s ≡ answer_to d l (read_line l) s) d l b (λ n h. absurd (h refl))
    (λ a k end m p is w g h. rw is (alone (reply_of d k false (refusal_name m))))
    (λ a k end from c n is g r h. rw is (alone (reply_of d k false (refusal_name n))))
    (λ a k end from c is g e h.
    rw is (front (reply_of (next d k c) k true (data_of d k (carried_by c (drop from (take end l))) c) ++ joined (infos_of (next d k c) c))))
  where
    front : (t : List ℕ) → take (length t) (t ++ drop (length t) b) ≡ t
    front t = take_at t (drop (length t) b) (length t) refl

    alone : (t : List ℕ) → take (length t) (t ++ drop (length t) b) ≡ t ++ joined []
    alone t = front t ∙ sym (append-nil t)

-- The promise of a step leaves no choice: two results and buffers that meet it are the same.
pub gives_one : {s : Stepped} {r q : Answer} {b c : List ℕ} → Gives s r b → Gives s q c → (r ≡ q) × (b ≡ c)
gives_one g h = (one_answer g.result h.result, one_answer g.left h.left)
