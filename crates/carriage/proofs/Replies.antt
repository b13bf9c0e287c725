-- What a good record sends: a text that is written whole is the answer, and none is longer than room is asked for.
-- Assumes nothing.
use Rattle.laws.specs.Refusals.{Verdict}
use mathlib.Core.Path.{◌≡◌, refl, ap, ◌∙◌}
use mathlib.Core.Logic.{⊎_elim}
use mathlib.Core.Bool.{Bool, true, false, cond}
use mathlib.Core.List.{List, [], ◌++◌}
use Prim.Native.Nat.{ℕ, ◌+◌, ◌≤◌, ◌<◌}
use native.Mathlib.Nat.{zero-add}
use native.Mathlib.Omega.{arith}
use lib.ListN.{length, length-append}
use borrow.Author.Tests.{le-leb, lt-leb}
use Rattle.laws.specs.Lists.{fold}
use Rattle.laws.proofs.Order.{lt_or_le}
use Rattle.command.specs.declared.Command.{Command}
use Rattle.command.specs.Commands.{informs}
use Rattle.units.specs.Units.{place}
use Rattle.buffer.specs.Wrote.{Wrote}
use Rattle.buffer.proofs.Wrote.{wrote_room}
use Rattle.device.specs.declared.Device.{Device}
use Rattle.device.specs.Record.{on_axes}
use Rattle.device.specs.Good.{good}
use Rattle.rules.specs.Effects.{next}
use Rattle.rules.proofs.BeyondCount.{after_keeps}
use Rattle.rules.proofs.GoodStays.{good_count}
use Rattle.reply.specs.Help.{longest_answer, info_lines}
use Rattle.reply.specs.Reply.{longest_reply, joined}
use Rattle.reply.proofs.HelpTexts.{infos_short}
use Rattle.reply.proofs.Room.{most_data, reply_length, alert_length}
use Rattle.view.specs.View.{shown_axis, head_of}
use Rattle.carriage.specs.declared.Answer.{Answer}
use Rattle.carriage.specs.declared.Heading.{Heading}
use Rattle.carriage.specs.Rulings.{heading_of}
use Rattle.carriage.specs.Report.{alert_of}
use Rattle.carriage.specs.Step.{Gives, written, wants_sum, reply_of, infos_of, command_room}
use Rattle.carriage.proofs.AnswerRoom.{command_room_lem}

-- the axis that a reply shows is one digit
pub shown_digit : (d : Device) (k : ℕ) → d.count ≤ 4 → shown_axis d k < 10
unfolding shown_axis
shown_digit d k h =
    ⊎_elim (λ (l : d.count < k). rw (lt-leb k d.count l) (omega arith)) (λ l. rw (le-leb k d.count l) (omega arith))
    (lt_or_le d.count k)

-- the axis in a head is one digit
pub head_digit : {h : Heading} (d : Device) (k : ℕ) (ok : Bool) → h ≡ heading_of d k ok → d.count ≤ 4 → h.head.axis < 10
unfolding head_of
head_digit d k ok e few = rw e (shown_digit d k few)

-- a text that is written whole, from the front of the buffer on, is the answer, beside the verdict v
pub wrote_gives : (v : Verdict) (d : Device) (t : List ℕ) {b f : List ℕ} {r : ℕ} → Wrote b 0 t f r → length t ≤ length b → {a : Answer}
    → a ≡ record { verdict = v; length = r; next = d } → Gives (written v d t b) a f
unfolding written
wrote_gives v d t {b} {f} {r} w h e =
    let k = wrote_room w (omega arith) in
    let long : r ≡ length t = rw zero-add at k.1 in
    record {
      result = e ∙ ap (λ (x : ℕ). record { verdict = v; length = x; next = d }) long;
      left = rw zero-add at k.0;
    }

-- ---- no message of a good record has more than 96 bytes
module _ (d : Device) (k : ℕ) (few : d.count ≤ 4) where
  pub reply_short : (ok : Bool) (words : List ℕ) → length words ≤ 74 → length (reply_of d k ok words) ≤ 96
  unfolding reply_of head_of
  reply_short ok words h =
      reply_length (head_of d k ok) (shown_digit d k few) (wants_sum d) words (omega (arith, most_data (wants_sum d)))

  pub alert_short : length (alert_of d k) ≤ 18
  unfolding alert_of head_of
  alert_short = alert_length (head_of d k true) (shown_digit d k few) (wants_sum d)

-- the info lines behind the reply to a command, as the code has them
pub infos_as : (d : Device) (c : Command) → joined (infos_of d c)
    ≡ cond (informs c) (joined (info_lines (place d.comm.address.0) (wants_sum d))) []
unfolding infos_of joined fold
infos_as d c = go (informs c)
  where
    go : (t : Bool) → joined (cond t (info_lines (place d.comm.address.0) (wants_sum d)) [])
        ≡ cond t (joined (info_lines (place d.comm.address.0) (wants_sum d))) []
    go true = refl
    go false = refl

-- the answer to an accepted command, reply and info lines, has no more bytes than room is asked for
pub answer_short : (d : Device) (k : ℕ) (c : Command) (words : List ℕ) → d.count ≤ 4 → length words ≤ 74
    → length (reply_of d k true words ++ joined (infos_of d c)) ≤ command_room c
answer_short d k c words few h =
    rw (length-append, infos_as d c, command_room_lem c) (go (informs c))
  where
    go : (t : Bool) → length (reply_of d k true words) + length (cond t (joined (info_lines (place d.comm.address.0) (wants_sum d))) [])
        ≤ cond t longest_answer longest_reply
    go true = omega (arith, reply_short d k few true words h, infos_short (place d.comm.address.0) (wants_sum d))
    go false = omega (arith, reply_short d k few true words h)

-- a command never changes the axis count
pub next_count : (d : Device) (k : ℕ) (c : Command) → (next d k c).count ≡ d.count
unfolding next on_axes
next_count d k (Command.OfAxes c) = refl
next_count d k (Command.OfDevice c) = (after_keeps c d).1

pub next_few : {e : Device} (d : Device) (k : ℕ) (c : Command) → good d ≡ true → e ≡ next d k c → e.count ≤ 4
next_few d k c g q = rw (q, next_count d k c) (good_count d g)
