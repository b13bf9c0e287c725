-- No answer has more bytes than room is asked for, whatever the record, the line and the buffer: nothing of it is ever cut. And the number
-- of a silence, or of a report, has two digits at most. Assumes nothing.
use Rattle.laws.specs.Refusals.{ACCEPTED, number_of}
use Rattle.laws.specs.declared.Refusal.{Refusal}
use Rattle.std.specs.Prelude.{Err, is_ok}
use mathlib.Core.Path.{◌≡◌, refl, subst}
use mathlib.Core.Bool.{Bool, true, false, cond, ◌&&◌}
use mathlib.Core.List.{List, [], ◌++◌}
use Prim.Native.Nat.{ℕ, ◌≤◌, ◌<◌}
use native.Mathlib.Omega.{arith}
use lib.Dec.{ltb}
use lib.ListN.{length, take, drop}
use borrow.Author.Tests.{ltb-true, ltb-false}
use Rattle.laws.specs.declared.Refusal.TheVariants.{NoRoom}
use Rattle.laws.proofs.Bools.{and_left}
use Rattle.laws.proofs.Each.{none, more}
use Rattle.laws.proofs.Refusals.{accepted_is, of_rows}
use Rattle.units.specs.Units.{place}
use Rattle.units.specs.declared.Number.{Number}
use Rattle.axis.specs.declared.reports.Report.{Report}
use Rattle.axis.specs.Reports.{report_of, rests}
use Rattle.line.specs.Reading.{LineRead, read_line, carried_by}
use Rattle.line.proofs.Carried.{carried_of}
use Rattle.line.proofs.EveryLine.{Reads, unframed, misaddressed, misspelt, spelled, every_line}
use Rattle.line.proofs.EveryLine as Line
use Rattle.device.specs.declared.Device.{Device}
use Rattle.device.specs.declared.Outcome.{Outcome}
use Rattle.device.specs.Good.{good}
use Rattle.rules.specs.Effects.{next}
use Rattle.rules.specs.Reports as Device
use Rattle.reply.specs.Data.{refusal_name}
use Rattle.reply.specs.Reply.{joined}
use Rattle.reply.proofs.Lengths.{refusal_length}
use Rattle.view.specs.Data.{data_of}
use Rattle.carriage.specs.declared.Ruling.{Ruling}
use Rattle.carriage.specs.declared.Ruling.TheVariants.{Silent, Rejected, Accepted}
use Rattle.carriage.specs.ReadOnce.{overheard, respond_to}
use Rattle.carriage.specs.Rulings.{rule}
use Rattle.carriage.specs.Report.{alert_due, alert_of, told, report}
use Rattle.carriage.specs.Step.{Stepped, silent, written, reply_of, rejected, infos_of, accepted, unread, room_for, silence, step}
use Rattle.carriage.proofs.Fits.{line_fits}
use Rattle.rules.proofs.GoodStays.{good_count}
use Rattle.carriage.proofs.AnswerRoom.{least_room}
use Rattle.carriage.proofs.Replies.{next_count, reply_short, alert_short, answer_short}
use Rattle.carriage.proofs.Alerts.{accepted_few}
use Rattle.carriage.proofs.Rulings.{answering, Fair, sound_fits, fitted, comes_once}
use Rattle.carriage.proofs.Demands.{Behind, each_answer}

-- No answer takes more bytes than room is asked for: 96, or with info lines 1,152.
pub answer_within : (d : Device) (l b : List ℕ) → (step d l b).answer.length ≤ room_for (read_line l)
unfolding silent rejected accepted written
answer_within d l b =
    each_answer (λ s. s.answer.length ≤ room_for (read_line l)) d l b (λ h. omega arith)
    (λ a k end m p is w g. rejecting m k g)
    (λ a k end from c n is g h. rejecting n k g)
    (λ a k end from c is g e.
    let es = carried_by c (drop from (take end l)) in
    let few : (next d k c).count ≤ 4 = rw (next_count d k c) (good_count d g) in
    rw is (answer_short (next d k c) k c (data_of d k es c) few (line_fits d k c es l g e (carried_of l a k end from c is))))
  where
    rejecting : (n : Refusal) (k : ℕ) → good d ≡ true → length (reply_of d k false (refusal_name n)) ≤ room_for (read_line l)
    rejecting n k g = omega (
      arith,
      reply_short d k (good_count d g) false (refusal_name n) (omega (arith, refusal_length n)),
      least_room (read_line l),
    )

-- ---- what was read, whatever line it is said to stand in: the answer is a text in the buffer, and all of it
module _ (d : Device) (l b : List ℕ) where
  ruled_behind : (x : Ruling) → Behind b (answering d l b x)
  unfolding silent rejected accepted written
  ruled_behind (Silent n) = record { text = []; long = refl; left = refl }
  ruled_behind (Rejected k n) = record { text = reply_of d k false (refusal_name n); long = refl; left = refl }
  ruled_behind (Accepted k from end c x) =
      record { text = reply_of (next d k c) k true (data_of d k _ c) ++ joined (infos_of (next d k c) c); long = refl; left = refl }

  ruled_fits : (x : Ruling) → Fair d l b x → (answering d l b x).answer.length ≤ length b
  unfolding silent rejected accepted written
  ruled_fits (Silent n) h = omega arith
  ruled_fits (Rejected k n) h =
      omega (arith, reply_short d k (good_count d h.1) false (refusal_name n) (omega (arith, refusal_length n)), h.0)
  ruled_fits (Accepted k from end c x) h =
      let few : (next d k c).count ≤ 4 = rw (next_count d k c) (good_count d h.good) in
      omega (
        arith,
        answer_short (next d k c) k c (data_of d k (carried_by c (drop from (take end l))) c) few (sound_fits d l b k from end c x h),
        h.enough,
      )

  pub once_behind : (r : LineRead) → Behind b (respond_to d l r b)
  unfolding respond_to
  once_behind r = subst (Behind b) (comes_once d l b r).answers (ruled_behind (fitted (rule d (overheard (good d) r (length b)))))

  pub once_fits : (r : LineRead) → (respond_to d l r b).answer.length ≤ length b
  unfolding respond_to
  once_fits r =
      let w = comes_once d l b r in
      subst (λ (s : Stepped). s.answer.length ≤ length b) w.answers
      (ruled_fits (fitted (rule d (overheard (good d) r (length b)))) w.fair)

-- ---- the numbers of silence
pub unread_at_most_11 : (l : List ℕ) → number_of (unread (read_line l)) ≤ 11
unread_at_most_11 l = go (every_line l)
  where
    go : {r : LineRead} → Reads l r → number_of (unread r) ≤ 11
    go (unframed Line.too_long x) = omega arith
    go (unframed Line.not_line x) = omega arith
    go (unframed Line.bad_sum x) = omega arith
    go (misaddressed c h) = omega arith
    go (misspelt c h x m) = omega arith
    go (spelled w) = omega arith

pub silence_small : (d : Device) (l b : List ℕ) → number_of (silence d (read_line l) b) ≤ 21
unfolding silence
silence_small d l b =
    of_rows (λ v. number_of v ≤ 21) (omega arith)
    (more (omega arith) (more (omega arith) (more (omega (arith, unread_at_most_11 l)) (more (omega arith) (more (omega arith) none)))))

-- ---- the numbers of reports
outcome_small : (d : Device) (axis : Number) (r : Report) → number_of (Device.report d axis r).verdict ≤ 22
unfolding Device.report Device.report_refusal
outcome_small d axis r = of_rows (λ v. number_of v ≤ 22) (omega arith) (more (omega arith) (more (omega arith) none))

-- whether the buffer has room, and whether an alert is due
pub by_report : (P : Stepped → Type 0) (d : Device) (axis kind last : Number) (b : List ℕ)
    → (length b < 96 → P (silent (Err NoRoom) d b))
    → (let o = Device.report d axis (report_of kind last) in
    96 ≤ length b → (o.verdict ≡ ACCEPTED) → P (written ACCEPTED o.next (alert_of o.next (place axis.0)) b))
    → (let o = Device.report d axis (report_of kind last) in P (silent o.verdict o.next b))
    → P (report d axis kind last b)
unfolding report
by_report P d axis kind last b small alert quiet = go (ltb (length b) 96) refl
  where
    r : Report
    r = report_of kind last

    o : Outcome
    o = Device.report d axis r

    due : 96 ≤ length b → (t : Bool) → alert_due r o ≡ t
        → P (cond t (written ACCEPTED o.next (alert_of o.next (place axis.0)) b) (silent o.verdict o.next b))
    due room true e =
        alert room (accepted_is o.verdict (and_left (is_ok o.verdict) (rests r) (and_left (is_ok o.verdict && rests r) _ e)))
    due room false e = quiet

    go : (t : Bool) → ltb (length b) 96 ≡ t → P (cond t (silent (Err NoRoom) d b) (told r (place axis.0) o b))
    go true e = small (ltb-true (length b) 96 e)
    go false e = due (ltb-false (length b) 96 e) (alert_due r o) refl

pub report_small : (d : Device) (axis kind last : Number) (b : List ℕ) → number_of (report d axis kind last b).answer.verdict ≤ 22
unfolding silent written
report_small d axis kind last b =
    by_report (λ s. number_of s.answer.verdict ≤ 22) d axis kind last b (λ h. omega arith) (λ h z. omega arith)
    (outcome_small d axis (report_of kind last))

-- an alert has 18 bytes at most
pub report_within : (d : Device) (axis kind last : Number) (b : List ℕ) → (report d axis kind last b).answer.length ≤ 18
unfolding silent written
report_within d axis kind last b =
    by_report (λ s. s.answer.length ≤ 18) d axis kind last b (λ h. omega arith)
    (λ h z. alert_short _ (place axis.0) (accepted_few d axis (report_of kind last) z))
    (omega arith)
