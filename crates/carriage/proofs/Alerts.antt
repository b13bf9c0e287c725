-- The ways of a motor report, as the tests of the code have them: no room, an alert, or none.
-- Assumes nothing.
use Rattle.std.specs.Prelude.{Err, is_ok}
use Rattle.laws.specs.declared.Refusal.TheVariants.{NoRoom, BadState, BadReport}
use mathlib.Core.Path.{◌≡◌, refl, sym, ap, ◌∙◌}
use mathlib.Core.Bool.{Bool, true, false, not, ◌&&◌}
use mathlib.Core.List.{List, [], ◌∷◌}
use Prim.Native.Nat.{ℕ, ◌≤◌, ◌<◌}
use native.Mathlib.Omega.{arith}
use lib.Dec.{eqb}
use lib.ListN.{length}
use borrow.Author.Tests.{lt-ltb, le-ltb}
use Rattle.laws.specs.Refusals.{◌when◌, Verdict, ACCEPTED}
use Rattle.laws.proofs.Bools.{and_left, not_false}
use Rattle.laws.proofs.Refusals.{unmet, accepted_is}
use Rattle.units.specs.Units.{place}
use Rattle.units.specs.declared.Number.{Number}
use Rattle.axis.specs.declared.reports.Report.{Report}
use Rattle.axis.specs.Reports.{report_of, rests}
use Rattle.buffer.specs.Wrote.{Wrote}
use Rattle.device.specs.declared.Device.{Device}
use Rattle.device.specs.declared.Outcome.{Outcome}
use Rattle.device.specs.Good.{good}
use Rattle.rules.specs.Reports as Device
use Rattle.rules.proofs.GoodStays.{good_count, report_good}
use Rattle.reply.specs.Reply.{alert}
use Rattle.carriage.specs.declared.Heading.{Heading}
use Rattle.carriage.specs.Report.{alert_due, alert_of, report}
use Rattle.carriage.specs.Rulings.{heading_of}
use Rattle.carriage.specs.Step.{Gives}
use Rattle.carriage.proofs.Replies.{head_digit, alert_short, wrote_gives}
use Rattle.carriage.proofs.Steps.{silent_gives}

-- a report that is accepted comes from a good record, and leaves one
pub accepted_good : (d : Device) (axis : Number) (r : Report) → (Device.report d axis r).verdict ≡ ACCEPTED
    → good (Device.report d axis r).next ≡ true
unfolding Device.report Device.report_refusal
accepted_good d axis r e = report_good d axis r was-good
  where
    k : ℕ
    k = place axis.0

    refused : Device.report_refusal d k r ≡ ACCEPTED
    refused = e

    was-good : good d ≡ true
    was-good = not_false (good d) (unmet BadState (not (good d)) (BadReport when Device.bad_report d k r ∷ []) refused)

pub accepted_few : (d : Device) (axis : Number) (r : Report) → (Device.report d axis r).verdict ≡ ACCEPTED → (Device.report d axis r).next.count ≤ 4
accepted_few d axis r e = good_count (Device.report d axis r).next (accepted_good d axis r e)

module _ (d : Device) (axis kind last : Number) (b : List ℕ) where
  pub report_shut : length b < 96 → Gives (report d axis kind last b) (record { verdict = Err NoRoom; length = 0; next = d }) b
  unfolding report
  report_shut h = rw (lt-ltb (length b) 96 h) (silent_gives (Err NoRoom) d b refl)

  -- r is the report, o what it came to, and t whether the code finds that an alert is due
  module _ (room : 96 ≤ length b) {r : Report} (p : r ≡ report_of kind last) {o : Outcome} (q : o ≡ Device.report d axis r)
      {t : Bool} (u : t ≡ alert_due r o) where
    done : Device.report d axis (report_of kind last) ≡ o
    done = sym (q ∙ ap (Device.report d axis) p)

    came : (b : Bool) → t ≡ b → alert_due (report_of kind last) (Device.report d axis (report_of kind last)) ≡ b
    came b h = rw (done, ← p) (sym u ∙ h)

    pub report_quiet : t ≡ false
        → Gives (report d axis kind last b) (record { verdict = o.verdict; length = 0; next = o.next }) b
    unfolding report
    report_quiet h = rw (le-ltb (length b) 96 room, came false h, done) (silent_gives o.verdict o.next b refl)

    -- an alert, for the axis k
    module _ (h : t ≡ true) {k : ℕ} (z : k ≡ place axis.0) {g : Heading} (y : g ≡ heading_of o.next k true) where
      accepted : o.verdict ≡ ACCEPTED
      accepted =
          let none = is_ok o.verdict in
          accepted_is o.verdict
          (and_left none (rests r) (and_left (none && rests r) (eqb (place o.next.comm.alert.0) 1) (sym u ∙ h)))

      few : o.next.count ≤ 4
      few = rw q (accepted_few d axis r (sym (ap (λ (x : Outcome). x.verdict) q) ∙ accepted))

      pub alert_digit : g.head.axis < 10
      alert_digit = head_digit o.next k true y few

      pub report_alerts : {f : List ℕ} {x : ℕ} → Wrote b 0 (alert g.head g.sum) f x
          → Gives (report d axis kind last b) (record { verdict = o.verdict; length = x; next = o.next }) f
      unfolding report alert_of
      report_alerts {f} {x} w =
          let wrote : Wrote b 0 (alert_of o.next (place axis.0)) f x = rw (y, z) at w in
          rw (le-ltb (length b) 96 room, came true h, done)
          (wrote_gives ACCEPTED o.next (alert_of o.next (place axis.0)) wrote (omega (arith, alert_short o.next (place axis.0) few))
          (ap (λ (v : Verdict). record { verdict = v; length = x; next = o.next }) accepted))
