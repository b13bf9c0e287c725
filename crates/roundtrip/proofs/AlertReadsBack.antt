-- Whatever motor report a device answers with an alert, the host reads it as that alert: every record, report and buffer.
-- Assumes nothing.
use Rattle.laws.specs.Refusals.{ACCEPTED}
use mathlib.Core.Path.{◌≡◌, refl, ap, ◌∙◌}
use mathlib.Core.Bool.{true}
use mathlib.Core.List.{List}
use Prim.Native.Nat.{ℕ}
use native.Mathlib.Omega.{arith}
use lib.ListN.{length, drop}
use lib.Seq.{take_at}
use Rattle.std.specs.Prelude.{Some}
use Rattle.units.specs.Units.{place}
use Rattle.units.specs.declared.Number.{Number}
use Rattle.axis.specs.Reports.{report_of}
use Rattle.device.specs.declared.Device.{Device}
use Rattle.device.specs.Good.{good}
use Rattle.rules.proofs.GoodStays.{good_count}
use Rattle.view.specs.View.{head_of}
use Rattle.carriage.specs.Step.{Stepped, silent, written, wants_sum}
use Rattle.carriage.specs.Report.{alert_of, report}
use Rattle.carriage.proofs.Alerts.{accepted_good}
use Rattle.carriage.proofs.Demands.{sent_in}
use Rattle.carriage.proofs.Replies.{shown_digit}
use Rattle.carriage.proofs.Room.{by_report}
use Rattle.host_reader.specs.Reading.{read_message}
use Rattle.host_reader.proofs.ReadsBack.{heard_alert, alert_back}
use Rattle.roundtrip.proofs.Shown.{good_address}

-- What the host understands of it: an alert of that axis, with the address, status and highest warning of the next record.
abbrev pub Alerted : ℕ → Stepped → Type 0
Alerted k s = read_message (sent_in s) ≡ Some (heard_alert (head_of s.answer.next k true))

alert_heard : (d : Device) (k : ℕ) (b : List ℕ) → good d ≡ true → Alerted k (written ACCEPTED d (alert_of d k) b)
unfolding written alert_of head_of
alert_heard d k b g =
    let t = alert_of d k in
    let address = good_address d g in
    ap read_message (take_at t (drop (length t) b) (length t) refl)
    ∙ alert_back (head_of d k true) (wants_sum d) address.0 address.1 (omega (arith, shown_digit d k (good_count d g)))

pub alert_reads_back : (d : Device) (axis kind last : Number) (b : List ℕ) → ((report d axis kind last b).answer.length ≡ 0 → ⊥)
    → Alerted (place axis.0) (report d axis kind last b)
unfolding silent
alert_reads_back d axis kind last b =
    by_report (λ s. (s.answer.length ≡ 0 → ⊥) → Alerted (place axis.0) s) d axis kind last b (λ h z. absurd (z refl))
    (λ h e z. alert_heard _ (place axis.0) b (accepted_good d axis (report_of kind last) e))
    (λ z. absurd (z refl))
