-- What a motor report makes of a record and a buffer: its axis, its kind from 1 to 5 and its last number, as they are sent.
-- "Refusals ... of reports ... give their number alone and write or change nothing. For reports: 21, then 22"; 02, order 5: "NOROOM first
-- for a report with under 96 bytes".
use Rattle.laws.specs.Refusals.{Verdict, ACCEPTED}
use Rattle.std.specs.Prelude.{Bool, true, cond, ◌&&◌, List, ℕ, eqb, ltb, length, Err, is_ok}
use Rattle.laws.specs.declared.Refusal.TheVariants.{NoRoom}
use Rattle.units.specs.Units.{place}
use Rattle.units.specs.declared.Number.{Number}
use Rattle.axis.specs.declared.reports.Report.{Report}
use Rattle.axis.specs.Reports.{report_of, rests}
use Rattle.device.specs.declared.Device.{Device}
use Rattle.device.specs.declared.Outcome.{Outcome}
use Rattle.rules.specs.Reports as Device
use Rattle.reply.specs.Reply.{longest_reply, alert}
use Rattle.view.specs.View.{head_of}
use Rattle.carriage.specs.Step.{Stepped, silent, written, wants_sum}

-- order 5: "an alert for the axis on a report of kind 2 or 3 if comm.alert is 1"
abbrev pub alert_wanted : Verdict → Report → Number → Bool
alert_wanted v r alert = is_ok v && rests r && eqb (place alert.0) 1

abbrev pub alert_due : Report → Outcome → Bool
alert_due r o = alert_wanted o.verdict r o.next.comm.alert

-- it describes the record after the report, as a reply does
unfoldable pub alert_of : Device → ℕ → List ℕ
alert_of d k = alert (head_of d k true) (wants_sum d)

-- what a report r for axis k came to, and its alert, if one is due
abbrev pub told : Report → ℕ → Outcome → List ℕ → Stepped
told r k o b = cond (alert_due r o) (written ACCEPTED o.next (alert_of o.next k) b) (silent o.verdict o.next b)

unfoldable pub report : Device → Number → Number → Number → List ℕ → Stepped
report d axis kind last b =
    let r = report_of kind last in
    cond (ltb (length b) longest_reply) (silent (Err NoRoom) d b) (told r (place axis.0) (Device.report d axis r) b)
