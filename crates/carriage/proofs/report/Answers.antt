-- No room, an alert, or none.
use Rattle.carriage.proofs.Alerts.{report_shut, alert_digit, report_alerts, report_quiet}
use Rattle.carriage.proofs.report.Goals as goal
use Rattle.carriage.proofs.report.Goals.{then-alert_wanted, else-alert_wanted}

pub returns-then-alert-lt-LONGEST_REPLY : goal.returns-then-alert-lt-LONGEST_REPLY
returns-then-alert-lt-LONGEST_REPLY c =
    let a = c.args in report_shut a.d a.axis a.kind a.last a.alert.now c.if-alert-lt-LONGEST_REPLY.true

pub put_alert-length-requires : goal.put_alert-length-requires
put_alert-length-requires c =
    let a = c.args in (
      c.if-alert-lt-LONGEST_REPLY.false,
      alert_digit a.d a.axis a.kind a.last a.alert.now c.if-alert-lt-LONGEST_REPLY.false c.report_of-r.ensures
          c.report-o.ensures c.alert_wanted.ensures c.if-alert_wanted.true c.place.ensures c.heading_of.ensures,
    )

pub returns : goal.returns
returns c =
    let a = c.args in
    elim c.if-alert_wanted.branch [
      | then-alert_wanted w ↦
          rw (w.alert-is, w.length-is) (report_alerts a.d a.axis a.kind a.last a.alert.now c.if-alert-lt-LONGEST_REPLY.false c.report_of-r.ensures
          c.report-o.ensures c.alert_wanted.ensures w.if-alert_wanted.true w.place.ensures w.heading_of.ensures
          w.put_alert-length.ensures)
      | else-alert_wanted w ↦
          rw (w.alert-is, w.length-is) (report_quiet a.d a.axis a.kind a.last a.alert.now c.if-alert-lt-LONGEST_REPLY.false c.report_of-r.ensures
          c.report-o.ensures c.alert_wanted.ensures w.if-alert_wanted.false)
    ]
