-- A refusal leaves the record as it was: of a command and of a motor report, over every record.
-- Assumes nothing.
use Rattle.laws.proofs.Refusals.{is_accepted, is_refused}
use Rattle.laws.specs.Refusals.{ACCEPTED}
use mathlib.Core.Path.{◌≡◌}
use Prim.Native.Nat.{ℕ}
use Rattle.units.specs.Units.{place}
use Rattle.axis.specs.Reports.{reported}
use Rattle.device.specs.Record.{on_axes}
use Rattle.command.specs.declared.Command.{Command}
use Rattle.settings.specs.Types.{Number}
use Rattle.axis.specs.declared.reports.Report.{Report}
use Rattle.device.specs.declared.Device.{Device}
use Rattle.rules.specs.Refusals.{refusal}
use Rattle.rules.specs.Effects.{next, obey}
use Rattle.rules.specs.Reports.{report_refusal, report}

-- "10 to 16 ... change no record"
pub refusal_keeps : (d : Device) (k : ℕ) (c : Command) → ((obey d k c).verdict ≡ ACCEPTED → ⊥) → (obey d k c).next ≡ d
unfolding obey
refusal_keeps d k c h = simp (is_refused (refusal d k c) h)

-- and an accepted command gives the next record
pub accepted_next : (d : Device) (k : ℕ) (c : Command) → (obey d k c).verdict ≡ ACCEPTED → (obey d k c).next ≡ next d k c
unfolding obey
accepted_next d k c h = simp (is_accepted (refusal d k c) h)

-- "Refusals ... of reports ... change nothing"
pub report_keeps : (d : Device) (axis : Number) (r : Report) → ((report d axis r).verdict ≡ ACCEPTED → ⊥) → (report d axis r).next ≡ d
unfolding report
report_keeps d axis r h = simp (is_refused (report_refusal d (place axis.0) r) h)

pub report_next : (d : Device) (axis : Number) (r : Report) → (report d axis r).verdict ≡ ACCEPTED
    → (report d axis r).next ≡ on_axes (reported r) (place axis.0) d
unfolding report
report_next d axis r h = simp (is_accepted (report_refusal d (place axis.0) r) h)
