-- A motor report that is refused leaves the record and all lent bytes as they were, over every record, report and buffer.
-- Assumes nothing.
use Rattle.laws.specs.Refusals.{ACCEPTED}
use mathlib.Core.Path.{◌≡◌, refl}
use mathlib.Core.List.{List}
use Prim.Native.Nat.{ℕ}
use Rattle.units.specs.declared.Number.{Number}
use Rattle.axis.specs.Reports.{report_of}
use Rattle.device.specs.declared.Device.{Device}
use Rattle.rules.proofs.RefusalKeeps.{report_keeps}
use Rattle.carriage.specs.Report.{report}
use Rattle.carriage.specs.Step.{silent, written}
use Rattle.carriage.proofs.Demands.{Unchanged}
use Rattle.carriage.proofs.Room.{by_report}

pub refused_report : (d : Device) (axis kind last : Number) (b : List ℕ) → ((report d axis kind last b).answer.verdict ≡ ACCEPTED → ⊥)
    → Unchanged d b (report d axis kind last b)
unfolding silent written
refused_report d axis kind last b =
    by_report (λ s. (s.answer.verdict ≡ ACCEPTED → ⊥) → Unchanged d b s) d axis kind last b
    (λ h n. record { next = refl; length = refl; buffer = refl })
    (λ h e n. absurd (n refl))
    (λ n. record { next = report_keeps d axis (report_of kind last) n; length = refl; buffer = refl })
