-- Motor reports to the device.
-- "For reports: 21, then 22."
use Rattle.std.specs.Prelude.{Bool, cond, not, ◌&&◌, [], ◌∷◌, ℕ, leb, is_ok}
use Rattle.laws.specs.Lists.{all}
use Rattle.laws.specs.declared.Refusal.TheVariants.{BadState, BadReport}
use Rattle.laws.specs.Refusals.{◌when◌, first_of, Verdict}
use Rattle.units.specs.Units.{place}
use Rattle.axis.specs.Reports.{takes, reported}
use Rattle.settings.specs.Types.{Number}
use Rattle.axis.specs.declared.reports.Report.{Report}
use Rattle.device.specs.declared.Device.{Device}
use Rattle.device.specs.declared.Outcome.{Outcome}
use Rattle.device.specs.Record.{axes_of, on_axes}
use Rattle.device.specs.Good.{good}

-- "for axis 1 up to the count"
unfoldable pub is_axis : Device → ℕ → Bool
is_axis d k = leb 1 k && leb k d.count

unfoldable pub bad_report : Device → ℕ → Report → Bool
bad_report d k r = not (is_axis d k && all (takes r) (axes_of d k))

unfoldable pub report_refusal : Device → ℕ → Report → Verdict
report_refusal d k r = first_of (BadState when not (good d) ∷ BadReport when bad_report d k r ∷ [])

unfoldable pub report : Device → Number → Report → Outcome
report d axis r =
    let k = place axis.0 in
    record { verdict = report_refusal d k r; next = cond (is_ok (report_refusal d k r)) (on_axes (reported r) k d) d }
