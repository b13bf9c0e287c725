-- A good record has four axes at most.
use Rattle.rules.proofs.GoodStays.{good_count}
use Rattle.rules.proofs.reports.report_refusal.Goals as goal

pub bad_report-requires : goal.bad_report-requires
bad_report-requires c = good_count _ (simp c.good.ensures at c.if-not-good.false)
