-- A good axis stays good under every motor report that it takes, and an axis at rest stays at rest.
-- Assumes nothing.
use mathlib.Core.Path.{◌≡◌, refl}
use mathlib.Core.Bool.{Bool, true, false, cond}
use Rattle.laws.proofs.Bools.{and_left}
use Rattle.units.specs.Units.{number, place, within, bound}
use Rattle.settings.proofs.GoodStays.{put_good}
use Rattle.axis.specs.Record.{with_warnings, moving, is_homing}
use Rattle.axis.specs.Good.{good_motion, good_axis}
use Rattle.axis.proofs.GoodStays.{choose, whole, settings_good, stored_good, motion_good, with_warnings_lem}
use Rattle.settings.specs.Types.{Position, Number, Pos}
use Rattle.axis.specs.declared.Motion.{Motion}
use Rattle.axis.specs.declared.Motion.TheVariants.{Idle}
use Rattle.axis.specs.declared.Axis.{Axis}
use Rattle.axis.specs.declared.reports.Report.{Report}
use Rattle.axis.specs.declared.reports.Report.TheVariants.{MovingAt, StoppedAt, HomeReached, Raised, DriverNormal, Unknown}
use Rattle.axis.specs.RaisedWarnings.{is_warning, raise, raised}
use Rattle.axis.specs.Reports.{placed, takes, reported}

module _ (a : Axis) (good : good_axis a ≡ true) where
  raised_good : (n : Number) → good_axis (raised n a) ≡ true
  unfolding raised
  raised_good n =
      choose good_axis (is_warning n) (with_warnings (raise (place n.0) a.warnings) a) a
      (λ h. with_warnings_lem a good (raise (place n.0) a.warnings)) (λ h. good)

  placed_good : (p : Position) (m : Motion) (r : Bool) → within bound p.0 ≡ true → good_motion m ≡ true → good_axis (placed p m r a) ≡ true
  placed_good p m r h g = whole (placed p m r a) (put_good (number p.0) a.settings (settings_good a good) Pos h)
      (stored_good a good) g

  pub reported_good : (r : Report) → takes r a ≡ true → good_axis (reported r a) ≡ true
  reported_good (MovingAt p) h = placed_good p a.motion a.reference (and_left (within bound p.0) (moving a) h) (motion_good a good)
  reported_good (StoppedAt p) h = placed_good p Idle a.reference (and_left (within bound p.0) (moving a) h) refl
  reported_good (HomeReached p) h = placed_good p Idle true (and_left (within bound p.0) (is_homing a.motion) h) refl
  reported_good (Raised n) h = raised_good n
  reported_good DriverNormal h = with_warnings_lem a good _
  reported_good Unknown h = good

-- a report sets no axis in motion
pick : (b : Bool) (x y : Axis) → moving x ≡ false → moving y ≡ false → moving (cond b x y) ≡ false
pick true x y h k = h
pick false x y h k = k

pub reported_still : (r : Report) (a : Axis) → moving a ≡ false → moving (reported r a) ≡ false
unfolding raised
reported_still (MovingAt p) a h = h
reported_still (StoppedAt p) a h = refl
reported_still (HomeReached p) a h = refl
reported_still (Raised n) a h = pick (is_warning n) (with_warnings (raise (place n.0) a.warnings) a) a h h
reported_still DriverNormal a h = h
reported_still Unknown a h = h
