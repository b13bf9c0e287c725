-- Motor reports to one axis: which it takes, and what they make of it.
-- "Kinds 1 to 3 set pos; 2 and 3 make the axis idle; 3 gives the reference; 5 removes FD, if present."
use Rattle.std.specs.Prelude.{Bool, true, false, ◌&&◌, [], ◌∷◌, get_or}
use Rattle.units.specs.Units.{position, place, within, bound}
use Rattle.settings.specs.Types.{Position, Number}
use Rattle.axis.specs.declared.Motion.{Motion}
use Rattle.axis.specs.declared.Motion.TheVariants.{Idle}
use Rattle.axis.specs.declared.Axis.{Axis}
use Rattle.axis.specs.declared.reports.Report.{Report}
use Rattle.axis.specs.declared.reports.Report.TheVariants.{MovingAt, StoppedAt, HomeReached, Raised, DriverNormal, Unknown}
use Rattle.settings.specs.Record.{settings}
use Rattle.axis.specs.Record.{axis, with_warnings, moving, is_homing}
use Rattle.axis.specs.RaisedWarnings.{is_warning, raised, without_fd}

-- the report of a kind from 1 to 5, with its last number
unfoldable pub report_of : Number → Number → Report
report_of kind n =
    get_or
    (Unknown ∷ MovingAt (position n.0) ∷ StoppedAt (position n.0) ∷ HomeReached (position n.0) ∷ Raised n ∷ DriverNormal ∷ [])
    (place kind.0) Unknown

-- the axis at p, in the motion m, with a reference or none
abbrev pub placed : Position → Motion → Bool → Axis → Axis
placed p m r a =
    let s = a.settings in
    axis (settings p s.limit s.maxspeed s.accel s.current s.dir s.index) m r a.warnings a.stored

-- BADREPORT: "kind, place (kind 4) or p (kinds 1 to 3, beyond ±1000000000) bad; kinds 1, 2 on an idle axis; 3 unless homing"
abbrev pub takes : Report → Axis → Bool
takes (MovingAt p) a = within bound p.0 && moving a
takes (StoppedAt p) a = within bound p.0 && moving a
takes (HomeReached p) a = within bound p.0 && is_homing a.motion
takes (Raised n) a = is_warning n
takes DriverNormal a = true
takes Unknown a = false

-- "2 and 3 make the axis idle"
abbrev pub rests : Report → Bool
rests (MovingAt p) = false
rests (StoppedAt p) = true
rests (HomeReached p) = true
rests (Raised n) = false
rests DriverNormal = false
rests Unknown = false

abbrev pub reported : Report → Axis → Axis
reported (MovingAt p) a = placed p a.motion a.reference a
reported (StoppedAt p) a = placed p Idle a.reference a
reported (HomeReached p) a = placed p Idle true a
reported (Raised n) a = raised n a
reported DriverNormal a = with_warnings (without_fd a.warnings) a
reported Unknown a = a
