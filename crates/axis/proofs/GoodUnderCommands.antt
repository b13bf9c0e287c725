-- A good axis stays good under every command that it permits, and an axis at rest stays so where the device stays parked.
-- Assumes nothing.
use mathlib.Core.Path.{◌≡◌, refl, ap}
use mathlib.Core.Bool.{Bool, true, false, cond}
use Prim.Native.Nat.{◌-◌}
use lib.ListN.{set}
use Rattle.laws.proofs.Bools.{clash}
use Rattle.units.specs.Units.{place}
use Rattle.command.specs.declared.AxisCommand.{AxisCommand}
use Rattle.command.specs.declared.AxisCommand.TheVariants.{Nothing, Home, Stop, Estop, MoveTo, MoveVel, Get, Set, Storepos, StoreposAt, StoreposCurrent, Warnings, WarningsClear}
use Rattle.command.specs.declared.Command.TheVariants.{OfAxes}
use Rattle.command.specs.Commands.{demands}
use Rattle.axis.specs.Good.{good_axis}
use Rattle.axis.specs.Record.{moving, with_stored}
use Rattle.axis.specs.Travel.{is_place}
use Rattle.axis.specs.Moves.{store}
use Rattle.axis.proofs.GoodStays.{settings_good, with_motion_lem, with_settings_lem, with_warnings_lem, moved_good, run_good, store_good, stopped_good}
use Rattle.settings.specs.Settings.{put}
use Rattle.settings.proofs.GoodStays.{put_good}
use Rattle.settings.specs.Types.{Position, Number}
use Rattle.axis.specs.declared.Motion.TheVariants.{Idle, Homing}
use Rattle.axis.specs.declared.Axis.{Axis}
use Rattle.axis.specs.Commands.{permits, axis_after, unparks}
use Rattle.axis.proofs.MoveDemands.{move_demands}

pub after_good : (c : AxisCommand) (a : Axis) → permits c a ≡ true → good_axis a ≡ true → good_axis (axis_after c a) ≡ true
after_good Nothing a h good = good
after_good Home a h good = with_motion_lem a good Homing refl
after_good Stop a h good = stopped_good a good
after_good Estop a h good = with_motion_lem a good Idle refl
after_good (MoveTo t) a h good = moved_good a good t
after_good (MoveVel v) a h good = run_good a good v h
after_good (Get s) a h good = good
after_good (Set s n) a h good = with_settings_lem a good (put s n a.settings) (put_good n a.settings (settings_good a good) s h)
after_good (Storepos n) a h good = good
after_good (StoreposAt n p) a h good = store_good a good n p h
after_good (StoreposCurrent n) a h good = store_good a good n a.settings.pos h
after_good Warnings a h good = good
after_good WarningsClear a h good = with_warnings_lem a good _

-- the commands that a parked device takes and that leave it parked set no axis in motion
choose : (b : Bool) (x y : Axis) → moving x ≡ false → moving y ≡ false → moving (cond b x y) ≡ false
choose true x y h k = h
choose false x y h k = k

store_still : (n : Number) (p : Position) (a : Axis) → moving a ≡ false → moving (store n p a) ≡ false
unfolding store
store_still n p a r = choose (is_place n) (with_stored (set a.stored (place n.0 - 1) p) a) a r r

pub after_still : (c : AxisCommand) → unparks c ≡ false → (demands (OfAxes c)).unparked ≡ false
    → (a : Axis) → moving a ≡ false → moving (axis_after c a) ≡ false
after_still Nothing h u a r = r
after_still Home h u a r = clash refl h
after_still Stop h u a r = clash refl u
after_still Estop h u a r = clash refl u
after_still (MoveTo t) h u a r = clash (ap (λ q. q.unparked) (move_demands t)) u
after_still (MoveVel v) h u a r = clash refl u
after_still (Get s) h u a r = r
after_still (Set s n) h u a r = r
after_still (Storepos n) h u a r = r
after_still (StoreposAt n p) h u a r = store_still n p a r
after_still (StoreposCurrent n) h u a r = store_still n a.settings.pos a r
after_still Warnings h u a r = r
after_still WarningsClear h u a r = r
