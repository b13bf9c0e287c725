-- A command that only shows is permitted by every axis, leaves each as it is, and does not unpark.
-- Assumes that it is one of those commands.
use mathlib.Core.Path.{◌≡◌, refl, ap}
use mathlib.Core.Bool.{true, false}
use Rattle.laws.proofs.Bools.{clash}
use Rattle.command.specs.declared.AxisCommand.{AxisCommand}
use Rattle.command.specs.declared.AxisCommand.TheVariants.{Nothing, Home, Stop, Estop, MoveTo, MoveVel, Get, Set, Storepos, StoreposAt, StoreposCurrent, Warnings, WarningsClear}
use Rattle.command.specs.declared.Command.TheVariants.{OfAxes}
use Rattle.command.specs.Commands.{demands}
use Rattle.axis.specs.declared.Axis.{Axis}
use Rattle.axis.specs.Commands.{permits, axis_after, unparks}
use Rattle.axis.proofs.MoveDemands.{move_demands}

pub only_shows : (c : AxisCommand) → (demands (OfAxes c)).shows ≡ true → (a : Axis)
    → (permits c a ≡ true) × (axis_after c a ≡ a) × (unparks c ≡ false)
only_shows Nothing h a = (refl, refl, refl)
only_shows Home h a = clash h refl
only_shows Stop h a = clash h refl
only_shows Estop h a = clash h refl
only_shows (MoveTo t) h a = clash h (ap (λ q. q.shows) (move_demands t))
only_shows (MoveVel v) h a = clash h refl
only_shows (Get s) h a = (refl, refl, refl)
only_shows (Set s n) h a = clash h refl
only_shows (Storepos n) h a = clash h refl
only_shows (StoreposAt n p) h a = clash h refl
only_shows (StoreposCurrent n) h a = clash h refl
only_shows Warnings h a = (refl, refl, refl)
only_shows WarningsClear h a = clash h refl
