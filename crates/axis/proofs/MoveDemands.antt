-- A move demands the same wherever it is to end.
-- Assumes nothing.
use mathlib.Core.Path.{◌≡◌, refl}
use Rattle.command.specs.declared.AxisCommand.TheVariants.{MoveTo}
use Rattle.command.specs.declared.Command.TheVariants.{OfAxes}
use Rattle.command.specs.Commands.{demands}
use Rattle.settings.specs.Types.{Target, Abs, Rel, Min, Max, Stored}

pub move_demands : (t : Target) → demands (OfAxes (MoveTo t)) ≡ demands (OfAxes (MoveTo Min))
move_demands (Abs p) = refl
move_demands (Rel p) = refl
move_demands Min = refl
move_demands Max = refl
move_demands (Stored n) = refl
