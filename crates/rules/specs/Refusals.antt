-- The table of refusals from 10 on: which of them a command meets first.
-- Each check runs over every axis that the command concerns before the next check.
use Rattle.std.specs.Prelude.{Bool, true, false, not, ◌&&◌, List, [], ◌∷◌, ◌++◌, ℕ, eqb, ltb}
use Rattle.laws.specs.Lists.{all, any}
use Rattle.laws.specs.declared.Refusal.TheVariants.{BadCommand, BadData, BadAxis, DeviceOnly, NoAccess, Parked, StatusBusy}
use Rattle.laws.specs.Refusals.{Row, ◌when◌, first_of, Verdict}
use Rattle.units.specs.Units.{place}
use Rattle.command.specs.declared.DeviceCommand.{DeviceCommand}
use Rattle.command.specs.declared.DeviceCommand.TheVariants.{Get, Set, ParkingState, Park, Unpark, Echo, Help}
use Rattle.command.specs.declared.Command.{Command}
use Rattle.command.specs.declared.Command.TheVariants.{OfAxes, OfDevice}
use Rattle.command.specs.declared.kinds.Demands.{Demands}
use Rattle.command.specs.Commands.{demands}
use Rattle.settings.specs.Settings.{device_allows}
use Rattle.axis.specs.Record.{moving}
use Rattle.axis.specs.Commands.{permits}
use Rattle.device.specs.declared.Device.{Device}
use Rattle.device.specs.Record.{axes_of}
use Rattle.rules.specs.declared.refusals.Ruled.{Ruled}

-- "axis above the count"
unfoldable pub bad_axis : Device → ℕ → Bool
bad_axis d k = ltb d.count k

-- "axis not 0, device scope"
unfoldable pub device_only : ℕ → Command → Bool
device_only k (OfAxes c) = false
device_only k (OfDevice c) = not (eqb k 0)

-- "access too low"
unfoldable pub no_access : Device → Demands → Bool
no_access d x = ltb (place d.access.0) x.access

-- "On a parked device home, move, stop and estop are rejected." 02, order 4: "PARKED no longer given for home."
unfoldable pub parked : Device → Demands → Bool
parked d x = d.parked && x.unparked

-- "set of pos, limit.min, limit.max or driver.dir on a moving axis, and park with an axis moving"
unfoldable pub status_busy : Device → ℕ → Demands → Bool
status_busy d k x = x.rest && any moving (axes_of d k)

-- the ranges of a device's settings are asked of the device, not of each of its axes
abbrev pub device_takes : DeviceCommand → Bool
device_takes (Get s) = true
device_takes (Set s n) = device_allows s n
device_takes ParkingState = true
device_takes Park = true
device_takes Unpark = true
device_takes Echo = true
device_takes Help = true

-- "value, target, reference or range"; "an all-axes command is accepted only if each axis permits it"
unfoldable pub bad_data : Device → ℕ → Command → Bool
bad_data d k (OfAxes c) = not (all (permits c) (axes_of d k))
bad_data d k (OfDevice c) = not (device_takes c)

-- the table, where x is what the command demands: its rows above the last, and then all of it. BADCOMMAND here is "set of a
-- read-only setting", which the line reader never gives: a device that is given one refuses it too.
abbrev pub standing_rows : Device → ℕ → Command → Demands → List Row
standing_rows d k c x =
    BadCommand when x.barred
    ∷ BadAxis when bad_axis d k
    ∷ DeviceOnly when device_only k c
    ∷ NoAccess when no_access d x
    ∷ Parked when parked d x
    ∷ StatusBusy when status_busy d k x
    ∷ []

abbrev pub rows : Device → ℕ → Command → Demands → List Row
rows d k c x = standing_rows d k c x ++ (BadData when bad_data d k c ∷ [])

-- "Checks run in the table's order and the first that applies wins."
unfoldable pub refusal : Device → ℕ → Command → Verdict
refusal d k c = first_of (rows d k c (demands c))

-- the refusal, and beside it what the command demands
abbrev pub ruled : Device → ℕ → Command → Ruled
ruled d k c = record { verdict = refusal d k c; demands = demands c }
