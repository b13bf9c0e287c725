-- What each command does: the next record, and with the refusal the outcome.
-- "10 to 16 ... change no record. Accepted is 0."
use Rattle.std.specs.Prelude.{true, false, cond, not, ◌&&◌, ℕ, is_ok}
use Rattle.command.specs.declared.DeviceCommand.{DeviceCommand}
use Rattle.command.specs.declared.DeviceCommand.TheVariants.{Get, Set, ParkingState, Park, Unpark, Echo, Help}
use Rattle.command.specs.declared.Command.{Command}
use Rattle.command.specs.declared.Command.TheVariants.{OfAxes, OfDevice}
use Rattle.axis.specs.Commands.{axis_after, unparks}
use Rattle.device.specs.declared.Device.{Device}
use Rattle.device.specs.declared.Outcome.{Outcome}
use Rattle.device.specs.Record.{put, with_parked, on_axes}
use Rattle.rules.specs.Refusals.{refusal}

-- the device itself: "unpark succeeds whether parked or not"
abbrev pub device_after : DeviceCommand → Device → Device
device_after (Get s) d = d
device_after (Set s n) d = put s n d
device_after ParkingState d = d
device_after Park d = with_parked true d
device_after Unpark d = with_parked false d
device_after Echo d = d
device_after Help d = d

-- the next record: each axis that the number k means is changed, and a parked device stays so unless the command unparks; or the
-- device is changed
unfoldable pub next : Device → ℕ → Command → Device
next d k (OfAxes c) = on_axes (axis_after c) k (with_parked (not (unparks c) && d.parked) d)
next d k (OfDevice c) = device_after c d

unfoldable pub obey : Device → ℕ → Command → Outcome
obey d k c = record { verdict = refusal d k c; next = cond (is_ok (refusal d k c)) (next d k c) d }
