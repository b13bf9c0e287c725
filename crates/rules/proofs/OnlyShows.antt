-- A command that only shows does not meet 11, and the next record is the record: so the axes need not be walked for it.
-- Assumes that it is one of those commands.
use mathlib.Core.Path.{◌≡◌, refl, ap}
use mathlib.Core.Bool.{true, false, not}
use mathlib.Core.List.{List}
use Prim.Native.Nat.{ℕ, ◌-◌}
use Rattle.laws.proofs.Bools.{clash}
use Rattle.laws.proofs.Walks.{all_alike, change_same}
use Rattle.command.specs.declared.DeviceCommand.{DeviceCommand}
use Rattle.command.specs.declared.DeviceCommand.TheVariants.{Get, Set, ParkingState, Park, Unpark, Echo, Help}
use Rattle.command.specs.declared.Command.{Command}
use Rattle.command.specs.declared.Command.TheVariants.{OfAxes, OfDevice}
use Rattle.command.specs.Commands.{demands}
use Rattle.axis.specs.declared.Axis.{Axis}
use Rattle.axis.specs.Record.{fresh_axis}
use Rattle.axis.specs.Commands.{permits, axis_after}
use Rattle.axis.proofs.OnlyShows.{only_shows}
use Rattle.device.specs.declared.Device.{Device}
use Rattle.device.specs.Record.{with_axes, many, axes_of, on_axes}
use Rattle.rules.specs.Refusals.{device_takes, bad_data}
use Rattle.rules.specs.Effects.{device_after, next}

device_shows : (c : DeviceCommand) → (demands (OfDevice c)).shows ≡ true → (d : Device) → (device_takes c ≡ true) × (device_after c d ≡ d)
device_shows (Get s) h d = (refl, refl)
device_shows (Set s n) h d = clash h refl
device_shows ParkingState h d = (refl, refl)
device_shows Park h d = clash h refl
device_shows Unpark h d = clash h refl
device_shows Echo h d = (refl, refl)
device_shows Help h d = (refl, refl)

pub shows_permitted : (d : Device) (k : ℕ) (c : Command) → (demands c).shows ≡ true → bad_data d k c ≡ false
unfolding bad_data
shows_permitted d k (OfAxes c) h = ap not (all_alike (permits c) (λ a. (only_shows c h a).0) (axes_of d k))
shows_permitted d k (OfDevice c) h = ap not (device_shows c h d).0

pub shows_same : (d : Device) (k : ℕ) (c : Command) → (demands c).shows ≡ true → next d k c ≡ d
unfolding next on_axes
shows_same d k (OfAxes c) h =
    rw (only_shows c h fresh_axis).2
    (ap (λ (l : List Axis). with_axes l d) (change_same (axis_after c) (λ a. (only_shows c h a).1) (k - 1) (many d k) d.axes))
shows_same d k (OfDevice c) h = (device_shows c h d).1
