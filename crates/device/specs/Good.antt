-- When a device record is good, and the fresh record where it may be asked for.
-- BADSTATE, 21: "record not good; fresh record asked out of range"
use Rattle.std.specs.Prelude.{Bool, cond, not, ◌&&◌, ℕ, pos as plus, Err}
use Rattle.laws.specs.Lists.{all, any}
use Rattle.laws.specs.declared.Refusal.TheVariants.{BadState}
use Rattle.laws.specs.Refusals.{ACCEPTED}
use Rattle.units.specs.Units.{number}
use Rattle.command.specs.Settings.{device_settings}
use Rattle.settings.specs.Types.{Number, DeviceSetting, CommAddress, DeviceId, SystemAxisCount}
use Rattle.settings.specs.Settings.{device_allows}
use Rattle.axis.specs.Record.{moving}
use Rattle.axis.specs.Good.{good_axis}
use Rattle.device.specs.declared.Device.{Device}
use Rattle.device.specs.declared.Outcome.{Outcome}
use Rattle.device.specs.Record.{value, axes_of, fresh}

abbrev pub in_range : Device → DeviceSetting → Bool
in_range d s = device_allows s (value s d)

-- "A record is good if, for the device and the axes up to the count, all settings are in range, ...
-- and no axis is in motion on a parked device."
unfoldable pub good : Device → Bool
good d = all (in_range d) device_settings && (all good_axis (axes_of d 0) && not (d.parked && any moving (axes_of d 0)))

-- "A fresh record is asked for with address, axis count and device id"
unfoldable pub may_be_fresh : Number → ℕ → Number → Bool
may_be_fresh address count id =
    device_allows CommAddress address && (device_allows SystemAxisCount (number (plus count)) && device_allows DeviceId id)

-- the record beside the 21 is of no account: it is always the same
unfoldable pub ask_fresh : Number → ℕ → Number → Outcome
ask_fresh address count id =
    cond (may_be_fresh address count id)
    (record { verdict = ACCEPTED; next = fresh address count id })
    (record { verdict = Err BadState; next = fresh (number (plus 1)) 1 (number (plus 0)) })
