-- Document 01's table of settings: each one's range, where an axis keeps it, and the axis's settings with another value.
-- Names, access and when a setting may be written are in the crate `command`.
use Rattle.std.specs.Prelude.{Bool, pos as plus}
use Rattle.units.specs.Units.{minus, position, speed, number, ◌to◌, within}
use Rattle.settings.specs.Types.{Number, Range, AxisSetting, Pos, LimitMin, LimitMax, MaxSpeed, Accel, DriverCurrentMax, DriverCurrentRun, DriverCurrentHold, DriverDir, EncoderIndexCount, DeviceSetting, CommAddress, CommAlert, CommChecksum, SystemAccess, DeviceId, SystemAxisCount}
use Rattle.settings.specs.declared.Settings.{Settings}
use Rattle.settings.specs.Record.{settings, limit, current}

-- a range's ends may be other settings of the axis: "min not above max", "0 to driver.current.max"
abbrev pub range : AxisSetting → Settings → Range
range Pos s = minus 1000000000 to plus 1000000000
range LimitMin s = minus 1000000000 to s.limit.max.0
range LimitMax s = s.limit.min.0 to plus 1000000000
range MaxSpeed s = plus 1 to plus 1000000000
range Accel s = plus 0 to plus 32767
range DriverCurrentMax s = plus 0 to plus 255
range DriverCurrentRun s = plus 0 to s.current.max.0
range DriverCurrentHold s = plus 0 to s.current.max.0
range DriverDir s = plus 0 to plus 1
range EncoderIndexCount s = minus 32768 to plus 32767

abbrev pub device_range : DeviceSetting → Range
device_range CommAddress = plus 1 to plus 99
device_range CommAlert = plus 0 to plus 1
device_range CommChecksum = plus 0 to plus 1
device_range SystemAccess = plus 1 to plus 2
device_range DeviceId = plus 0 to plus 2147483647
device_range SystemAxisCount = plus 1 to plus 4

-- the value that an axis has
abbrev pub value : AxisSetting → Settings → Number
value Pos s = number s.pos.0
value LimitMin s = number s.limit.min.0
value LimitMax s = number s.limit.max.0
value MaxSpeed s = number s.maxspeed.0
value Accel s = s.accel
value DriverCurrentMax s = s.current.max
value DriverCurrentRun s = s.current.run
value DriverCurrentHold s = s.current.hold
value DriverDir s = s.dir
value EncoderIndexCount s = s.index

-- whether n may be a setting's value: of an axis, and of the device
abbrev pub allows : AxisSetting → Number → Settings → Bool
allows x n s = within (range x s) n.0

abbrev pub device_allows : DeviceSetting → Number → Bool
device_allows s n = within (device_range s) n.0

abbrev pub in_range : Settings → AxisSetting → Bool
in_range s x = allows x (value x s) s

-- an axis's settings with one of them set to n; what is read only stays
abbrev pub put : AxisSetting → Number → Settings → Settings
put Pos n s = settings (position n.0) s.limit s.maxspeed s.accel s.current s.dir s.index
put LimitMin n s = settings s.pos (limit (position n.0) s.limit.max) s.maxspeed s.accel s.current s.dir s.index
put LimitMax n s = settings s.pos (limit s.limit.min (position n.0)) s.maxspeed s.accel s.current s.dir s.index
put MaxSpeed n s = settings s.pos s.limit (speed n.0) s.accel s.current s.dir s.index
put Accel n s = settings s.pos s.limit s.maxspeed n s.current s.dir s.index
put DriverCurrentMax n s = s
put DriverCurrentRun n s = settings s.pos s.limit s.maxspeed s.accel (current s.current.max n s.current.hold) s.dir
    s.index
put DriverCurrentHold n s = settings s.pos s.limit s.maxspeed s.accel (current s.current.max s.current.run n) s.dir
    s.index
put DriverDir n s = settings s.pos s.limit s.maxspeed s.accel s.current n s.index
put EncoderIndexCount n s = settings s.pos s.limit s.maxspeed s.accel s.current s.dir n
