-- The device record: made anew from its fields, its settings, the axes that a number means, and the fresh record.
-- "One device record holds four axis places"
use Rattle.std.specs.Prelude.{Bool, false, cond, List, ℕ, ◌-◌, eqb, pos as plus, take, drop, replicate}
use Rattle.laws.specs.Lists.{change_from}
use Rattle.units.specs.Units.{number}
use Rattle.axis.specs.Record.{fresh_axis}
use Rattle.settings.specs.Types.{Number, DeviceSetting, CommAddress, CommAlert, CommChecksum, SystemAccess, DeviceId, SystemAxisCount}
use Rattle.axis.specs.declared.Axis.{Axis}
use Rattle.device.specs.declared.Comm.{Comm}
use Rattle.device.specs.declared.Device.{Device}

-- the records, made anew from their fields
abbrev pub comm : Number → Number → Number → Comm
comm a l s = record { address = a; alert = l; checksum = s }

abbrev pub device : Comm → Number → Number → ℕ → Bool → List Axis → Device
device c a i n p x = record { comm = c; access = a; id = i; count = n; parked = p; axes = x }

abbrev pub with_axes : List Axis → Device → Device
with_axes x d = device d.comm d.access d.id d.count d.parked x

abbrev pub with_parked : Bool → Device → Device
with_parked p d = device d.comm d.access d.id d.count p d.axes

-- the value that the device has
abbrev pub value : DeviceSetting → Device → Number
value CommAddress d = d.comm.address
value CommAlert d = d.comm.alert
value CommChecksum d = d.comm.checksum
value SystemAccess d = d.access
value DeviceId d = d.id
value SystemAxisCount d = number (plus d.count)

-- the device with one of its settings set to n; what is read only stays
abbrev pub put : DeviceSetting → Number → Device → Device
put CommAddress n d = device (comm n d.comm.alert d.comm.checksum) d.access d.id d.count d.parked d.axes
put CommAlert n d = device (comm d.comm.address n d.comm.checksum) d.access d.id d.count d.parked d.axes
put CommChecksum n d = device (comm d.comm.address d.comm.alert n) d.access d.id d.count d.parked d.axes
put SystemAccess n d = device d.comm n d.id d.count d.parked d.axes
put DeviceId n d = d
put SystemAxisCount n d = d

-- "Axis 0 means all axes", up to the count
unfoldable pub many : Device → ℕ → ℕ
many d k = cond (eqb k 0) d.count 1

unfoldable pub axes_of : Device → ℕ → List Axis
axes_of d k = take (many d k) (drop (k - 1) d.axes)

-- the device with those axes changed, each by g, and all other places as they are
unfoldable pub on_axes : (Axis → Axis) → ℕ → Device → Device
on_axes g k d = with_axes (change_from g (k - 1) (many d k) d.axes) d

-- "alert 0"; 02, order 1: "A fresh record now has comm.checksum 1"
abbrev pub fresh_comm : Number → Comm
fresh_comm address = comm address (number (plus 0)) (number (plus 1))

-- "not parked", "access 1"
unfoldable pub fresh : Number → ℕ → Number → Device
fresh address count id = device (fresh_comm address) (number (plus 1)) id count false (replicate 4 fresh_axis)
