-- Document 01's table of settings: what each is called, who may read and write it, and when it may be written.
-- Its range depends on the record, and is said in the crates that have one.
use Rattle.std.specs.Prelude.{Bool, true, false, List, [], ◌∷◌, ℕ}
use Prim.Native.String.{String}
use Rattle.laws.specs.Text.{text}
use Rattle.command.specs.declared.AxisSetting.{AxisSetting}
use Rattle.command.specs.declared.AxisSetting.TheVariants.{Pos, LimitMin, LimitMax, MaxSpeed, Accel, DriverCurrentMax, DriverCurrentRun, DriverCurrentHold, DriverDir, EncoderIndexCount}
use Rattle.command.specs.declared.DeviceSetting.{DeviceSetting}
use Rattle.command.specs.declared.DeviceSetting.TheVariants.{CommAddress, CommAlert, CommChecksum, SystemAccess, DeviceId, SystemAxisCount}
use Rattle.command.specs.declared.Setting.{Setting}
use Rattle.command.specs.declared.access.Writing.{Writing}
use Rattle.command.specs.declared.access.Writing.TheVariants.{Always, AtRest, Never}
use Rattle.command.specs.declared.access.Access.{Access}
use Rattle.command.specs.declared.Setting.TheVariants.{OfAxis, OfDevice}

pub record About : Type 0 where
  pub name : List ℕ
  pub get : ℕ
  pub set : ℕ
  pub writing : Writing

-- name, access to get, access to set, writing.
-- Access is 1 where the table says nothing. AtRest: "set of pos, limit.min, limit.max or driver.dir on a moving axis" is STATUSBUSY.
abbrev row : String → ℕ → ℕ → Writing → About
row n g s w = record { name = text n; get = g; set = s; writing = w }

-- the settings with the scope "axis"
abbrev pub about_axis : AxisSetting → About
about_axis Pos = row "pos" 1 1 AtRest
about_axis LimitMin = row "limit.min" 1 1 AtRest
about_axis LimitMax = row "limit.max" 1 1 AtRest
about_axis MaxSpeed = row "maxspeed" 1 1 Always
about_axis Accel = row "accel" 1 1 Always
about_axis DriverCurrentMax = row "driver.current.max" 1 1 Never
about_axis DriverCurrentRun = row "driver.current.run" 1 1 Always
about_axis DriverCurrentHold = row "driver.current.hold" 1 1 Always
about_axis DriverDir = row "driver.dir" 2 2 AtRest
about_axis EncoderIndexCount = row "encoder.index.count" 1 2 Always

-- the settings with the scope "device"
abbrev pub about_device : DeviceSetting → About
about_device CommAddress = row "comm.address" 1 1 Always
about_device CommAlert = row "comm.alert" 1 1 Always
about_device CommChecksum = row "comm.checksum" 1 1 Always
about_device SystemAccess = row "system.access" 1 1 Always
about_device DeviceId = row "deviceid" 1 1 Never
about_device SystemAxisCount = row "system.axiscount" 1 1 Never

abbrev pub about : Setting → About
about (OfAxis s) = about_axis s
about (OfDevice s) = about_device s

-- what the code keeps of a setting: all but its name
abbrev pub access_of : About → Access
access_of a = record { get = a.get; set = a.set; writing = a.writing }

-- every setting, in the table's order
unfoldable pub axis_settings : List AxisSetting
axis_settings = Pos ∷ LimitMin ∷ LimitMax ∷ MaxSpeed ∷ Accel ∷ DriverCurrentMax ∷ DriverCurrentRun ∷ DriverCurrentHold ∷ DriverDir
    ∷ EncoderIndexCount ∷ []

unfoldable pub device_settings : List DeviceSetting
device_settings = CommAddress ∷ CommAlert ∷ CommChecksum ∷ SystemAccess ∷ DeviceId ∷ SystemAxisCount ∷ []

-- the questions that the rules ask of the table
unfoldable pub name_of : Setting → List ℕ
name_of s = (about s).name

abbrev is_never : Writing → Bool
is_never Always = false
is_never AtRest = false
is_never Never = true

abbrev is_at_rest : Writing → Bool
is_at_rest Always = false
is_at_rest AtRest = true
is_at_rest Never = false

abbrev pub read_only : Setting → Bool
read_only s = is_never (about s).writing

abbrev pub only_at_rest : Setting → Bool
only_at_rest s = is_at_rest (about s).writing
