-- The types of units, settings and targets by short names, with the cases of the enums.
-- The files of this crate and of those above it bring them in from here, on one line.
pub use Rattle.units.specs.declared.Position.{Position}
pub use Rattle.units.specs.declared.Speed.{Speed}
pub use Rattle.units.specs.declared.Number.{Number}
pub use Rattle.units.specs.declared.Range.{Range}
pub use Rattle.command.specs.declared.AxisSetting.{AxisSetting}
pub use Rattle.command.specs.declared.AxisSetting.TheVariants.{Pos, LimitMin, LimitMax, MaxSpeed, Accel, DriverCurrentMax, DriverCurrentRun, DriverCurrentHold, DriverDir, EncoderIndexCount}
pub use Rattle.command.specs.declared.DeviceSetting.{DeviceSetting}
pub use Rattle.command.specs.declared.DeviceSetting.TheVariants.{CommAddress, CommAlert, CommChecksum, SystemAccess, DeviceId, SystemAxisCount}
pub use Rattle.command.specs.declared.Target.{Target}
pub use Rattle.command.specs.declared.Target.TheVariants.{Abs, Rel, Min, Max, Stored}
