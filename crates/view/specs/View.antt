-- What a reply shows of a record: status, highest warning, and the values of the axes that a number means.
-- "A reply describes the record after the command."
use Rattle.std.specs.Prelude.{Bool, cond, List, map, ℕ, leb, get_or}
use Rattle.laws.specs.Lists.{any}
use Rattle.units.specs.Units.{number, place}
use Rattle.units.specs.declared.Number.{Number}
use Rattle.flags.specs.Flags.{mask, union}
use Rattle.settings.specs.Settings.{value}
use Rattle.axis.specs.declared.Axis.{Axis}
use Rattle.axis.specs.Record.{moving, fresh_axis}
use Rattle.axis.specs.Travel.{stored}
use Rattle.axis.specs.Warnings.{active}
use Rattle.device.specs.declared.Device.{Device}
use Rattle.device.specs.Each.{stretch_of}
use Rattle.device.specs.Record.{many, axes_of}
use Rattle.reply.specs.declared.Head.{Head}
use Rattle.reply.specs.declared.told.Listed.{Listed}
use Rattle.view.specs.declared.Value.{Value}
use Rattle.view.specs.declared.Value.TheVariants.{Of, Stored, Pos}

-- "axis 0 takes the union over all axes"
unfoldable pub warnings_of : Device → ℕ → ℕ
warnings_of d k = mask (union active (axes_of d k))

-- "Its axis is the one sent, or 0 if that exceeds the axis count."
unfoldable pub shown_axis : Device → ℕ → ℕ
shown_axis d k = cond (leb k d.count) k 0

-- "For axis 0 BUSY means some axis moves."
unfoldable pub busy : Device → ℕ → Bool
busy d k = any moving (axes_of d k)

-- what stands before the data, of the record d and the axis k that was sent
unfoldable pub head_of : Device → ℕ → Bool → Head
head_of d k ok = let s = shown_axis d k in record {
  address =
      place d.comm.address.0;
  axis = s;
  ok = ok;
  busy = busy d s;
  warnings = warnings_of d s;
}

-- what is listed of an axis: a setting, a stored position, or its position
abbrev pub value_in : Value → Axis → Number
value_in (Of s) a = value s a.settings
value_in (Stored n) a = number (stored n a).0
value_in Pos a = number a.settings.pos.0

-- "Values for axis 0 are listed from axis 1"
unfoldable pub values_of : Value → Device → ℕ → List Number
values_of v d k = map (value_in v) (axes_of d k)

-- those values as they are told: of all four places, and which of them the number k means
unfoldable pub listed_for : Value → Device → ℕ → Listed
listed_for v d k = let p = stretch_of (many d k) k in record { from = p.from; many = p.many; values = map (value_in v) d.axes }
