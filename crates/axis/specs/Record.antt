-- The record of one axis: made anew from its fields, with one of them changed, its motion, and the fresh one.
-- Nothing here says what is right or wrong.
use Rattle.std.specs.Prelude.{Bool, true, false, cond, List, ℕ, pos as plus, replicate}
use Rattle.units.specs.Units.{position}
use Rattle.settings.specs.Record.{fresh_settings}
use Rattle.settings.specs.Types.{Position}
use Rattle.settings.specs.declared.Settings.{Settings}
use Rattle.axis.specs.declared.Motion.{Motion}
use Rattle.axis.specs.declared.Motion.TheVariants.{Idle, Homing, To, At, Stopping}
use Rattle.axis.specs.declared.Axis.{Axis}

-- the records, made anew from their fields
abbrev pub axis : Settings → Motion → Bool → ℕ → List Position → Axis
axis s m r w p = record { settings = s; motion = m; reference = r; warnings = w; stored = p }

-- the records with one field changed
abbrev pub with_settings : Settings → Axis → Axis
with_settings s a = axis s a.motion a.reference a.warnings a.stored

abbrev pub with_motion : Motion → Axis → Axis
with_motion m a = axis a.settings m a.reference a.warnings a.stored

abbrev pub with_warnings : ℕ → Axis → Axis
with_warnings w a = axis a.settings a.motion a.reference w a.stored

abbrev pub with_stored : List Position → Axis → Axis
with_stored p a = axis a.settings a.motion a.reference a.warnings p

-- "its motion (idle, homing, to a position, at a speed, stopping)": all but idle are in motion
abbrev pub in_motion : Motion → Bool
in_motion Idle = false
in_motion Homing = true
in_motion (To p) = true
in_motion (At v) = true
in_motion Stopping = true

abbrev pub is_homing : Motion → Bool
is_homing Idle = false
is_homing Homing = true
is_homing (To p) = false
is_homing (At v) = false
is_homing Stopping = false

abbrev pub moving : Axis → Bool
moving a = in_motion a.motion

-- "stop: a moving axis is stopping, an idle one stays idle"
unfoldable pub stopped : Axis → Axis
stopped a = cond (moving a) (with_motion Stopping a) a

-- "each axis sixteen stored positions"
abbrev pub stored_positions : ℕ
stored_positions = 16

-- "each axis place idle, no reference, ... all else 0, no warnings"
unfoldable pub fresh_axis : Axis
fresh_axis = axis fresh_settings Idle false 0 (replicate stored_positions (position (plus 0)))
