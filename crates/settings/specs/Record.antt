-- The settings of an axis as a record: made anew from its fields, and the fresh one.
-- Nothing here says what is right or wrong.
use Rattle.std.specs.Prelude.{pos as plus}
use Rattle.units.specs.Units.{position, speed, number}
use Rattle.settings.specs.Types.{Position, Speed, Number}
use Rattle.settings.specs.declared.Limit.{Limit}
use Rattle.settings.specs.declared.Current.{Current}
use Rattle.settings.specs.declared.Settings.{Settings}

abbrev pub limit : Position → Position → Limit
limit l h = record { min = l; max = h }

abbrev pub current : Number → Number → Number → Current
current m r h = record { max = m; run = r; hold = h }

abbrev pub settings : Position → Limit → Speed → Number → Current → Number → Number → Settings
settings p l v a c d i = record { pos = p; limit = l; maxspeed = v; accel = a; current = c; dir = d; index = i }

-- "currents 140 (max), 100 (run), 60 (hold)"
abbrev pub fresh_current : Current
fresh_current = current (number (plus 140)) (number (plus 100)) (number (plus 60))

-- "pos 0, limits 0 and 305381, maxspeed 153600, accel 205, currents 140 (max), 100 (run), 60 (hold), all else 0"
unfoldable pub fresh_settings : Settings
fresh_settings =
    settings (position (plus 0)) (limit (position (plus 0)) (position (plus 305381))) (speed (plus 153600)) (number (plus 205))
    fresh_current (number (plus 0)) (number (plus 0))
