-- The limits of travel: where each move would end, and whether the axis may make it.
-- Nothing is ever brought into the limits: what may not be done is refused.
use Rattle.std.specs.Prelude.{Bool, true, cond, ◌&&◌, ◌-◌, leb, ℤ, pos as plus, neg_ℤ, ◌+ℤ◌, get_or}
use Rattle.units.specs.Units.{position, place, ◌to◌, within}
use Rattle.settings.specs.Types.{Position, Speed, Number, Target, Abs, Rel, Min, Max, Stored}
use Rattle.axis.specs.declared.Axis.{Axis}
use Rattle.axis.specs.Record.{stored_positions}

abbrev pub limit_min : Axis → ℤ
limit_min a = a.settings.limit.min.0

abbrev pub limit_max : Axis → ℤ
limit_max a = a.settings.limit.max.0

abbrev pub max_speed : Axis → ℤ
max_speed a = a.settings.maxspeed.0

-- "storepos: number 1 to 16"
abbrev pub is_place : Number → Bool
is_place n = leb 1 (place n.0) && leb (place n.0) stored_positions

-- the position stored under a number from 1 to 16, and 0 under any other
unfoldable pub stored : Number → Axis → Position
stored n a = cond (is_place n) (get_or a.stored (place n.0 - 1) (position (plus 0))) (position (plus 0))

-- "move abs: target N. rel: pos plus N. min, max: that limit. stored: that position." The sum is of whole numbers.
abbrev pub target : Target → Axis → ℤ
target (Abs p) a = p.0
target (Rel p) a = a.settings.pos.0 +ℤ p.0
target Min a = limit_min a
target Max a = limit_max a
target (Stored n) a = (stored n a).0

-- there is no stored position but those of 1 to 16
abbrev pub exists : Target → Bool
exists (Abs p) = true
exists (Rel p) = true
exists Min = true
exists Max = true
exists (Stored n) = is_place n

-- "between the limits, ends included"
abbrev pub between : Axis → ℤ → Bool
between a z = within (limit_min a to limit_max a) z

-- "The target must lie between the limits, ends included, and the axis must have a reference."
unfoldable pub may_move_to : Target → Axis → Bool
may_move_to t a = exists t && (a.reference && between a (target t a))

-- "move vel: N from -maxspeed to maxspeed; no reference needed."
unfoldable pub may_run_at : Speed → Axis → Bool
may_run_at v a = within (neg_ℤ (max_speed a) to max_speed a) v.0

-- "storepos: number 1 to 16; what is stored must lie between the limits"
unfoldable pub may_store : Number → Position → Axis → Bool
may_store n p a = is_place n && between a p.0
