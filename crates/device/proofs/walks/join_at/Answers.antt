-- The flags of the axis, or none, joined to the mask.
use mathlib.Core.Path.{sym, ◌∙◌}
use Rattle.flags.proofs.Unions.{bits_active}
use Rattle.device.proofs.walks.join_at.Goals as goal

pub returns-then-covers : goal.returns-then-covers
returns-then-covers c =
    rw (c.union.ensures, c.active.ensures, bits_active, sym c.covers.ensures ∙ c.if-covers.true)

pub returns-else-covers : goal.returns-else-covers
returns-else-covers c = rw (c.union-else-covers.ensures, sym c.covers.ensures ∙ c.if-covers.false)
