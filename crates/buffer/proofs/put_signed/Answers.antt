-- The sign where there is one, and then the distance from 0.
use mathlib.Core.Path.{sym, ◌∙◌}
use Rattle.laws.specs.Text.{text}
use Rattle.buffer.proofs.Decimals.{decimal_below, decimal_above}
use Rattle.buffer.proofs.Wrote.{◌▸◌}
use Rattle.buffer.proofs.put_signed.Goals as goal

pub returns-then-negative : goal.returns-then-negative
unfolding text
returns-then-negative c =
    rw (decimal_below _ (sym c.negative.ensures ∙ c.if-negative.true), ← c.magnitude-n.ensures)
    (c.put_byte-next.ensures ▸ c.put_number.ensures)

pub returns-else-negative : goal.returns-else-negative
returns-else-negative c =
    rw (decimal_above _ (sym c.negative.ensures ∙ c.if-negative.false), ← c.magnitude-n.ensures) c.put_number-else-negative.ensures
