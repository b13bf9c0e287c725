-- `numbers::reading::read_number` meets its contract: by the first byte, and what stands behind a sign.
use mathlib.Core.Path.{sym, ap, ◌∙◌}
use Rattle.numbers.specs.Reading.{above, below}
use Rattle.numbers.proofs.Scan.{unsigned_most}
use Rattle.numbers.proofs.Answers.{read_none, read_minus, read_plus, read_bare}
use Rattle.numbers.proofs.reading.read_number.Goals as goal

pub returns-then-w-eq0 : goal.returns-then-w-eq0
returns-then-w-eq0 c = read_none _ c.if-w-eq0.true

pub number_below-requires : goal.number_below-requires
number_below-requires c = rw c.unsigned.ensures (unsigned_most _ _ _)

pub returns-then-w-eq45 : goal.returns-then-w-eq45
returns-then-w-eq45 c = c.number_below.ensures ∙ ap below c.unsigned.ensures ∙ sym (read_minus _ c.if-w-eq45.true)

pub number_above-requires : goal.number_above-requires
number_above-requires c = rw c.unsigned-then-w-eq43.ensures (unsigned_most _ _ _)

pub returns-then-w-eq43 : goal.returns-then-w-eq43
returns-then-w-eq43 c = c.number_above.ensures ∙ ap above c.unsigned-then-w-eq43.ensures ∙ sym (read_plus _ c.if-w-eq43.true)

pub number_above-requires-2 : goal.number_above-requires-2
number_above-requires-2 c = rw c.unsigned-2.ensures (unsigned_most _ _ _)

pub returns : goal.returns
returns c =
    c.number_above-2.ensures ∙ ap above c.unsigned-2.ensures ∙ sym (read_bare _ (search) (search) (search))
