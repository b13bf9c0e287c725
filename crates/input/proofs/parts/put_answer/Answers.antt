-- `input::parts::put_answer` meets its contract: the first bytes of the reply's buffer, or the silence.
use native.Mathlib.Omega.{arith}
use lib.ListN.{length-take}
use Rattle.laws.specs.Text.{text}
use Rattle.input.proofs.Prints.{answer_silent, answer_reply}
use Rattle.input.proofs.parts.put_answer.Goals as goal

pub slice_bounds-put_text-end : goal.slice_bounds-put_text-end
slice_bounds-put_text-end c = simp length-take (omega (arith, c.min.ensures))

pub returns-then-long-eq0 : goal.returns-then-long-eq0
unfolding text
returns-then-long-eq0 c = answer_silent _ _ _ c.if-long-eq0.true c.put_told.ensures

pub returns-else-long-eq0 : goal.returns-else-long-eq0
returns-else-long-eq0 c =
    answer_reply _ _ _ c.if-long-eq0.false c.min.ensures c.put_text.ensures
