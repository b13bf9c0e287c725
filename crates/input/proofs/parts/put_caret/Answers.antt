-- So many spaces are written, one behind the other, and the caret behind them.
use native.Mathlib.Omega.{arith}
use Rattle.laws.specs.Text.{text}
use Rattle.buffer.proofs.Wrote.{wrote_none}
use Rattle.input.proofs.Prints.{caret_none, caret_more, caret_end}
use Rattle.input.proofs.parts.put_caret.Goals as goal

pub returns-then-place-eq-NOWHERE : goal.returns-then-place-eq-NOWHERE
returns-then-place-eq-NOWHERE c = caret_none _ c.if-place-eq-NOWHERE.true

pub loop-init : goal.loop-init
loop-init c = wrote_none _ _

pub loop-preserved : goal.loop-preserved
loop-preserved c = caret_more c.loop.counter c.loop.invariant c.put_byte-next.ensures

pub returns : goal.returns
unfolding text
returns c =
    caret_end c.args.place c.loop.counter c.if-place-eq-NOWHERE.false (omega arith) c.loop.invariant c.put_text.ensures
