-- Each byte has its place.
use native.Mathlib.Omega.{arith}
use Rattle.buffer.proofs.Wrote.{wrote_next, wrote_length}
use Rattle.buffer.proofs.put_whole.Goals as goal

pub loop-i-preserved : goal.loop-i-preserved
loop-i-preserved c =
    wrote_next _ c.loop-i.i c.loop-i-test.true (omega (arith, c.loop-i-test.true, wrote_length c.loop-i.invariant, c.requires)) c.loop-i.invariant
