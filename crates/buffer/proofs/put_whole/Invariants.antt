-- The first i bytes of the text are written, and the next one goes i places behind `at`.
use Prim.Native.Nat.{◌+◌}
use lib.ListN.{take}
use Rattle.buffer.specs.Wrote.{Wrote}
use Rattle.buffer.proofs.put_whole.Given as goal

abbrev pub invariant-loop-i : goal.invariant-loop-i
invariant-loop-i l = Wrote l.initial.buf l.at (take l.i l.text) l.buf (l.at + l.i)
