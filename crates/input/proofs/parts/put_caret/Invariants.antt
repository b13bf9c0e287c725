-- Invariant: so many spaces are written, and the next byte goes to `next`.
use lib.ListN.{replicate}
use Rattle.buffer.specs.Wrote.{Wrote}
use Rattle.input.proofs.parts.put_caret.Given as goal

abbrev pub invariant-loop : goal.invariant-loop
invariant-loop l = Wrote l.initial.out l.at (replicate l.counter 32) l.out l.next
