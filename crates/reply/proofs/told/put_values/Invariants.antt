-- `reply::told::put_values` meets its contract. Invariant: the values before the place are written.
use lib.ListN.{take}
use Rattle.buffer.specs.Wrote.{Wrote}
use Rattle.reply.specs.Data.{values}
use Rattle.reply.proofs.told.put_values.Given as goal

abbrev pub invariant-loop-i : goal.invariant-loop-i
invariant-loop-i l = Wrote l.initial.buf l.at (values (take l.i l.ns)) l.buf l.next
