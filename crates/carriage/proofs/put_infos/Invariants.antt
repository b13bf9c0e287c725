-- Invariant: the lines before the place are written, and the next goes to `next`; each has 96 bytes at most.
use Prim.Native.Nat.{◌+◌, ◌*◌, ◌≤◌}
use Rattle.buffer.specs.Wrote.{Wrote}
use Rattle.reply.proofs.HelpTexts.{before}
use Rattle.carriage.proofs.put_infos.Given as goal

abbrev pub invariant-loop-place : goal.invariant-loop-place
invariant-loop-place l = (l.next ≤ l.at + 96 * l.place) × Wrote l.initial.buf l.at (before l.address l.sum l.place) l.buf l.next
