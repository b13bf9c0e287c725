-- The bytes that are kept stand in the buffer.
use Rattle.std.proofs.Common.{length, ◌≡◌, ◌≤◌}
use Rattle.console.proofs.read_part.Given as goal

abbrev pub invariant-loop : goal.invariant-loop
invariant-loop g l = (length l.buf ≡ length l.initial.buf) × (l.kept ≤ length l.buf)
