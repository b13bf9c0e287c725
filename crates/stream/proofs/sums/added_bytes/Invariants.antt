-- The sum goes as far as the bytes before the index.
use Rattle.std.proofs.Common.{◌≡◌, ◌+◌, ◌%◌, sum, take}
use Rattle.stream.proofs.sums.added_bytes.Given as goal

abbrev pub invariant-loop-b : goal.invariant-loop-b
invariant-loop-b l = l.sum ≡ (l.first + sum (take l.b-index l.s)) % 2147483648
