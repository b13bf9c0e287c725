-- Invariant: k words are passed, and w is none of them.
use Prim.Native.Nat.{◌≤◌}
use lib.ListN.{length}
use Rattle.words.proofs.Index.{Passed}
use Rattle.words.proofs.find_word.Given as goal

abbrev pub invariant-loop-k : goal.invariant-loop-k
invariant-loop-k l = (l.k ≤ l.at) × (l.at ≤ length l.names) × Passed l.w l.names l.k l.at
