-- `numbers::digits::digits` meets its contract. Invariant: reading on from i with n is reading from the first place on.
use mathlib.Core.Path.{◌≡◌}
use Prim.Native.Nat.{◌≤◌}
use lib.ListN.{drop}
use Rattle.numbers.specs.Reading.{scan, digits_from}
use Rattle.numbers.proofs.digits.digits.Given as goal

abbrev pub invariant-loop-i : goal.invariant-loop-i
invariant-loop-i l = (l.n ≤ l.most) × (scan l.base l.most l.n l.i (drop l.i l.w) ≡ digits_from l.base l.most l.from (drop l.from l.w))
