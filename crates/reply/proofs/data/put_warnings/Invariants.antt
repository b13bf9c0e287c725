-- `reply::data::put_warnings` meets its contract. Invariant: what the loop has written, with the names that are left, is the whole.
use Prim.Native.Nat.{◌-◌}
use lib.ListN.{drop}
use Rattle.laws.proofs.Spaced.{trail}
use Rattle.flags.specs.Flags.{bits, named, warning_names}
use Rattle.reply.proofs.Writing.{Writing}
use Rattle.reply.proofs.data.put_warnings.Given as goal

abbrev pub invariant-loop-i : goal.invariant-loop-i
invariant-loop-i l =
    Writing l.initial.buf l.initial.next (trail (named (bits 8 l.m) warning_names)) (named (bits (8 - l.i) l.left) (drop l.i warning_names)) l.buf l.next
