-- What the host's writer leaves in the buffer is a line by the rules of the spelling: a line of the very command that was put in.
-- Every command, with a checksum and without; assumes that its numbers have 32 bits, as its type says.
use Rattle.std.specs.Prelude.{Ok}
use mathlib.Core.Path.{◌≡◌}
use mathlib.Core.Bool.{Bool}
use mathlib.Core.List.{List}
use Prim.Native.Nat.{ℕ}
use lib.ListN.{take}
use Rattle.command.specs.declared.Command.{Command}
use Rattle.line.specs.Spelling.{Line}
use Rattle.line.proofs.Demand3.{demand_3}
use Rattle.host_writer.specs.Writing.{write_line}
use Rattle.roundtrip.specs.Held.{Held}
use Rattle.roundtrip.proofs.ReadsBack.{asked, buffer_reads_back}

pub written_is_spelled : (address axis : ℕ) (c : Command) (message : List ℕ) (sum : Bool) (b : List ℕ) → Held c
    → {n : ℕ} → (write_line address axis c message sum b).answer ≡ Ok n
    → Line (take n (write_line address axis c message sum b).buffer) (asked address axis c message)
written_is_spelled address axis c message sum b held e = (demand_3 _ _).1 (buffer_reads_back address axis c message sum b held e)
