-- `host_writer::names::put_message` meets its contract. Invariant: what is written, with the words that are left, is the whole.
use lib.ListN.{length, drop}
use Rattle.laws.proofs.Spaced.{trail}
use Rattle.words.specs.Cutting.{cut}
use Rattle.reply.proofs.Writing.{Writing}
use Rattle.host_writer.proofs.names.put_message.Given as goal

abbrev pub invariant-loop-place : goal.invariant-loop-place
invariant-loop-place l = Writing l.initial.buf l.at (trail (cut l.message)) (cut (drop l.place l.message)) l.buf l.next

abbrev pub decreases-loop-place : goal.decreases-loop-place
decreases-loop-place l = length (cut (drop l.place l.message))
