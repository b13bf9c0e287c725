-- `host_writer::rows::put_row` meets its contract. Invariant: what is written, with what is left of the row, is the whole.
use lib.ListN.{length, drop}
use Rattle.laws.proofs.Spaced.{trail}
use Rattle.words.specs.Cutting.{cut}
use Rattle.reply.proofs.Writing.{Writing}
use Rattle.host_writer.specs.Rows.{filled_row}
use Rattle.host_writer.proofs.rows.put_row.Given as goal

abbrev pub invariant-loop-place : goal.invariant-loop-place
invariant-loop-place l = Writing l.initial.buf l.at (trail (filled_row l.f (cut l.message) (cut l.row)))
    (filled_row l.f (cut l.message) (cut (drop l.place l.row))) l.buf l.next

abbrev pub decreases-loop-place : goal.decreases-loop-place
decreases-loop-place l = length (cut (drop l.place l.row))
