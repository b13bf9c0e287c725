-- `reply::data::put_warnings` meets its contract. Invariant: what the loop has written, with the names that are left, is the whole.
use Rattle.buffer.proofs.Wrote.{◌▸◌}
use Rattle.reply.proofs.Writing.{writing_first, writing_end}
use Rattle.reply.proofs.Lists.{list_split, names_yes, names_no, names_end}
use Rattle.reply.proofs.data.put_warnings.Goals as goal
use Rattle.reply.proofs.data.put_warnings.Goals.{then-left-eq1, else-left-eq1}

pub loop-i-init : goal.loop-i-init
loop-i-init c = writing_first _ _ _

pub loop-i-preserved : goal.loop-i-preserved
loop-i-preserved c =
    let l = c.loop-i in
    let i = c.loop-i-test.true in
    elim c.if-left-eq1.branch [
      | then-left-eq1 w ↦
          names_yes _ _ i l.invariant w.if-left-eq1.true (rw w.warning_name.ensures at w.put_word-next.ensures) w.buf-is w.next-is
      | else-left-eq1 w ↦ names_no _ _ i l.invariant w.if-left-eq1.false w.buf-is w.next-is
    ]

pub returns : goal.returns
returns c =
    rw (list_split _, ← c.number.ensures)
    (c.put_two-next.ensures ▸ writing_end (rw (names_end _ _ c.loop-i-test.false) at c.loop-i.invariant))
