-- `reply::told::put_values` meets its contract. Invariant: the values before the place are written.
use native.Mathlib.Omega.{arith}
use lib.Seq.{take_all}
use Rattle.reply.proofs.Telling.{values_start, values_more, values_one}
use Rattle.reply.proofs.told.put_values.Goals as goal
use Rattle.reply.proofs.told.put_values.Goals.{then-i-gt0, else-i-gt0}

pub loop-i-init : goal.loop-i-init
loop-i-init c = values_start _ _

pub loop-i-preserved : goal.loop-i-preserved
loop-i-preserved c =
    let l = c.loop-i in
    elim c.if-i-gt0.branch [
      | then-i-gt0 w ↦
          values_more c.args.ns.now l.i _ c.loop-i-test.true l.invariant w.if-i-gt0.true w.put_byte-next.ensures w.buf-is w.next-is
          c.put_signed-next.ensures
      | else-i-gt0 w ↦
          values_one c.args.ns.now l.i _ c.loop-i-test.true l.invariant w.if-i-gt0.false w.buf-is w.next-is c.put_signed-next.ensures
    ]

pub returns : goal.returns
returns c = rw (take_all c.loop-i.i c.args.ns.now c.loop-i-test.false) at c.loop-i.invariant
