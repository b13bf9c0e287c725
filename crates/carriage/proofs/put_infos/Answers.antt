-- One line more, and all of them at the end.
use native.Mathlib.Omega.{arith}
use Rattle.buffer.proofs.Wrote.{wrote_length}
use Rattle.reply.proofs.HelpTexts.{infos_first, infos_more, infos_end}
use Rattle.carriage.proofs.InfoLines.{line_within}
use Rattle.carriage.proofs.put_infos.Goals as goal

pub loop-place-init : goal.loop-place-init
loop-place-init c = let a = c.args in (omega arith, infos_first a.address a.sum _ _)

pub put_info-next-requires : goal.put_info-next-requires
put_info-next-requires c =
    let l = c.loop-place in omega (arith, c.loop-place-test.true, l.invariant.0, wrote_length l.invariant.1, c.requires)

pub loop-place-preserved : goal.loop-place-preserved
loop-place-preserved c =
    let l = c.loop-place in (
      omega (arith, line_within _ _ l.place c.put_info-next.ensures, l.invariant.0),
      infos_more _ _ l.place c.loop-place-test.true l.invariant.1 c.put_info-next.ensures,
    )

pub returns : goal.returns
returns c = let l = c.loop-place in infos_end _ _ l.place c.loop-place-test.false l.invariant.1
