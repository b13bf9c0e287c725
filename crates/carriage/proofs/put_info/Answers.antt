-- The text and its end, written into what stands from the place on.
use native.Mathlib.Omega.{arith}
use Rattle.carriage.proofs.InfoLines.{line_inside, line_wrote}
use Rattle.carriage.proofs.put_info.Goals as goal

pub overflow_add-result : goal.overflow_add-result
overflow_add-result c =
    let a = c.args in
    let wrote = c.put_info-end.ensures in
    omega (arith, line_inside a.address a.sum a.place a.buf.now a.at c.requires wrote c.put_end.ensures)

pub returns : goal.returns
returns c =
    let a = c.args in
    line_wrote a.address a.sum a.place a.buf.now a.at c.requires c.put_info-end.ensures c.put_end.ensures
