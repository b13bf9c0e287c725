-- A read goes on behind what stood at the front.
use Rattle.std.proofs.Common.{rules}
use Rattle.stream.proofs.Filled.{front_more}
use Rattle.stream.proofs.reading.read_full.Goals as goal

pub loop-done-preserved : goal.loop-done-preserved
loop-done-preserved g c =
    let kept = c.loop-done.invariant in
    let read = c.in_ok-got.ensures in
    record {
      size = search rules;
      within = search rules;
      front = front_more _ _ _ _ _ kept.within _ _ _ read.bound.0 kept.front read.bytes.0;
    }
