-- `session::run` meets its contract: the parts of the first 4,096 bytes, from the record that bench begins with.
use native.Mathlib.Omega.{arith}
use lib.ListN.{length-take}
use Rattle.session.proofs.Turns.{ran}
use Rattle.session.proofs.run.Goals as goal

pub slice_bounds-run_parts-end : goal.slice_bounds-run_parts-end
slice_bounds-run_parts-end c = simp length-take (omega (arith, c.min-n.ensures))

pub returns : goal.returns
returns c =
    ran _ _ c.min-n.ensures c.bench_device.ensures c.run_parts.ensures
