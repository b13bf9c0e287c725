-- `session::bench_device` meets its contract.
use mathlib.Core.Path.{ap}
use Rattle.device.specs.declared.Outcome.{Outcome}
use Rattle.device.specs.Good.{may_be_fresh, ask_fresh}
use Rattle.session.specs.Bench.{bench_device}
use Rattle.session.proofs.bench_device.Goals as goal

pub returns : goal.returns
unfolding bench_device ask_fresh may_be_fresh
returns c = ap (λ (o : Outcome). o.next) c.fresh-fresh.ensures
