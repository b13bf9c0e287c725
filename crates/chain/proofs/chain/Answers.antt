-- What is read of the line, the walk over the records and what it came to.
use Rattle.chain.proofs.Chains.{chained}
use Rattle.chain.proofs.chain.Goals as goal

pub returns : goal.returns
returns c =
    let a = c.args in
    chained a.devices.now a.line.now a.reply.now c.all_good-good.ensures c.begin-start.ensures c.walk-end.ensures c.finish.ensures
