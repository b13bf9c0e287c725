-- The answer fits where it is written, behind those before it.
use native.Mathlib.Omega.{arith}
use Rattle.chain.proofs.Walks.{answer_fits}
use Rattle.chain.proofs.take_turn.Goals as goal

pub overflow_add-result : goal.overflow_add-result
overflow_add-result c =
    let a = c.args in
    record { fits = omega (arith, answer_fits a.line.now a.d a.p.read a.p.place a.reply.now c.respond-a.ensures c.requires) }
