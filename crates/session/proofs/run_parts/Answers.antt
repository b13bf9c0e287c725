-- Each part is the first of the rest; at the end nothing is left.
use Rattle.std.proofs.Common.{rules, tests}
use Rattle.std.proofs.lemmas.Fn.{always_returns_same}
use Rattle.input.proofs.Parted.{lf, split_part}
use Rattle.session.proofs.Turns.{running_more, running_end}
use Rattle.session.proofs.run_parts.Goals as goal

pub loop-part-preserved : goal.loop-part-preserved
loop-part-preserved c =
    let step = c.in-Some.ensures.steps in
    let first = (step.1.2 lf (always_returns_same _ _ _ (λ byte found f q. search (rules, tests)))).1 in
    running_more c.loop-part.invariant (split_part _ _ _ step.1.0 step.2 step.0 step.1.1 first) c.turn-t.ensures

pub returns : goal.returns
returns c = running_end c.loop-part.invariant c.in-None.ensures.steps.0
