-- Below the lowest bit that is set there are as many zeros as places before the first flag.
use Rattle.flags.proofs.Bits.{highest_some, highest_none}
use Rattle.flags.proofs.highest.Goals as goal

pub returns-then-flags-eq0 : goal.returns-then-flags-eq0
returns-then-flags-eq0 c = highest_none _ c.if-flags-eq0.true

pub returns-else-flags-eq0 : goal.returns-else-flags-eq0
returns-else-flags-eq0 c = highest_some _ c.if-flags-eq0.false
