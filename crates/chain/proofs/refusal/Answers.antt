-- Too long a chain, none, too small a buffer; and whether all records are good.
use Rattle.chain.proofs.Chains.{refused_long, refused_none, refused_small, unless_bad}
use Rattle.chain.proofs.refusal.Goals as goal

pub returns-then-n-gt-LONGEST_CHAIN : goal.returns-then-n-gt-LONGEST_CHAIN
returns-then-n-gt-LONGEST_CHAIN c = let a = c.args in refused_long a.n a.room a.good c.if-n-gt-LONGEST_CHAIN.true

pub returns-then-n-eq0 : goal.returns-then-n-eq0
returns-then-n-eq0 c = let a = c.args in refused_none a.n a.room a.good c.if-n-eq0.true

pub returns-then-room-n : goal.returns-then-room-n
returns-then-room-n c = let a = c.args in refused_small a.n a.room a.good c.if-room-n.true

pub returns-then-good : goal.returns-then-good
returns-then-good c =
    let a = c.args in
    unless_bad a.n a.room a.good c.if-n-gt-LONGEST_CHAIN.false c.if-n-eq0.false c.if-room-n.false c.if-good.true

pub returns-else-good : goal.returns-else-good
returns-else-good c =
    let a = c.args in
    unless_bad a.n a.room a.good c.if-n-gt-LONGEST_CHAIN.false c.if-n-eq0.false c.if-room-n.false c.if-good.false
