-- 20, 21, or what was read.
use Rattle.carriage.proofs.ReadOnce.{overheard_small, overheard_bad, overheard_read}
use Rattle.carriage.proofs.overhear.Goals as goal

pub returns-then-rest-lt-LONGEST_REPLY : goal.returns-then-rest-lt-LONGEST_REPLY
returns-then-rest-lt-LONGEST_REPLY c = let a = c.args in rw c.nowhere.ensures (overheard_small a.good a.read a.rest c.if-rest-lt-LONGEST_REPLY.true)

pub returns-then-good : goal.returns-then-good
returns-then-good c =
    let a = c.args in
    overheard_read a.good a.read a.rest c.if-rest-lt-LONGEST_REPLY.false c.if-good.true c.with_room.ensures

pub returns-else-good : goal.returns-else-good
returns-else-good c = let a = c.args in rw c.nowhere-else-good.ensures (overheard_bad a.good a.read a.rest c.if-rest-lt-LONGEST_REPLY.false c.if-good.false)
