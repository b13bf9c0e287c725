-- 20, 21, a foreign address, or the whole line, with room for its answer.
use mathlib.Core.Path.{ap}
use mathlib.Core.Bool.{not}
use Rattle.carriage.proofs.Heard.{heard_small, heard_bad, heard_foreign, heard_line}
use Rattle.carriage.proofs.hear.Goals as goal

pub returns-then-room-lt-LONGEST_REPLY : goal.returns-then-room-lt-LONGEST_REPLY
returns-then-room-lt-LONGEST_REPLY c =
    let a = c.args in rw c.nowhere.ensures (heard_small a.own a.good a.line.now a.room c.if-room-lt-LONGEST_REPLY.true)

pub returns-then-not-good : goal.returns-then-not-good
returns-then-not-good c =
    let a = c.args in
    rw c.nowhere-then-not-good.ensures (heard_bad a.own a.good a.line.now a.room c.if-room-lt-LONGEST_REPLY.false (ap not c.if-not-good.true))

pub returns-then-room-foreign : goal.returns-then-room-foreign
returns-then-room-foreign c =
    let a = c.args in
    rw c.nowhere-then-room-foreign.ensures (heard_foreign a.own a.good a.line.now a.room c.if-room-lt-LONGEST_REPLY.false (ap not c.if-not-good.false)
    c.open_line-o.ensures c.foreign.ensures c.if-room-foreign.true)

pub returns : goal.returns
returns c =
    let a = c.args in
    heard_line a.own a.good a.line.now a.room c.if-room-lt-LONGEST_REPLY.false (ap not c.if-not-good.false)
    c.open_line-o.ensures c.foreign.ensures c.if-room-foreign.false
    c.read_line.ensures.read c.with_room.ensures
