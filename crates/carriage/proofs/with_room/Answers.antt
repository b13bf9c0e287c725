-- Room for every answer, room for none, or room for this one.
use Rattle.carriage.proofs.AnswerRoom.{roomy_all, roomy_short, roomy_enough}
use Rattle.carriage.proofs.with_room.Goals as goal

pub returns-then-room-ge-LONGEST_ANSWER : goal.returns-then-room-ge-LONGEST_ANSWER
returns-then-room-ge-LONGEST_ANSWER c = let a = c.args in roomy_all a.room a.r c.if-room-ge-LONGEST_ANSWER.true

pub returns-then-room-room_for : goal.returns-then-room-room_for
returns-then-room-room_for c =
    let a = c.args in
    let e = c.room_for.ensures in
    rw c.nowhere.ensures (roomy_short a.room a.r (rw e at c.if-room-room_for.true))

pub returns : goal.returns
returns c =
    let a = c.args in
    let e = c.room_for.ensures in
    roomy_enough a.room a.r (rw e at c.if-room-room_for.false)
