-- 96 bytes, or 1,152 where the row of the command has info lines.
use Rattle.carriage.proofs.AnswerRoom.{informing_room}
use Rattle.carriage.proofs.words_room.Goals as goal

pub returns-in-Ok : goal.returns-in-Ok
returns-in-Ok c =
    informing_room _ c.form.ensures c.demands.ensures c.informs.ensures c.in-Ok.is c.if-informs.true
