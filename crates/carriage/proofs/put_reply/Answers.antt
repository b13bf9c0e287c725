-- Head, data and end are the reply.
use Rattle.reply.proofs.Room.{reply_wrote}
use Rattle.carriage.proofs.put_reply.Goals as goal

pub returns : goal.returns
returns c =
    let a = c.args in
    reply_wrote a.h.head c.requires.1 a.h.sum _ c.requires.2 c.requires.0 c.put_head-data.ensures c.put_told-end.ensures
    c.put_end.ensures
