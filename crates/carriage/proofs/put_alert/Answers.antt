-- The alert and its end.
use Rattle.reply.proofs.Room.{alert_wrote}
use Rattle.carriage.proofs.put_alert.Goals as goal

pub returns : goal.returns
returns c =
    alert_wrote c.args.h.head c.requires.1 c.args.h.sum c.requires.0 c.put_alert-end.ensures c.put_end.ensures
