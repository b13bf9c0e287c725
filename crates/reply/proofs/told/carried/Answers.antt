-- `reply::told::carried` meets its contract: the part of the line, cut at its end.
use Rattle.reply.proofs.Telling.{carried_part}
use Rattle.reply.proofs.told.carried.Goals as goal

pub returns : goal.returns
returns c = carried_part _ _ _ _ _ c.min-stop.ensures c.min.ensures
