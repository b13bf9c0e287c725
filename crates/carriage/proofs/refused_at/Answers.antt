-- The place of what the device hears of the line, with room for a reply.
use Rattle.carriage.proofs.Heard.{heard_place}
use Rattle.carriage.proofs.refused_at.Goals as goal

pub returns : goal.returns
returns c =
    heard_place _ _ c.good.ensures c.place-own.ensures c.hear.ensures c.place_read.ensures
