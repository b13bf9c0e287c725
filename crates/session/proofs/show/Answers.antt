-- A caret, and behind it what the turn prints.
use Rattle.session.proofs.Turns.{took_shown}
use Rattle.session.proofs.show.Goals as goal

pub returns : goal.returns
returns c =
    took_shown _ _ c.refused_at.ensures c.put_caret-place.ensures c.turn.ensures
