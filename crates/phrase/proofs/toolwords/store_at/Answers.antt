-- A number and a position; or 11, and the place in the line where the first of them refuses.
use Rattle.phrase.proofs.toolwords.store_at.Goals as goal

pub made-requires : goal.made-requires
made-requires c = rw (← c.read_number.ensures) at c.requires.1
