-- What is allowed, and the value.
use Rattle.settings.proofs.Settings.in_range.Goals as goal

pub returns : goal.returns
returns c = simp (c.allows.ensures, c.value.ensures)
