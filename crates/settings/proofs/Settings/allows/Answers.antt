-- The range of the setting.
use Rattle.settings.proofs.Settings.allows.Goals as goal

pub returns : goal.returns
returns c = simp (c.within.ensures, c.range.ensures)
