-- The range of the setting.
use Rattle.settings.proofs.device_allows.Goals as goal

pub returns : goal.returns
returns c = simp (c.within.ensures, c.device_range.ensures)
