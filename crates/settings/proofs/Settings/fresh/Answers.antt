-- The values that document 01 has.
use Rattle.settings.specs.Record.{fresh_settings}
use Rattle.settings.proofs.Settings.fresh.Goals as goal

pub returns : goal.returns
unfolding fresh_settings
returns c = simp c.fresh-current.ensures
