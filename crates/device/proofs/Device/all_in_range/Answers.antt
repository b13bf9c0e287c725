-- Every setting of the table, in its order.
use Rattle.laws.specs.Lists.{fold}
use Rattle.laws.proofs.Bools.{and_true}
use Rattle.command.specs.Settings.{device_settings}
use Rattle.device.proofs.Device.all_in_range.Goals as goal

pub returns : goal.returns
unfolding fold device_settings
returns c = simp (
  and_true,
  c.in_range-f.ensures,
  c.in_range-e.ensures,
  c.in_range-d.ensures,
  c.in_range-c.ensures,
  c.in_range-b.ensures,
  c.in_range-a.ensures,
)
