-- Every setting of the table, in its order.
use Rattle.laws.specs.Lists.{fold}
use Rattle.laws.proofs.Bools.{and_true}
use Rattle.command.specs.Settings.{axis_settings}
use Rattle.settings.proofs.Settings.good.Goals as goal

pub returns : goal.returns
unfolding fold axis_settings
returns c =
    simp (
      and_true,
      c.in_range-j.ensures,
      c.in_range-i.ensures,
      c.in_range-h.ensures,
      c.in_range-g.ensures,
      c.in_range-f.ensures,
      c.in_range-e.ensures,
      c.in_range-d.ensures,
      c.in_range-c.ensures,
      c.in_range-b.ensures,
      c.in_range-a.ensures,
    )
