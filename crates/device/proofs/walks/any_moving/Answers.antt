-- Each place that the stretch covers, and the stretch is of the places that the number means.
use mathlib.Core.Path.{◌≡◌, ap, ◌∙◌}
use lib.ListN.{length}
use Rattle.std.proofs.Common.{rules}
use Rattle.laws.specs.Lists.{any}
use Rattle.axis.specs.Record.{moving}
use Rattle.device.proofs.Stretches.{stretch_inside, stretch_axes}
use Rattle.device.proofs.Four.{any_stretch}
use Rattle.device.proofs.walks.any_moving.Goals as goal

pub returns : goal.returns
returns c =
    let four : length c.args.axes ≡ 4 = search rules in
    let p = c.stretch_of-p.result in
    any_stretch moving c.args.axes _ four p (stretch_inside _ _ _ c.stretch_of-p.ensures)
    c.moves_at-a.ensures c.moves_at-b.ensures c.moves_at-c.ensures c.moves_at-d.ensures
    ∙ ap (any moving) (stretch_axes c.args.axes c.args.n c.args.k p four c.stretch_of-p.ensures)
