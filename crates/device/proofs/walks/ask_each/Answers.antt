-- Each place that the stretch covers, and the stretch is of the places that the number means.
use mathlib.Core.Path.{◌≡◌, ap, ◌∙◌}
use lib.ListN.{length}
use Rattle.std.proofs.Common.{rules}
use Rattle.laws.specs.Lists.{all}
use Rattle.axis.specs.Commands.{permits}
use Rattle.device.proofs.Stretches.{stretch_inside, stretch_axes}
use Rattle.device.proofs.Four.{all_stretch}
use Rattle.device.proofs.walks.ask_each.Goals as goal

pub returns : goal.returns
returns c =
    let four : length c.args.axes ≡ 4 = search rules in
    let p = c.stretch_of-p.result in
    let asked = permits c.args.c in
    all_stretch asked c.args.axes _ four p (stretch_inside _ _ _ c.stretch_of-p.ensures)
    c.asked_at-x.ensures c.asked_at-y.ensures c.asked_at-z.ensures c.asked_at-w.ensures
    ∙ ap (all asked) (stretch_axes c.args.axes c.args.n c.args.k p four c.stretch_of-p.ensures)
