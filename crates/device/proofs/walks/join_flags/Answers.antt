-- Each place that the stretch covers, and the stretch is of the places that the number means.
use mathlib.Core.Path.{◌≡◌, ap, ◌∙◌}
use mathlib.Core.List.{List}
use lib.ListN.{length}
use Rattle.std.proofs.Common.{rules}
use Rattle.flags.specs.Flags.{mask, union}
use Rattle.flags.proofs.Unions.{bits_active}
use Rattle.axis.specs.declared.Axis.{Axis}
use Rattle.axis.specs.Warnings.{active}
use Rattle.device.proofs.Stretches.{stretch_inside, stretch_axes}
use Rattle.device.proofs.Four.{union_stretch}
use Rattle.device.proofs.walks.join_flags.Goals as goal

pub returns : goal.returns
returns c =
    let four : length c.args.axes ≡ 4 = search rules in
    let p = c.stretch_of-p.result in
    union_stretch active (λ a. bits_active _ _) c.args.axes _ four p (stretch_inside _ _ _ c.stretch_of-p.ensures)
    c.join_at-d.ensures c.join_at-c.ensures c.join_at-b.ensures c.join_at.ensures
    ∙ ap (λ (l : List Axis). mask (union active l)) (stretch_axes c.args.axes c.args.n c.args.k p four c.stretch_of-p.ensures)
