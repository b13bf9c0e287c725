-- Each axis of the stretch is changed in its place, and the stretch is of the places that the number means.
use mathlib.Core.Path.{◌≡◌, refl, ◌∙◌}
use Prim.Native.Nat.{◌+◌, ◌-◌, ◌≤◌}
use native.Mathlib.Omega.{arith}
use borrow.Author.Rules.{rules}
use lib.ListN.{length}
use Rattle.laws.specs.Lists.{change_first}
use Rattle.axis.specs.Commands.{axis_after}
use Rattle.device.proofs.Stretches.{stretch_inside, stretch_change}
use Rattle.device.proofs.Changed.{one_more, put_back}
use Rattle.device.proofs.walks.change_each.Goals as goal

pub loop-a-init : goal.loop-a-init
unfolding change_first
loop-a-init c = refl

pub loop-a-preserved : goal.loop-a-preserved
loop-a-preserved c =
    let l = c.loop-a in
    one_more (axis_after c.args.c) _ l.a-items l.a-index _ _ (omega arith) l.invariant c.after.ensures

pub returns : goal.returns
returns c =
    let g = axis_after c.args.c in
    let l = c.loop-a in
    let p = c.stretch_of-p.result in
    let four : length c.args.axes ≡ 4 = search rules in
    let many : p.from + p.many - p.from ≡ p.many = omega arith in
    let inside = stretch_inside p c.args.n c.args.k c.stretch_of-p.ensures in
    rw (l.invariant, many) (put_back g c.args.axes p.from p.many l.a-index (omega arith) (rw many at c.loop-a-test.false)
    ∙ stretch_change c.args.axes c.args.n c.args.k p four c.stretch_of-p.ensures g)
