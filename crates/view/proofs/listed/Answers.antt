-- `view::listed` meets its contract: the value of each axis place, and the places that the number means.
use mathlib.Core.Path.{◌≡◌}
use lib.ListN.{length}
use Rattle.view.proofs.Telling.{unmapped, listed_is}
use borrow.Author.Rules.{rules}
use Rattle.view.proofs.listed.Goals as goal

pub returns : goal.returns
returns c =
    let k : length c.args.d.axes ≡ 4 = search (rules, unmapped) in
    listed_is c.args.d c.args.k k c.args.v _ _ _ _ _ c.stretch-p.ensures
    c.value_of.ensures c.value_of-2.ensures c.value_of-3.ensures c.value_of-4.ensures
