-- Where the library finds the first byte that ends what is passed, or the end.
use mathlib.Core.Bool.{not}
use Rattle.std.proofs.Common.{rules, tests}
use Rattle.std.proofs.lemmas.Iterator.{YieldsList-from_slice}
use Rattle.std.proofs.lemmas.Iterator.Search.{position_from_yields_List}
use Rattle.words.specs.Cutting.{is_space}
use Rattle.laws.proofs.Span.{stop_is}
use Rattle.words.proofs.start_of.Goals as goal

pub returns : goal.returns
unfolding is_space
returns c =
    let s = c.rest-behind.result.now in
    let stop = position_from_yields_List (λ x. not (is_space x)) _ _ c.position.result c.position.ensures.ran
    (YieldsList-from_slice s cc) (λ x b q k. search (rules, tests)) in
    rw (c.unwrap_or.ensures, stop, stop_is is_space s, c.rest-behind.ensures)
