-- Where the library finds the first byte that ends what is passed, or the end.
use mathlib.Core.Bool.{not}
use Rattle.std.proofs.Common.{rules, tests}
use Rattle.std.proofs.lemmas.Iterator.{YieldsList-from_slice}
use Rattle.std.proofs.lemmas.Iterator.Search.{position_from_yields_List}
use Rattle.words.specs.Cutting.{no_space}
use Rattle.laws.proofs.Span.{stop_is}
use Rattle.words.proofs.word_end.Goals as goal

pub returns : goal.returns
unfolding no_space
returns c =
    let s = c.rest-word.result.now in
    let stop = position_from_yields_List (λ x. not (no_space x)) _ _ c.position.result c.position.ensures.ran
    (YieldsList-from_slice s cc) (λ x b q k. search (rules, tests)) in
    rw (c.unwrap_or.ensures, stop, stop_is no_space s, c.rest-word.ensures)
