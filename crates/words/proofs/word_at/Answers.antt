-- The spaces passed over, and then the word; or the end of the text.
use mathlib.Core.Path.{sym}
use lib.ListN.{drop, length-drop}
use native.Mathlib.Omega.{arith}
use Rattle.laws.proofs.Span.{span_le}
use Rattle.words.specs.Cutting.{no_space}
use Rattle.words.proofs.Space.{at_end, at_word}
use Rattle.words.proofs.word_at.Goals as goal

pub returns-then-s-start-clause-found : goal.returns-then-s-start-clause-found
returns-then-s-start-clause-found c = sym (at_end _ _ _ c.start_of-start.ensures c.if-s-start.true)

pub returns-clause-found : goal.returns-clause-found
returns-clause-found c = rw c.word_end-end.ensures (sym (at_word _ _ _ c.start_of-start.ensures c.if-s-start.false))

pub returns-clause-within : goal.returns-clause-within
returns-clause-within c =
    let s = c.args.s.now in
    let start = c.start_of-start.result in
    omega (arith, span_le no_space (drop start s), length-drop start s)
