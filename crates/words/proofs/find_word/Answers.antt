-- Invariant: k words are passed, and w is none of them.
use mathlib.Core.Path.{sym, ◌∙◌}
use native.Mathlib.Omega.{arith}
use Rattle.laws.proofs.Same.{same_is}
use Rattle.words.proofs.Cut.{word_empty, word_part}
use Rattle.words.proofs.Index.{none_left, ended, here, past}
use Rattle.words.proofs.find_word.Goals as goal

pub returns-then-start-end : goal.returns-then-start-end
returns-then-start-end c =
    let l = c.loop-k in
    none_left _ _ l.k l.at l.invariant.2 (word_empty _ l.at c.word_at-start.ensures.found c.if-start-end.true)

pub returns-then-eq : goal.returns-then-eq
returns-then-eq c =
    let l = c.loop-k in
    here _ _ l.k l.at l.invariant.2 _ _ (word_part _ l.at c.word_at-start.ensures.found c.if-start-end.false)
    (sym (same_is _ _) ∙ sym c.eq.ensures ∙ c.if-eq.true)

pub loop-k-preserved : goal.loop-k-preserved
loop-k-preserved c =
    let l = c.loop-k in
    let part = word_part _ l.at c.word_at-start.ensures.found c.if-start-end.false in
    (omega arith, omega arith, past _ _ l.k l.at l.invariant.2 _ _ part (sym (same_is _ _) ∙ sym c.eq.ensures ∙ c.if-eq.false))

pub returns : goal.returns
returns c = ended _ _ _ c.loop-k.at c.loop-k.invariant.2 (omega arith)
