-- `reply::data::put_more` meets its contract. Invariant: what is written, with the words that are left, is the whole.
use native.Mathlib.Omega.{arith}
use lib.ListN.{drop}
use Rattle.words.specs.Cutting.{cut}
use Rattle.words.proofs.Cut.{word_empty, word_full}
use Rattle.reply.proofs.Writing.{writing_first, writing_end}
use Rattle.reply.proofs.Lists.{echo_turn, echo_end, echo_full}
use Rattle.reply.proofs.data.put_more.Goals as goal

pub loop-init : goal.loop-init
loop-init c = writing_first _ _ _

pub returns-then-start-end : goal.returns-then-start-end
returns-then-start-end c =
    let none = word_empty _ c.loop.place c.word_at-start.ensures.found c.if-start-end.true in
    writing_end (rw (echo_end _ _ none) at c.loop.invariant)

pub loop-preserved : goal.loop-preserved
loop-preserved c =
    let words = word_full _ c.loop.place c.word_at-start.ensures.found c.if-start-end.false in
    echo_turn c.loop.counter c.loop-test.true words c.loop.invariant c.put_word-next.ensures

pub returns : goal.returns
returns c =
    let words = cut (drop c.loop.place c.args.s.now) in
    writing_end (rw (echo_full c.loop.counter words (omega arith)) at c.loop.invariant)
