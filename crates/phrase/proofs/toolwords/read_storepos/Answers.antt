-- N, or N P, or N current: by how many words there are.
use mathlib.Core.Path.{refl, sym, ◌∙◌}
use Rattle.laws.specs.Text.{text}
use Rattle.phrase.proofs.Steps.{store_none, store_one, store_more, store_current, store_at_lem, number_places}
use borrow.Author.Rules.{rules}
use Rattle.phrase.proofs.toolwords.read_storepos.Goals as goal

pub returns-then-start-end : goal.returns-then-start-end
returns-then-start-end c =
    store_none _ c.args.at c.word_at-start.ensures.found c.if-start-end.true

pub made-requires : goal.made-requires
made-requires c =
    number_places _ c.args.at c.word_at-start.ensures.found (search rules) c.read_number-n.ensures

pub returns-then-from-to : goal.returns-then-from-to
returns-then-from-to c =
    store_one _ c.args.at c.word_at-start.ensures.found c.if-start-end.false c.word_at-from.ensures.found
    c.read_number-n.ensures c.if-from-to.true c.made.ensures

pub returns-then-start_of-s : goal.returns-then-start_of-s
returns-then-start_of-s c =
    store_more _ c.args.at c.word_at-start.ensures.found c.if-start-end.false c.word_at-from.ensures.found
    c.read_number-n.ensures c.if-from-to.false c.start_of.ensures c.if-start_of-s.true

pub made-requires-then-same_bytes : goal.made-requires-then-same_bytes
made-requires-then-same_bytes c =
    number_places _ c.args.at c.word_at-start.ensures.found (search rules) c.read_number-n.ensures

pub returns-then-same_bytes : goal.returns-then-same_bytes
unfolding text
returns-then-same_bytes c =
    store_current _ c.args.at c.word_at-start.ensures.found c.if-start-end.false c.word_at-from.ensures.found
    c.read_number-n.ensures c.if-from-to.false c.start_of.ensures c.if-start_of-s.false
    (sym c.same_bytes.ensures ∙ c.if-same_bytes.true) c.made-then-same_bytes.ensures

pub store_at-requires : goal.store_at-requires
store_at-requires c = (
  number_places _ c.args.at c.word_at-start.ensures.found (search rules) c.read_number-n.ensures,
  number_places _ c.word_at-start.result.end c.word_at-from.ensures.found (search rules) refl,
)

pub returns : goal.returns
unfolding text
returns c =
    store_at_lem _ c.args.at c.word_at-start.ensures.found c.if-start-end.false c.word_at-from.ensures.found
    c.read_number-n.ensures c.if-from-to.false c.start_of.ensures c.if-start_of-s.false
    (sym c.same_bytes.ensures ∙ c.if-same_bytes.false) c.store_at.ensures
