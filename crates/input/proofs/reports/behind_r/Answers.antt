-- `input::reports::behind_r` meets its contract: what stands behind the first word, if that is `R`.
use mathlib.Core.Path.{sym, ◌∙◌}
use Rattle.laws.specs.Text.{text}
use Rattle.input.proofs.ReportLines.{first_is_r, first_is_another}
use Rattle.input.proofs.reports.behind_r.Goals as goal

pub returns-then-same_bytes : goal.returns-then-same_bytes
unfolding text
returns-then-same_bytes c =
    first_is_r _ c.content-b.ensures c.word_at-start.ensures.found
    (sym c.same_bytes.ensures ∙ c.if-same_bytes.true)

pub returns : goal.returns
unfolding text
returns c =
    first_is_another _ c.content-b.ensures c.word_at-start.ensures.found
    (sym c.same_bytes.ensures ∙ c.if-same_bytes.false)
