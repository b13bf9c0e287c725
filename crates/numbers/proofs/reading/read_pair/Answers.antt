-- `numbers::reading::read_pair` meets its contract: either byte may be no digit.
use mathlib.Core.Path.{sym, ◌∙◌}
use Rattle.numbers.proofs.Value.{told_some, told_none}
use Rattle.numbers.proofs.Answers.{no_high, no_low, both}
use Rattle.numbers.proofs.reading.read_pair.Goals as goal

pub returns-in_err-high : goal.returns-in_err-high
returns-in_err-high c = c.from_residual.ensures ∙ sym (no_high _ _ (told_none _ c.in_err-high.ensures))

pub returns-in_err-low : goal.returns-in_err-low
returns-in_err-low c = c.from_residual-in_err-low.ensures ∙ sym (no_low _ _ (told_none _ c.in_err-low.ensures))

pub returns : goal.returns
returns c =
    let h = told_some _ c.in_ok-high.ensures in
    let l = told_some _ c.in_ok-low.ensures in
    rw (h.0, l.0) (sym (both _ _ (rw h.0 at h.1) (rw l.0 at l.1)))
