-- A report is a part that starts with `R`.
use mathlib.Core.Path.{◌∙◌}
use Rattle.input.proofs.Prints.{starts_with_r}
use Rattle.input.proofs.parts.is_report.Goals as goal

pub returns : goal.returns
returns c = c.starts_with.ensures.value ∙ starts_with_r _
