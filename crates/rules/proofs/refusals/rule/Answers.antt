-- What the command demands, and the first row that applies.
use mathlib.Core.Path.{ap, ◌∙◌}
use Rattle.command.specs.Commands.{demands_of}
use Rattle.rules.proofs.Ruled.{by_demands}
use Rattle.rules.proofs.refusals.rule.Goals as goal

pub refusal-requires : goal.refusal-requires
refusal-requires c = c.demands-x.ensures ∙ ap demands_of c.form.ensures

pub returns : goal.returns
returns c =
    by_demands _ _ _ _ _ c.refusal.ensures (c.demands-x.ensures ∙ ap demands_of c.form.ensures)
