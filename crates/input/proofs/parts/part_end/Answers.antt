-- A part ends behind its LF, or with the text.
use mathlib.Core.Path.{◌∙◌}
use Rattle.input.proofs.Parted.{part_found, part_whole}
use Rattle.input.proofs.parts.part_end.Goals as goal

pub returns-in-Some : goal.returns-in-Some
returns-in-Some c = part_found c.args.s.now c.args.at c.in-Some.ensures

pub returns-in-None : goal.returns-in-None
returns-in-None c = c.max.ensures ∙ part_whole c.args.s.now c.args.at c.in-None.ensures
