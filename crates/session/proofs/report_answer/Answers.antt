-- `session::report_answer` meets its contract: 22, or what the report makes of the record.
use Rattle.laws.specs.declared.Refusal.TheVariants.{BadReport}
use Rattle.std.specs.Prelude.{Err}
use mathlib.Core.Path.{refl}
use Rattle.carriage.proofs.Steps.{silent_gives}
use Rattle.session.proofs.report_answer.Goals as goal

pub returns-in-None : goal.returns-in-None
returns-in-None c = rw c.in-None.is (silent_gives (Err BadReport) _ _ refl)
