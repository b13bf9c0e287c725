-- Nothing beyond the last text. The attribute proves each text behind a space; beside a wrong answer in another arm it gives up at
-- the two that have an answer here.
use native.Mathlib.Omega.{arith}
use Rattle.laws.specs.Text.{text}
use Rattle.laws.proofs.Spaced.{trail}
use Rattle.buffer.proofs.Wrote.{wrote_none}
use Rattle.reply.specs.Help.{help_texts}
use Rattle.reply.proofs.HelpTexts.{text_none}
use Rattle.reply.proofs.help.put_help.Goals as goal

pub returns-in-8 : goal.returns-in-8
unfolding help_texts text trail
returns-in-8 c = rw c.in-8.is c.put_word-in-8.ensures

pub returns-in-10 : goal.returns-in-10
unfolding help_texts text trail
returns-in-10 c = rw c.in-10.is c.put_word-in-10.ensures

pub returns-in_default : goal.returns-in_default
returns-in_default c = rw (← text_none c.args.place (omega arith)) (wrote_none _ _)
