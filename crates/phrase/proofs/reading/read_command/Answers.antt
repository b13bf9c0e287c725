-- No word is no command; a first word is looked up in the table of commands.
use Rattle.phrase.proofs.Refused.{answered}
use Rattle.phrase.proofs.Steps.{command_none, command_first}
use Rattle.phrase.proofs.reading.read_command.Goals as goal

pub returns-then-start-end : goal.returns-then-start-end
returns-then-start-end c =
    let told = answered _ (command_none _ c.args.at c.word_at-start.ensures.found c.if-start-end.true) in
    record { read = told.0; number = told.1.0; place = told.1.1 }

pub returns : goal.returns
returns c =
    let told = answered _ (command_first _ c.args.at c.word_at-start.ensures.found c.if-start-end.false c.first_of.ensures) in
    record { read = told.0; number = told.1.0; place = told.1.1 }
