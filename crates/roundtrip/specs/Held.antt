-- The numbers of a command have 32 bits, as its type says.
-- So none of them is one "the spelling cannot hold".
use Rattle.command.specs.declared.Command.{Command}
use Rattle.command.specs.Forms.{form_of}
use Rattle.phrase.specs.Writing.{Number32}

abbrev pub Held : Command → Type 0
Held c = Number32 (form_of c).first.0 × Number32 (form_of c).second.0
