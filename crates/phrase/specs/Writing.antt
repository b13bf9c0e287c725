-- Which commands can be spelled at all: those whose numbers have 32 bits, and which set no read-only setting.
-- Their words are `command_words` of the table of commands; the command writer of the host writes these words.
use Rattle.std.specs.Prelude.{◌≡◌, false, List, [], ℕ, ℤ}
use Rattle.std.specs.Int.{w32}
use Rattle.std.proofs.Common.{SFits}
use Rattle.laws.proofs.Each.{Each}
use Rattle.words.specs.Spelling.{Word}
use Rattle.command.specs.declared.Command.{Command}
use Rattle.command.specs.Forms.{form_of}
use Rattle.command.specs.Commands.{demands, carries_words}

-- "value -2,147,483,648 to 2,147,483,647": a number of 32 bits
abbrev pub Number32 : ℤ → Type 0
Number32 z = SFits w32 z

-- a command that can be spelled, where es are the words that it carries
pub record Spellable (c : Command) (es : List (List ℕ)) : Type 0 where
  pub first : Number32 (form_of c).first.0
  pub second : Number32 (form_of c).second.0
  -- "`set` is spelled only for settings that can be written."
  pub writable : (demands c).barred ≡ false
  -- "An echo command carries its words as a list": no other command carries any
  pub only_echo : carries_words c ≡ false → es ≡ []
  pub words : Each Word es
