-- A line for each command that can be spelled: two address digits, the axis digit, single spaces, decimal numbers and LF.
-- Nothing here says how a line is read.
use Rattle.std.specs.Prelude.{List, ◌∷◌, ◌++◌, ℕ, ◌≤◌}
use Rattle.laws.specs.Text.{text, spaced}
use Rattle.numbers.specs.Spelling.{highest_address}
use Rattle.numbers.specs.Decimal.{two_digits, digits}
use Rattle.command.specs.Commands.{command_words}
use Rattle.phrase.specs.Writing.{Spellable}
use Rattle.line.specs.Spelling.{Asked}

unfoldable pub content_for : Asked → List ℕ
content_for a = spaced (two_digits a.address ∷ digits a.axis ∷ command_words a.command a.echo)

unfoldable pub line_for : Asked → List ℕ
line_for a = text "/" ++ content_for a ++ text "\n"

-- all that it has is in range: an address 0 to 99, an axis of one digit, a command that can be spelled
pub record InRange (a : Asked) : Type 0 where
  pub address : a.address ≤ highest_address
  pub axis : a.axis ≤ 9
  pub command : Spellable a.command a.echo
