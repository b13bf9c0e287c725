-- What an inner writer writes: a warning's name at a place.
-- proofs/Texts.antt joins it to the texts of Data and Reply.
use Rattle.std.specs.Prelude.{List, ℕ, get_or}
use Rattle.laws.specs.Text.{text}
use Rattle.flags.specs.Flags.{warning_names}

-- the warning at a place from 0
unfoldable pub warning_at : ℕ → List ℕ
warning_at k = get_or warning_names k (text "--")
