-- `numbers::reading::read_address` meets its contract: it is `unsigned` from the first place on, up to 99.
use Rattle.numbers.specs.Reading.{read_address}
use Rattle.numbers.proofs.reading.read_address.Goals as goal

pub returns : goal.returns
unfolding read_address
returns c = c.unsigned.ensures
