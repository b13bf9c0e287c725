-- What `put_digits` writes, or one digit.
use Rattle.buffer.proofs.Decimals.{digits_single}
use Rattle.buffer.proofs.put_number.Goals as goal

pub returns-else-n-ge10 : goal.returns-else-n-ge10
returns-else-n-ge10 c =
    rw (digits_single _ c.if-n-ge10.false) c.put_byte.ensures
