-- How many bytes a record took in memory, with the older kit: of the time when the walks over lent records were followed by hand.
-- No proof cites it now.
-- Assumes nothing.
use Prim.Native.Nat.{ℕ}

abbrev pub record_bytes : ℕ
record_bytes = 504
