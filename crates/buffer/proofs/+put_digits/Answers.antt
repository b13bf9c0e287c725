-- The last digit stands behind the digits of the tenth; one digit stands alone.
use borrow.Author.Rules.{rules}
use Rattle.numbers.specs.Decimal.{last_digit}
use Rattle.numbers.proofs.Decimal.{digits_one, digits_more}
use Rattle.buffer.proofs.Wrote.{◌▸◌}
use Rattle.buffer.proofs.+put_digits.Goals as goal

pub returns-then-n-lt10 : goal.returns-then-n-lt10
unfolding last_digit
returns-then-n-lt10 t c = rw (digits_one c.args.n (search rules)) c.put_byte.ensures

pub returns-else-n-lt10 : goal.returns-else-n-lt10
unfolding last_digit
returns-else-n-lt10 t c =
    rw (digits_more c.args.n (search rules) (search rules)) (c.put_digits-next.ensures ▸ c.put_byte-else-n-lt10.ensures)
