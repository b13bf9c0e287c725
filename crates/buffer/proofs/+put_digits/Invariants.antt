-- The number itself is the measure: the tenth that the call takes is less.
use Rattle.buffer.proofs.+put_digits.Given as goal

abbrev pub decreases-put_digits : goal.decreases-put_digits
decreases-put_digits l = l.n
