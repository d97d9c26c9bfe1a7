-- `count::put_digits` calls itself on a tenth of the number.
use Rattle.count.proofs.text.+put_digits.Given as goal

abbrev pub decreases-put_digits : goal.decreases-put_digits
decreases-put_digits l = l.n
