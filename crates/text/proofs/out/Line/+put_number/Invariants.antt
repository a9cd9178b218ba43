-- A number is put by putting its quotient first: the number itself is the measure.
use Rattle.text.proofs.out.Line.+put_number.Given as goal

abbrev pub decreases-put_number : goal.decreases-put_number
decreases-put_number l = l.n
