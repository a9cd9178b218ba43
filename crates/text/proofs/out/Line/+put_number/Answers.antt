use native.Mathlib.Omega.{arith}
use Rattle.text.proofs.Digits.{last_digit, next_digit}
use Rattle.text.proofs.out.Line.+put_number.Goals as goal
use Rattle.text.proofs.out.Line.+put_number.Goals.{then-n-ge10, else-n-ge10}

pub returns : goal.returns
returns t c = elim c.if-n-ge10.branch [
  | then-n-ge10 w ↦ next_digit c.args.n (omega arith) (rw w.self-is w.put_number.ensures) c.put_byte.ensures
  | else-n-ge10 w ↦ last_digit c.args.n (omega arith) (rw (← w.self-is) c.put_byte.ensures)
]
