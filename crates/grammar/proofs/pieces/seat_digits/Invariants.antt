use Rattle.std.proofs.Common.{◌≡◌, length}
use Rattle.grammar.specs.Said.{seat_digits}
use Rattle.grammar.proofs.pieces.seat_digits.Given as goal

abbrev pub invariant-loop-b : goal.invariant-loop-b
invariant-loop-b l = seat_digits l.rest ≡ seat_digits l.w

abbrev pub decreases-loop-b : goal.decreases-loop-b
decreases-loop-b l = length l.rest
