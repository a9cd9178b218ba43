use mathlib.Core.Path.{◌≡◌}
use Rattle.base.proofs.Loops.{changed_to}
use Rattle.seats.specs.Ticking.{ticked_seat}
use Rattle.seats.proofs.ticking.ticked_bench.Given as goal

abbrev pub invariant-loop-s : goal.invariant-loop-s
invariant-loop-s l = l.s-items ≡ changed_to (ticked_seat l.ms) l.s-index l.initial.s-items
