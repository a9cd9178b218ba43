use mathlib.Core.Path.{◌≡◌}
use lib.ListN.{drop}
use Rattle.air.specs.Marks.{mark_all, seats_at}
use Rattle.air.proofs.air.mark_at.Given as goal

abbrev pub invariant-loop-k : goal.invariant-loop-k
invariant-loop-k l = mark_all l.marks (seats_at l.rank (drop l.k-index l.ranks)) ≡ mark_all l.fn.marks (seats_at l.rank l.ranks)
