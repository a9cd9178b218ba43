use Rattle.std.proofs.Common.{◌≤◌, length}
use Rattle.write_each.proofs.read_full.Given as goal

abbrev pub invariant-loop : goal.invariant-loop
invariant-loop g l = l.n ≤ length l.buffer
