use mathlib.Core.Path.{◌≡◌}
use lib.ListN.{take}
use Rattle.sending.specs.Sending.{reported_to}
use Rattle.sending.proofs.sending.reported_to.Given as goal

abbrev pub invariant-loop-i : goal.invariant-loop-i
invariant-loop-i l = l.b ≡ reported_to (take l.i l.fn.reported) l.fn.b
