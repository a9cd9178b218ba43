use Prim.Native.Nat.{◌*◌, ◌≤◌}
use mathlib.Core.Path.{◌≡◌}
use lib.ListN.{length}
use Rattle.base.specs.Bytes.{overlaid}
use Rattle.sending.proofs.SendingLaws.{sent_to}
use Rattle.sending.proofs.sending.put_reports.Given as goal

abbrev pub invariant-loop-i : goal.invariant-loop-i
invariant-loop-i l = record {
  most : l.used ≤ 26 * l.i;
  inside : l.used ≤ length l.initial.out;
  long : l.used ≡ length (sent_to l.shown l.timestamp l.i l.fn.due);
  front : l.out ≡ overlaid (sent_to l.shown l.timestamp l.i l.fn.due) l.initial.out;
}
