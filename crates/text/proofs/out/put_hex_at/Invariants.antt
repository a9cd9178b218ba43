use lib.ListN.{take}
use Rattle.text.specs.Text.{Written, hex}
use Rattle.text.proofs.out.put_hex_at.Given as goal

abbrev pub invariant-loop-b : goal.invariant-loop-b
invariant-loop-b l = Written l.fn.out l.out l.at l.next (hex (take l.b-index l.bytes))
