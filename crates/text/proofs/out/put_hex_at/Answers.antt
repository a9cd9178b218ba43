use borrow.Author.Rules.{rules}
use Rattle.text.proofs.Hex.{hex_begun, hex_then_next}
use Rattle.text.proofs.out.put_hex_at.Goals as goal

pub loop-b-init : goal.loop-b-init
loop-b-init c = search (hex_begun, rules)

pub loop-b-preserved : goal.loop-b-preserved
loop-b-preserved c = search (hex_then_next, rules)
