use Rattle.text.proofs.Writing.{◌and◌}
use Rattle.show.specs.Lines.{tx_line}
use Rattle.show.proofs.Bits.{bit_is_number}
use Rattle.show.proofs.line.tx_line.Goals as goal

pub returns : goal.returns
unfolding tx_line
returns c =
    simp bit_is_number at
    (c.put_head.ensures
    and c.named.ensures
    and c.named-2.ensures
    and c.named-3.ensures
    and c.put_climax.ensures
    and c.put_side.ensures
    and c.named-4.ensures)
