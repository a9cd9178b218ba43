use Rattle.text.proofs.Writing.{◌and◌}
use Rattle.show.specs.Lines.{decoded_line}
use Rattle.show.proofs.decoded.decode.Goals as goal

pub returns : goal.returns
unfolding decoded_line
returns c =
    (rw (c.read_tx.ensures, c.payload.ensures.holds) at c.answer_line.ensures)
    and c.put_byte.ensures
