use Rattle.text.proofs.Writing.{◌and◌}
use Rattle.show.proofs.pieces.named.Goals as goal

pub returns : goal.returns
returns c = c.put.ensures and c.put_number.ensures
