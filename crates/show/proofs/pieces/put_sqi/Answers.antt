use Rattle.text.proofs.Writing.{◌and◌}
use Rattle.show.proofs.pieces.put_sqi.Goals as goal

pub returns-in-Some : goal.returns-in-Some
returns-in-Some c =
    rw c.in-Some.is (c.named.ensures and c.named-in-Some.ensures)
