use Rattle.text.proofs.Writing.{◌and◌}
use Rattle.show.proofs.pieces.put_head.Goals as goal

pub returns : goal.returns
returns c =
    c.put.ensures
    and c.named.ensures
    and c.named-2.ensures
    and c.named-3.ensures
    and c.put_kind.ensures
    and c.named-4.ensures
