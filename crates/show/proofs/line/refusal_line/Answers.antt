use Rattle.text.proofs.Writing.{◌and◌}
use Rattle.show.specs.Lines.{refusal_line}
use Rattle.show.proofs.line.refusal_line.Goals as goal

pub returns : goal.returns
unfolding refusal_line
returns c =
    rw (← c.cause.ensures, ← c.number.ensures) (c.refused_line.ensures and c.named.ensures)
