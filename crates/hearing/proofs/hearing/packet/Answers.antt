use native.Mathlib.Omega.{arith}
use Rattle.hearing.specs.Hearing.{is_sent, same_field}
use Rattle.hearing.proofs.PacketSteps.{said_of_admitted}
use Rattle.hearing.proofs.hearing.packet.Goals as goal

pub returns-in-Ok-clause-answer : goal.returns-in-Ok-clause-answer
unfolding is_sent same_field
returns-in-Ok-clause-answer c = grind (arith, said_of_admitted)
