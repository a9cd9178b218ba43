-- What the private functions of the packet's call answer: pieces of the definitions in Hearing.antt, cited by their promises
-- alone.
use Rattle.std.specs.Prelude.{ℕ, List}
use Rattle.packet.specs.Refusals.{Answer, judged}
use Rattle.packet.specs.declared.message.Tx.{Tx}
use Rattle.hearing.specs.Hearing.{message_in, message_refusals, packet_refusals}
use Rattle.record.specs.declared.setup.Setup.{Setup}
use Rattle.record.specs.declared.seat.Seat.{Seat}

-- 19 to 23 and 33, of a message that was read
unfoldable pub message_verdict : Setup → (n : ℕ) → Seat → Tx → Answer (Unit {0})
message_verdict setup n s m = judged (message_refusals setup n s m) tt

-- the message of a packet, where none of the packet's refusals holds
unfoldable pub admitted : Setup → (n : ℕ) → Seat → List ℕ → Answer Tx
admitted setup n s p = judged (packet_refusals setup n s p) (message_in p)
