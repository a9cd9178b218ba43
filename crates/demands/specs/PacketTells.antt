-- Second witness of `reader` (read_tx), `seats`, `hearing`: 01, "Packet for a seat", of every bench and every packet: when it is turned
-- away, with which number and cause, and what it answers and leaves where it is not, in the words and numbers of Unreadable (its bytes) and
-- of InWords of `seats` (its seat) and `hearing` (its message).
use Rattle.std.specs.Prelude.{ℕ, ◌≡◌, true, List, length}
use Rattle.base.specs.Bytes.{Bytes}
use Rattle.packet.specs.Refusals.{accepted}
use Rattle.packet.specs.InWords.{TurnedAway}
use Rattle.reader.specs.Reading.{read_tx}
use Rattle.packet.specs.declared.message.Direction.TheVariants as direction
use Rattle.packet.specs.declared.message.Tx.{Tx}
use Rattle.record.specs.Record.{seat_of}
use Rattle.seats.specs.InWords.{SeatBarred}
use Rattle.hearing.specs.InWords.{MessageBarred, Heeded}
use Rattle.bench.specs.Step.{Call, opening, packet, heard, keeping}
use Rattle.record.specs.declared.whole.Bench.{Bench}
use Rattle.seats.specs.declared.opening.Request.{Request}
use Rattle.hearing.specs.declared.hearing.Hearing.{Hearing}
use Rattle.demands.specs.ExactAll.{packet_order}
use Rattle.demands.specs.Unreadable.{Unreadable}

-- A packet p for seat n: what its seat, its bytes, or its message, where it can be read, bars.
pub data PacketBarred (b : Bench) (n : ℕ) (p : List ℕ) (number cause : ℕ) : Type 0 where
  its_seat : SeatBarred b n number cause → PacketBarred b n p number cause
  its_bytes : Unreadable direction.Tx b.setup.ext p number cause → PacketBarred b n p number cause
  its_message : (m : Tx) → read_tx b.setup.ext p ≡ accepted m → MessageBarred b.setup n (seat_of b.seats n) m number cause → PacketBarred b n p number cause

pub record PacketTells : Type 0 where
  -- "Packet 13, 14, 1 to 12, 19 to 23.", and 02: "33, after 23"
  pub turned_away : (b : Bench) (n : ℕ) (p : List ℕ) → Bytes p → TurnedAway (PacketBarred b n p) packet_order (keeping b (packet n p)).answer
  -- accepted, it was read, and its message is heeded
  pub heeded : (b : Bench) (n : ℕ) (p : List ℕ) (h : Hearing) (sound : List ℕ) → length b.seats ≡ 8 → (keeping b (packet n p)).answer ≡ accepted (heard h sound)
      → (m : Tx) × (read_tx b.setup.ext p ≡ accepted m) × Heeded b n m h (keeping b (packet n p)).bench
  -- "its last accepted packet since opening": what a seat has heard stays through every other call, as long as it is open
  pub heard_stays : (b : Bench) (c : Call) (n : ℕ) → length b.seats ≡ 8 → ((p : List ℕ) → c ≡ packet n p → ⊥) → ((r : Request) → c ≡ opening n r → ⊥)
      → let next = seat_of (keeping b c).bench.seats n in next.opened ≡ true → (next.heard ≡ (seat_of b.seats n).heard) × (next.totals ≡ (seat_of b.seats n).totals)
