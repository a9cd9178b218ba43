-- Second witness of `air`: 01: "the order in which present keyings began"; "A keying begins at the packet that brought the seat from off,
-- muted or another type; a transmitter fault doesn't restart it." Call by call, in the words of crate `air` (InWords).
use Rattle.std.specs.Prelude.{ℕ, ◌≡◌, List, length}
use Rattle.packet.specs.Refusals.{accepted}
use Rattle.record.specs.Record.{fresh_bench}
use Rattle.air.specs.InWords.{last_field, Begins, OnceEach, MovedLast}
use Rattle.bench.specs.Step.{Call, packet, Said, keeping, after}
use Rattle.record.specs.declared.setup.Setup.{Setup}
use Rattle.record.specs.declared.whole.Bench.{Bench}

-- An accepted packet for seat n, from one bench to the next.
pub record ByPacket (n : ℕ) (b next : Bench) : Type 0 where
  pub begins : OnceEach b.order → Begins (last_field b n) (last_field next n) → MovedLast n b.order next.order
  -- no other moves a seat
  pub goes_on : (Begins (last_field b n) (last_field next n) → ⊥) → next.order ≡ b.order

pub record KeyingsInOrder : Type 0 where
  pub by_packet : (b : Bench) (n : ℕ) (p : List ℕ) (said : Said) → length b.seats ≡ 8 → (keeping b (packet n p)).answer ≡ accepted said → ByPacket n b (keeping b (packet n p)).bench
  -- and no other call does (nor one that is refused: ExactCalls, refused_keeps)
  pub other_calls : (b : Bench) (c : Call) → ((n : ℕ) (p : List ℕ) → c ≡ packet n p → ⊥) → (keeping b c).bench.order ≡ b.order
  pub in_every_run : (setup : Setup) (cs : List Call) → OnceEach (after keeping (fresh_bench setup) cs).order
