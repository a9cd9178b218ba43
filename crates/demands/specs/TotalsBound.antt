-- 02, request 14: "33, after 23, if heard plus missing would pass 4,000,000,000." The bound from both sides, in computed calls on records that stand
-- near it, made by hand.
use Rattle.std.specs.Prelude.{ℕ, ◌≡◌, true, false, None, Some}
use Rattle.packet.specs.Packet.{normal}
use Rattle.packet.specs.Refusals.{Answer, accepted, refused}
use Rattle.packet.specs.Messages.{from_tx}
use Rattle.packet.specs.declared.message.Side.TheVariants.{Main}
use Rattle.writer.specs.Writing.{encode}
use Rattle.record.specs.Record.{fresh_bench, with_seat}
use Rattle.seats.specs.Opening.{call_code}
use Rattle.hearing.specs.Hearing.{heard_of}
use Rattle.bench.specs.Step.{Call, packet, totals, Said, totalled, keeping}
use Rattle.record.specs.declared.seat.Seat.{Seat}
use Rattle.record.specs.declared.whole.Bench.{Bench}
use Rattle.seats.specs.declared.opening.CallType.TheVariants.{TxRx}
use Rattle.demands.specs.LessonsSeen.{lab, voice, keying, keys, sounds}

-- seat 1, whose last packet had the number 1
abbrev pub counting : (packets missing : ℕ) → Seat
counting packets missing =
    record {
      opened = true;
      call = call_code TxRx;
      period = 20;
      multiplier = 2;
      left = 40;
      phase = 0;
      ssrc = 7;
      heard = heard_of (keying 1 normal 1 false);
      totals = record { heard = packets; missing = missing };
    }

abbrev pub stands : (packets missing : ℕ) → Bench
stands packets missing = with_seat (fresh_bench lab) 1 (counting packets missing)

-- a packet with an item that a single radio refuses
abbrev pub asks_side : (sequence : ℕ) → Call
asks_side sequence =
    packet 1 (
    encode 0x0167
    (from_tx (record { sequence = sequence; timestamp = 0; ssrc = 1; ptt = normal; id = 1; pm = false; ptts = false; climax = None; side = Some Main }))
    voice)

abbrev pub answer_on : Bench → Call → Answer Said
answer_on b c = (keeping b c).answer

pub record TotalsBound : Type 0 where
  -- 3,999,999,999 so far: the next packet brings 4,000,000,000 and passes,
  pub reaches : answer_on (stands 1000000000 2999999999) (keys 1 normal 2) ≡ sounds 0 false
  pub reached : answer_on (keeping (stands 1000000000 2999999999) (keys 1 normal 2)).bench (totals 1) ≡ accepted (totalled 1000000001 2999999999)
  -- the next but one brings 4,000,000,001 and is refused,
  pub passes : answer_on (stands 1000000000 2999999999) (keys 1 normal 3) ≡ refused 33 0
  -- and so is the next one from 4,000,000,000 on
  pub passes_next : answer_on (keeping (stands 1000000000 2999999999) (keys 1 normal 2)).bench (keys 1 normal 3) ≡ refused 33 0
  -- by the largest distance, from both sides
  pub leaps : answer_on (stands 1 3999967232) (keys 1 normal 32768) ≡ sounds 32766 false
  pub leaps_past : answer_on (stands 1 3999967233) (keys 1 normal 32768) ≡ refused 33 0
  -- "after 23": where both hold, 23
  pub side_first : answer_on (stands 1000000000 2999999999) (asks_side 3) ≡ refused 23 0
  -- a record that no calls lead to: in 32 bits one more would wrap to 0
  pub never_wraps : answer_on (stands 4294967295 0) (keys 1 normal 2) ≡ refused 33 0
