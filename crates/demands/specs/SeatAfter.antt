-- What one call does to one seat: a call that is refused nothing, and an accepted one what its kind says, to the seat that
-- it names alone; only a tick goes to all.
use Rattle.std.specs.Prelude.{ℕ, ◌≡◌, cond, List, [], ◌∷◌, eqb, length}
use Rattle.packet.specs.Refusals.{NoCase}
use Rattle.record.specs.Record.{closed_seat, opened_seat, seat_of}
use Rattle.seats.specs.Opening.{call_code}
use Rattle.seats.specs.Ticking.{ticked_seat}
use Rattle.hearing.specs.Hearing.{heard_seat, message_in}
use Rattle.bench.specs.Step.{Call, opening, closing, packet, tick, report, received, transmitter, side, totals, keeping, after, accepted_calls}
use Rattle.record.specs.declared.seat.Seat.{Seat}
use Rattle.record.specs.declared.whole.Bench.{Bench}
use Rattle.demands.specs.ExactCalls.{refusals_of}

-- what an accepted call makes of seat n
abbrev pub seat_after : Call → (n : ℕ) → Seat → Seat
seat_after (opening m r) n s = cond (eqb n m) (opened_seat (call_code r.call) r.period r.multiplier r.ssrc) s
seat_after (closing m) n s = cond (eqb n m) closed_seat s
seat_after (packet m p) n s = cond (eqb n m) (heard_seat s (message_in p)) s
seat_after (tick ms timestamp room) n s = ticked_seat ms s
seat_after (report m timestamp sound room) n s = s
seat_after (received signals level) n s = s
seat_after (transmitter healthy) n s = s
seat_after (side standby) n s = s
seat_after (totals m) n s = s

-- What the accepted calls make of seat n, one after the other.
unfoldable pub seat_through : List Call → (n : ℕ) → Seat → Seat
seat_through [] n s = s
seat_through (c ∷ cs) n s = seat_through cs n (seat_after c n s)

pub record SeatsByCalls : Type 0 where
  pub seat_after_lem : (b : Bench) (c : Call) → length b.seats ≡ 8 → NoCase (refusals_of b c) → (n : ℕ)
      → seat_of (keeping b c).bench.seats n ≡ seat_after c n (seat_of b.seats n)
  -- a seat is what the accepted calls made of it
  pub seat_story : (b : Bench) (cs : List Call) → length b.seats ≡ 8 → (n : ℕ)
      → seat_of (after keeping b cs).seats n ≡ seat_through (accepted_calls keeping b cs) n (seat_of b.seats n)
  -- and so is the bench: calls that are refused might as well not have been made
  pub accepted_alone : (b : Bench) (cs : List Call) → after keeping b cs ≡ after keeping b (accepted_calls keeping b cs)
  pub eight_seats : (b : Bench) (c : Call) → length (keeping b c).bench.seats ≡ length b.seats
  -- "Every set-up is allowed, and it stays fixed."
  pub setup_kept : (b : Bench) (c : Call) → (keeping b c).bench.setup ≡ b.setup
