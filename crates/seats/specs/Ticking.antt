-- 01, Silence: what a tick does to a seat, and to every seat.
use Rattle.std.specs.Prelude.{ℕ, ◌+◌, ◌-◌, ◌%◌, Bool, cond, not, ◌&&◌, List, map, leb, eqb}
use Rattle.record.specs.Record.{closed_seat, with_seats}
use Rattle.record.specs.declared.seat.Seat.{Seat}
use Rattle.record.specs.declared.whole.Bench.{Bench}

-- "A tick takes its ms from that; the seat is closed if nothing is left."
abbrev pub nothing_left : (ms : ℕ) → Seat → Bool
nothing_left ms s = leb s.left ms

unfoldable pub falls_silent : (ms : ℕ) → Seat → Bool
falls_silent ms s = s.opened && nothing_left ms s

-- "A seat is due when its period, counted from opening, runs out; several in one tick count once and the phase is kept."
-- (No open seat has period 0; a record that has one is due at every tick and keeps no phase.)
abbrev pub phase_after : (ms period phase : ℕ) → ℕ
phase_after ms period phase = cond (eqb period 0) 0 ((phase + ms) % period)

-- "A closed seat isn't due."
unfoldable pub is_due : (ms : ℕ) → Seat → Bool
is_due ms s = s.opened && not (nothing_left ms s) && leb s.period (s.phase + ms)

abbrev pub aged : (ms : ℕ) → Seat → Seat
aged ms s =
    record {
      opened = s.opened;
      call = s.call;
      period = s.period;
      multiplier = s.multiplier;
      left = s.left - ms;
      phase = phase_after ms s.period s.phase;
      ssrc = s.ssrc;
      heard = s.heard;
      totals = s.totals;
    }

-- the seat after a tick: closed by silence, a while older, or closed as it was
unfoldable pub ticked_seat : (ms : ℕ) → Seat → Seat
ticked_seat ms s = cond s.opened (cond (nothing_left ms s) closed_seat (aged ms s)) s

-- "It answers the seats closed by silence (cause 2001) and the seats due a report": which these are. (The call itself, with the
-- reports that it writes, is in `sending`.)
abbrev pub silence_cause : ℕ
silence_cause = 2001

abbrev pub silent_seats : Bench → (ms : ℕ) → List Bool
silent_seats b ms = map (falls_silent ms) b.seats

abbrev pub due_seats : Bench → (ms : ℕ) → List Bool
due_seats b ms = map (is_due ms) b.seats

-- and the bench with every seat after it, its closings among them
unfoldable pub ticked_bench : Bench → (ms : ℕ) → Bench
ticked_bench b ms = with_seats b (map (ticked_seat ms) b.seats)
