-- What the radio's own events set, and what no other call moves.
use Prim.Native.Nat.{ℕ}
use mathlib.Core.Path.{◌≡◌, refl, ap}
use mathlib.Core.Bool.{Bool}
use lib.IntN.{ℤ}
use Rattle.record.specs.Record.{fresh_bench}
use Rattle.record.proofs.Seats.{seat_of_eight_closed}
use Rattle.seats.specs.Opening.{opened_bench, closed_bench}
use Rattle.seats.specs.Ticking.{ticked_bench}
use Rattle.hearing.specs.Hearing.{heard_bench}
use Rattle.reporting.specs.Reporting.{reported_bench}
use Rattle.sending.specs.Sending.{sent_bench}
use Rattle.bench.specs.Step.{Call, opening, closing, packet, tick, report, received, transmitter, side, totals, does, keeping}
use Rattle.record.specs.declared.setup.Setup.{Setup}
use Rattle.record.specs.declared.seat.Seat.{Seat}
use Rattle.record.specs.declared.whole.Bench.{Bench}
use Rattle.demands.specs.EventsSet.{AtStart, EventsSet}
use Rattle.demands.proofs.Demand1.Calls.{bench_after, after_call}

-- a part of the bench that a call does not move where it is accepted, it does not move
pub stays : {A : Type 0} (part : Bench → A) (b : Bench) (c : Call) → part (bench_after b c) ≡ part b → part (keeping b c).bench ≡ part b
stays part b c e = after_call (λ (x : Bench). part x ≡ part b) b c refl (λ clear. e)

at_start : (setup : Setup) → AtStart setup (fresh_bench setup)
unfolding fresh_bench
at_start setup =
    record { set_up = refl; eight = refl; none_open = λ n. ap (λ (s : Seat). s.opened) (seat_of_eight_closed n); main = refl; healthy = refl; no_signal = refl }

signals_kept : (b : Bench) (c : Call) → ((signals : ℕ) (level : ℤ) → c ≡ received signals level → ⊥)
    → ((keeping b c).bench.signals ≡ b.signals) × ((keeping b c).bench.level ≡ b.level)
unfolding opened_bench closed_bench heard_bench ticked_bench sent_bench reported_bench
signals_kept b c other = (stays (λ (x : Bench). x.signals) b c (count c other), stays (λ (x : Bench). x.level) b c (loudness c other))
  where
    count : (c : Call) → ((signals : ℕ) (level : ℤ) → c ≡ received signals level → ⊥) → (bench_after b c).signals ≡ b.signals
    count (opening n r) out = refl
    count (closing n) out = refl
    count (packet n p) out = refl
    count (tick ms timestamp room) out = refl
    count (report n timestamp sound room) out = refl
    count (received signals level) out = absurd (out signals level refl)
    count (transmitter healthy) out = refl
    count (side standby) out = refl
    count (totals n) out = refl

    loudness : (c : Call) → ((signals : ℕ) (level : ℤ) → c ≡ received signals level → ⊥) → (bench_after b c).level ≡ b.level
    loudness (opening n r) out = refl
    loudness (closing n) out = refl
    loudness (packet n p) out = refl
    loudness (tick ms timestamp room) out = refl
    loudness (report n timestamp sound room) out = refl
    loudness (received signals level) out = absurd (out signals level refl)
    loudness (transmitter healthy) out = refl
    loudness (side standby) out = refl
    loudness (totals n) out = refl

health_kept : (b : Bench) (c : Call) → ((healthy : Bool) → c ≡ transmitter healthy → ⊥) → (keeping b c).bench.healthy ≡ b.healthy
unfolding opened_bench closed_bench heard_bench ticked_bench sent_bench reported_bench
health_kept b c other = stays (λ (x : Bench). x.healthy) b c (health c other)
  where
    health : (c : Call) → ((healthy : Bool) → c ≡ transmitter healthy → ⊥) → (bench_after b c).healthy ≡ b.healthy
    health (opening n r) out = refl
    health (closing n) out = refl
    health (packet n p) out = refl
    health (tick ms timestamp room) out = refl
    health (report n timestamp sound room) out = refl
    health (received signals level) out = refl
    health (transmitter healthy) out = absurd (out healthy refl)
    health (side standby) out = refl
    health (totals n) out = refl

pub events_set : EventsSet
unfolding does
events_set =
    record { at_start = at_start; signals_set = λ b signals level. (refl, refl); signals_kept = signals_kept; health_set = λ b healthy. refl; health_kept = health_kept }
