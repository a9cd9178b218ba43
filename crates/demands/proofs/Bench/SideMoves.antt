-- What moves the side in use.
use native.Mathlib.Omega.{arith}
use Prim.Native.Nat.{ℕ}
use mathlib.Core.Path.{◌≡◌, refl}
use mathlib.Core.Bool.{Bool}
use mathlib.Core.List.{List}
use mathlib.Core.Logic.{◌⊎◌}
use Rattle.packet.specs.InWords.{TurnedAway}
use Rattle.packet.proofs.InWords.{turned_away}
use Rattle.record.specs.Kind.{kind_of}
use Rattle.seats.specs.Opening.{opened_bench, closed_bench}
use Rattle.seats.specs.Ticking.{ticked_bench}
use Rattle.seats.specs.Radio.{side_refusals, side_said}
use Rattle.seats.specs.InWords.{EventBarred}
use Rattle.seats.proofs.InWords.{event_agrees}
use Rattle.reporting.specs.Reporting.{reported_bench}
use Rattle.sending.specs.Sending.{sent_bench}
use Rattle.bench.specs.Step.{Call, opening, closing, packet, tick, report, received, transmitter, side, totals, does, keeping}
use Rattle.record.specs.declared.whole.Bench.{Bench}
use Rattle.demands.specs.ExactCalls.{refusals_of}
use Rattle.demands.specs.ExactAll.{side_order}
use Rattle.demands.specs.SideMoves.{SideMoves}
use Rattle.demands.proofs.Demand1.Calls.{said_by, call_answer, bench_after}
use Rattle.demands.proofs.Bench.EventsSet.{stays}

turned : (b : Bench) (standby : Bool) → TurnedAway (EventBarred b.setup.kind) side_order (keeping b (side standby)).answer
unfolding side_refusals
turned b standby = rw (call_answer b (side standby)) (turned_away _ (said_by b (side standby)) (refusals_of b (side standby)) (event_agrees b))

by_event : (b : Bench) (standby : Bool) → (b.setup.kind ≡ 1) ⊎ (b.setup.kind ≡ 2) → (keeping b (side standby)).bench.standby ≡ standby
unfolding does side_said side_refusals kind_of
by_event b standby h = grind arith

other_calls : (b : Bench) (c : Call) → ((n : ℕ) (p : List ℕ) → c ≡ packet n p → ⊥) → ((standby : Bool) → c ≡ side standby → ⊥) → (keeping b c).bench.standby ≡ b.standby
unfolding opened_bench closed_bench ticked_bench sent_bench reported_bench
other_calls b c no-packet no-event = stays (λ (x : Bench). x.standby) b c (by_call c no-packet no-event)
  where
    by_call : (c : Call) → ((n : ℕ) (p : List ℕ) → c ≡ packet n p → ⊥) → ((standby : Bool) → c ≡ side standby → ⊥) → (bench_after b c).standby ≡ b.standby
    by_call (opening n r) no-packet no-event = refl
    by_call (closing n) no-packet no-event = refl
    by_call (packet n p) no-packet no-event = absurd (no-packet n p refl)
    by_call (tick ms timestamp room) no-packet no-event = refl
    by_call (report n timestamp sound room) no-packet no-event = refl
    by_call (received signals level) no-packet no-event = refl
    by_call (transmitter healthy) no-packet no-event = refl
    by_call (side standby) no-packet no-event = absurd (no-event standby refl)
    by_call (totals n) no-packet no-event = refl

pub side_moves : SideMoves
side_moves = record { turned_away = turned; by_event = by_event; other_calls = other_calls }
