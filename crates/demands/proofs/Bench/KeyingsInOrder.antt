-- The order of keyings, call by call.
use native.Mathlib.Omega.{arith}
use Prim.Native.Nat.{ℕ, ◌≤◌}
use mathlib.Core.Path.{◌≡◌, refl, sym, ap, subst, ◌∙◌}
use mathlib.Core.Bool.{false}
use mathlib.Core.List.{List}
use lib.Dec.{eqb}
use lib.ListN.{length}
use Rattle.base.specs.Lists.{how_many}
use Rattle.packet.specs.Refusals.{NoCase, accepted}
use Rattle.record.specs.Record.{seat_numbers, no_such_seat, fresh_bench, seat_of}
use Rattle.record.proofs.Seats.{in_range_seat, each_seat, seat_in_range}
use Rattle.seats.specs.Opening.{opened_bench, closed_bench}
use Rattle.seats.specs.Ticking.{ticked_bench}
use Rattle.air.specs.Order.{order_after}
use Rattle.air.specs.InWords.{last_field, Begins, OnceEach, MovedLast}
use Rattle.air.proofs.OrderInWords.{moved_last, unmoved}
use Rattle.hearing.specs.Hearing.{field_heard, message_in, heard_seat, heard_bench}
use Rattle.hearing.proofs.Accepted.{packet_accepted, type_known}
use Rattle.reporting.specs.Reporting.{reported_bench}
use Rattle.sending.specs.Sending.{sent_bench}
use Rattle.bench.specs.Step.{Call, opening, closing, packet, tick, report, received, transmitter, side, totals, Said, keeping, after}
use Rattle.record.specs.declared.setup.Setup.{Setup}
use Rattle.record.specs.declared.whole.Bench.{Bench}
use Rattle.demands.specs.ExactCalls.{refusals_of}
use Rattle.demands.specs.KeyingsInOrder.{ByPacket, KeyingsInOrder}
use Rattle.demands.proofs.Demand1.Calls.{bench_after, was_accepted_lem, accepted_bench, after_call}
use Rattle.demands.proofs.Bench.Runs.{after_run}
use Rattle.demands.proofs.Bench.Kept.{order_kept}
use Rattle.demands.proofs.Bench.SeatAfter.{seat_after_lem}
use Rattle.demands.proofs.Bench.EventsSet.{stays}

-- ---- a packet

module _ (b : Bench) (n : ℕ) (p : List ℕ) (said : Said) (e : (keeping b (packet n p)).answer ≡ accepted said) where
  clear : NoCase (refusals_of b (packet n p))
  clear = (was_accepted_lem b (packet n p) said e).0

  pub next_order : (keeping b (packet n p)).bench.order ≡ order_after n (last_field b n) (field_heard (message_in p)) b.order
  unfolding heard_bench
  next_order = ap (λ (x : Bench). x.order) (accepted_bench b (packet n p) clear)

  pub known_type : (message_in p).ptt ≤ 5
  known_type = type_known b.setup.ext p (packet_accepted b.setup n (seat_of b.seats n) p clear).was_read

  next_field : length b.seats ≡ 8 → last_field (keeping b (packet n p)).bench n ≡ field_heard (message_in p)
  unfolding heard_seat
  next_field eight = grind (arith, clear, seat_after_lem)

  by_packet : length b.seats ≡ 8 → ByPacket n b (keeping b (packet n p)).bench
  by_packet eight =
      let old = last_field b n in
      let new = field_heard (message_in p) in
      let real = seat_in_range n (packet_accepted b.setup n (seat_of b.seats n) p clear).is_seat in
      record {
        begins = λ once g. subst (MovedLast n b.order) (sym next_order) (moved_last n old new b.order (subst (Begins old) (next_field eight) g) once real.0 real.1);
        goes_on = λ out. next_order ∙ unmoved n old new b.order (λ g. out (subst (Begins old) (sym (next_field eight)) g));
      }

-- ---- every other call

pub other_calls : (b : Bench) (c : Call) → ((n : ℕ) (p : List ℕ) → c ≡ packet n p → ⊥) → (keeping b c).bench.order ≡ b.order
unfolding opened_bench closed_bench ticked_bench sent_bench reported_bench
other_calls b c no-packet = stays (λ (x : Bench). x.order) b c (by_call c no-packet)
  where
    by_call : (c : Call) → ((n : ℕ) (p : List ℕ) → c ≡ packet n p → ⊥) → (bench_after b c).order ≡ b.order
    by_call (opening n r) out = refl
    by_call (closing n) out = refl
    by_call (packet n p) out = absurd (out n p refl)
    by_call (tick ms timestamp room) out = refl
    by_call (report n timestamp sound room) out = refl
    by_call (received signals level) out = refl
    by_call (transmitter healthy) out = refl
    by_call (side standby) out = refl
    by_call (totals n) out = refl

-- ---- every run

abbrev pub Counted : Bench → Type 0
Counted b = (n : ℕ) → how_many (λ m. eqb m n) b.order ≡ how_many (λ m. eqb m n) seat_numbers

pub counted_call : (b : Bench) (c : Call) → Counted b → Counted (keeping b c).bench
counted_call b c counted = after_call Counted b c counted (λ clear n. (order_kept b c).1 (λ m. eqb m n) ∙ counted n)

pub counted_fresh : (setup : Setup) → Counted (fresh_bench setup)
unfolding fresh_bench
counted_fresh setup n = refl

pub counted_once : (b : Bench) → Counted b → OnceEach b.order
counted_once b counted n low high = counted n ∙ one n (in_range_seat n low high)
  where
    one : (n : ℕ) → no_such_seat n ≡ false → how_many (λ m. eqb m n) seat_numbers ≡ 1
    one = each_seat (λ n. how_many (λ m. eqb m n) seat_numbers ≡ 1) (unfold how_many in (refl, refl, refl, refl, refl, refl, refl, refl))

in_every_run : (setup : Setup) (cs : List Call) → OnceEach (after keeping (fresh_bench setup) cs).order
in_every_run setup cs = counted_once (after keeping (fresh_bench setup) cs) (after_run Counted counted_call (fresh_bench setup) cs (counted_fresh setup))

pub keyings_in_order : KeyingsInOrder
keyings_in_order = record { by_packet = λ b n p said eight e. by_packet b n p said e eight; other_calls = other_calls; in_every_run = in_every_run }
