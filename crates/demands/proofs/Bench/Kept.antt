-- The invariant from the start through every call.
use Prim.Native.Nat.{ℕ, ◌-◌, ◌<◌}
use mathlib.Core.Path.{◌≡◌, refl, ap, sym, ◌∙◌, subst, subst₂}
use mathlib.Core.Bool.{Bool, true, false, cond}
use mathlib.Core.List.{List, [], ◌∷◌}
use native.Mathlib.Omega.{arith}
use lib.Dec.{eqb}
use lib.ListN.{length, get_or}
use borrow.Author.Tests.{eqb-true}
use Rattle.base.specs.Lists.{how_many}
use Rattle.base.proofs.Places.{set_cases}
use Rattle.packet.specs.Refusals.{NoCase}
use Rattle.packet.specs.declared.message.Tx.{Tx}
use Rattle.record.specs.Kind.{kind_of}
use Rattle.record.specs.Record.{closed_seat, opened_seat, fresh_bench, with_entry, seat_of}
use Rattle.seats.specs.Opening.{holds_coupling, opened_bench, closed_bench}
use Rattle.seats.specs.Ticking.{ticked_seat, ticked_bench}
use Rattle.hearing.specs.Hearing.{heard_seat, heard_bench, message_in}
use Rattle.reporting.specs.Reporting.{reported_bench}
use Rattle.sending.specs.Sending.{sent_bench}
use Rattle.bench.specs.Step.{Call, opening, closing, packet, tick, report, received, transmitter, side, totals, keeping, after}
use Rattle.record.specs.declared.kind.Kind.TheVariants.{Single}
use Rattle.record.specs.declared.setup.Setup.{Setup}
use Rattle.record.specs.declared.seat.Seat.{Seat}
use Rattle.record.specs.declared.whole.Bench.{Bench}
use Rattle.demands.specs.ExactCalls.{refusals_of}
use Rattle.demands.specs.SeatAfter.{seat_after}
use Rattle.demands.specs.Kept.{SeatKept, Kept, InRange, AllInRange, KeptThroughout}
use Rattle.demands.proofs.Demand1.Calls.{bench_after, after_call}
use Rattle.seats.proofs.TickingLaws.{ticked_cases}
use Rattle.seats.proofs.Accepted.{open_accepted, side_accepted}
use Rattle.hearing.proofs.Sides.{side_stays}
use Rattle.hearing.proofs.Accepted.{packet_accepted}
use Rattle.record.proofs.Seats.{put_cases, as_many_entries, seat_of_eight_closed}
use Rattle.sending.proofs.Numbers.{as_many_numbers, numbers_fit}
use Rattle.seats.proofs.OpeningLaws.{none_coupling}
use Rattle.demands.proofs.Bench.SeatAfter.{same_setup, as_many_seats, seat_made}
use Rattle.air.proofs.OrderCounts.{many_order_after, length_order_after}
use Rattle.demands.proofs.Bench.KeptSeats.{closed_seat_kept, opened_seat_kept, heard_seat_kept, ticked_seat_kept}

pub kept_fresh : (setup : Setup) → Kept (fresh_bench setup)
unfolding fresh_bench
kept_fresh setup = grind (arith, seat_of_eight_closed)

-- ---- the report sequence numbers

put_fits : (l : List ℕ) (n v i : ℕ) → v < 65536 → ((i : ℕ) → get_or l i 0 < 65536) → get_or (with_entry l n v) i 0 < 65536
put_fits l n v i small fit =
    put_cases l n (λ q. get_or q i 0 < 65536) v (fit i) (set_cases {A = ℕ} 0 (λ k. k < 65536) l (n - 1) i v (fit i) (λ e. small))

-- ---- calls that make no seat Coupling

heard_coupling : (t : Bool) (s : Seat) (m : Tx) → holds_coupling (cond t (heard_seat s m) s) ≡ true → holds_coupling s ≡ true
unfolding heard_seat
heard_coupling t s m e = grind arith

ticked_coupling : (ms : ℕ) (s : Seat) → holds_coupling (ticked_seat ms s) ≡ true → holds_coupling s ≡ true
ticked_coupling ms s = ticked_cases (λ t. holds_coupling t ≡ true → holds_coupling s ≡ true) ms s (λ e. cc) (λ is_open younger e. e) (λ e. e)

-- ---- the order

pub order_kept : (b : Bench) (c : Call) → (length (bench_after b c).order ≡ length b.order) × ((test : ℕ → Bool) → how_many test (bench_after b c).order ≡ how_many test b.order)
unfolding opened_bench closed_bench heard_bench ticked_bench sent_bench reported_bench
order_kept b c = grind (arith, length_order_after, many_order_after)

module _ (b : Bench) (kept : Kept b) where
  sequences_kept : (c : Call) → InRange c → (length (bench_after b c).sequences ≡ 8) × ((i : ℕ) → get_or (bench_after b c).sequences i 0 < 65536)
  unfolding opened_bench closed_bench heard_bench ticked_bench sent_bench reported_bench
  sequences_kept c fits = grind (arith, as_many_entries, as_many_numbers, numbers_fit, put_fits)

  -- ---- each seat

  at_named : (m n : ℕ) (s : Seat) (t : Bool) → eqb n m ≡ t → SeatKept b.setup m s → SeatKept b.setup n (cond t s (seat_of b.seats n))
  at_named m n s t e new = grind (arith, eqb-true)

  seat_kept : (c : Call) → InRange c → NoCase (refusals_of b c) → (n : ℕ) → SeatKept b.setup n (seat_after c n (seat_of b.seats n))
  seat_kept (opening m r) fits none n =
      at_named m n _ (eqb n m) refl (opened_seat_kept b.setup m b.seats r (open_accepted b.setup m b.seats r none) fits.0)
  seat_kept (closing m) fits none n = at_named m n closed_seat (eqb n m) refl (closed_seat_kept b.setup m)
  seat_kept (packet m p) fits none n = by_case (eqb n m) refl
    where
      by_case : (t : Bool) → eqb n m ≡ t → SeatKept b.setup n (cond t (heard_seat (seat_of b.seats n) (message_in p)) (seat_of b.seats n))
      by_case true e =
          subst (λ (k : ℕ). SeatKept b.setup k (heard_seat (seat_of b.seats k) (message_in p))) (sym (eqb-true n m e))
          (heard_seat_kept b.setup m b.seats p (packet_accepted b.setup m (seat_of b.seats m) p none) fits (kept.each_seat m))
      by_case false e = kept.each_seat n
  seat_kept (tick ms timestamp room) fits none n = ticked_seat_kept b.setup n ms (seat_of b.seats n) (kept.each_seat n)
  seat_kept (report m timestamp sound room) fits none n = kept.each_seat n
  seat_kept (received signals level) fits none n = kept.each_seat n
  seat_kept (transmitter healthy) fits none n = kept.each_seat n
  seat_kept (side standby) fits none n = kept.each_seat n
  seat_kept (totals m) fits none n = kept.each_seat n

  -- ---- one seat of call type Coupling

  coupling_kept : (c : Call) → NoCase (refusals_of b c) → (m n : ℕ) → holds_coupling (seat_after c m (seat_of b.seats m)) ≡ true
      → holds_coupling (seat_after c n (seat_of b.seats n)) ≡ true → m ≡ n
  unfolding opened_seat
  coupling_kept c none m n e f = grind (arith, heard_coupling, none_coupling, open_accepted, ticked_coupling)

  -- ---- the side of a single radio

  main_kept : (c : Call) → InRange c → NoCase (refusals_of b c) → kind_of b.setup.kind ≡ Single → (bench_after b c).standby ≡ false
  unfolding opened_bench closed_bench heard_bench heard_seat ticked_bench sent_bench reported_bench
  main_kept c fits none single = grind (arith, heard_seat_kept, packet_accepted, side_accepted, side_stays)

  -- ---- all of it

  kept_made : (c : Call) → InRange c → NoCase (refusals_of b c) → Kept (bench_after b c)
  kept_made c fits none =
      let seat : (n : ℕ) → seat_of (bench_after b c).seats n ≡ seat_after c n (seat_of b.seats n) = seat_made b c kept.eight_seats none in
      record {
        eight_seats = as_many_seats b c ∙ kept.eight_seats;
        eight_sequences = (sequences_kept c fits).0;
        sequences_fit = (sequences_kept c fits).1;
        order_of_eight = (order_kept b c).0 ∙ kept.order_of_eight;
        order_counts = λ n. (order_kept b c).1 (λ m. eqb m n) ∙ kept.order_counts n;
        each_seat = λ n. subst₂ (λ (setup : Setup) (s : Seat). SeatKept setup n s) (sym (same_setup b c)) (sym (seat n)) (seat_kept c fits none n);
        one_coupling = λ m n e f. coupling_kept c none m n (sym (ap holds_coupling (seat m)) ∙ e) (sym (ap holds_coupling (seat n)) ∙ f);
        single_on_main = λ e. main_kept c fits none (sym (ap (λ (setup : Setup). kind_of setup.kind) (same_setup b c)) ∙ e);
      }

pub kept_call : (b : Bench) (c : Call) → Kept b → InRange c → Kept (keeping b c).bench
kept_call b c kept fits = after_call Kept b c kept (kept_made b kept c fits)

pub kept_after : (b : Bench) (cs : List Call) → Kept b → AllInRange cs → Kept (after keeping b cs)
unfolding after
kept_after b [] kept fit = kept
kept_after b (c ∷ cs) kept fit = kept_after (keeping b c).bench cs (kept_call b c kept fit.0) fit.1

pub kept_throughout : KeptThroughout
kept_throughout = record { at_the_start = kept_fresh; by_each_call = kept_call; in_every_run = λ setup cs. kept_after (fresh_bench setup) cs (kept_fresh setup) }
