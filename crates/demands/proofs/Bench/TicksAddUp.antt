-- Ticks add up: from the laws of one seat and of the numbers to what a tick tells and leaves, and to runs of ticks.
use Prim.Native.Nat.{ℕ, suc, ◌+◌, ◌-◌, ◌≤◌, ◌<◌}
use mathlib.Core.Path.{◌≡◌, refl, sym, ap, ap₂, subst, ◌∙◌}
use mathlib.Core.Bool.{Bool, false, cond}
use mathlib.Core.List.{List, [], ◌∷◌, map}
use mathlib.Core.Logic.{◌↔◌}
use native.Mathlib.Omega.{arith}
use native.Mathlib.Nat.{add-zero}
use lib.ListN.{length, get_or, replicate, length-map}
use lib.Seq.{ext_get_or}
use borrow.Author.Tests.{le-ltb}
use Rattle.base.proofs.Places.{all_alike, map_place}
use Rattle.base.proofs.Truths.{either_way}
use Rattle.packet.specs.Refusals.{Answer, accepted, judged}
use Rattle.packet.proofs.Judged.{accepts}
use Rattle.record.specs.Record.{no_such_seat, closed_seat, seat_of, with_seats, with_sequences, with_air}
use Rattle.record.proofs.Seats.{entry_changed, seat_at, seat_changed}
use Rattle.writer.specs.Writing.{filled}
use Rattle.air.specs.Air.{keyings, bench_air, aired}
use Rattle.air.proofs.Kept.{air_unread}
use Rattle.seats.specs.Ticking.{falls_silent, is_due, ticked_seat, silent_seats, due_seats, ticked_bench}
use Rattle.seats.proofs.TwoTicks.{seats_add, Fate, fate, closed_together, due_among_open, one_difference, none_alone, InTime, Unmoved, in_time_unmoved, unmoved_in_time}
use Rattle.sending.specs.Sending.{most_sent, tick_refusals, after_closings, records_from, records, in_order, sent_bytes, one_further, reported_to, sent_bench, no_seats, tick_said, tick_buffer, runs_further}
use Rattle.sending.proofs.Numbers.{none_further}
use Rattle.sending.proofs.TwoTicks.{sent_adds}
use Rattle.bench.specs.Step.{ticked, Said, Outcome, keeping, after}
use Rattle.record.specs.declared.seat.Seat.{Seat}
use Rattle.record.specs.declared.whole.Bench.{Bench}
use Rattle.demands.specs.ExactCalls.{refusals_of}
use Rattle.demands.specs.Kept.{Kept}
use Rattle.demands.specs.AirKept.{AirRight}
use Rattle.demands.specs.TicksAddUp.{Tick, called, NotRefused, NoneRefused, ToldAlike, is_in, MayMerge, time, but_numbers, ZeroChangesNothing, TicksAddUp}
use Rattle.demands.proofs.Demand1.Calls.{said_by, call_answer, accepted_bench}

-- ---- one tick

-- a tick that is not refused
module _ (b : Bench) (t : Tick) (fine : NotRefused t) where
  tick_names : (keeping b (called t)).answer ≡ accepted (ticked (silent_seats b t.ms) (due_seats b t.ms) (records b t.ms t.timestamp))
  tick_names = call_answer b (called t) ∙ accepts (said_by b (called t)) (refusals_of b (called t)) fine

  after_tick : after keeping b (called t ∷ []) ≡ aired (sent_bench b t.ms)
  unfolding after
  after_tick = accepted_bench b (called t) fine

-- what is told of a seat
flag : (f : Seat → Bool) → f closed_seat ≡ false → (seats : List Seat) (n : ℕ) → is_in (map f seats) n ≡ f (seat_of seats n)
unfolding is_in seat_of
flag f shut seats n = entry_changed f closed_seat shut seats n

closed_flag : (b : Bench) (ms n : ℕ) → is_in (silent_seats b ms) n ≡ falls_silent ms (seat_of b.seats n)
unfolding falls_silent
closed_flag b ms n = flag (falls_silent ms) refl b.seats n

pub due_flag : (b : Bench) (ms n : ℕ) → is_in (due_seats b ms) n ≡ is_due ms (seat_of b.seats n)
unfolding is_due
due_flag b ms n = flag (is_due ms) refl b.seats n

ticked_seat_lem : (b : Bench) (ms n : ℕ) → seat_of (sent_bench b ms).seats n ≡ ticked_seat ms (seat_of b.seats n)
unfolding sent_bench ticked_bench ticked_seat
ticked_seat_lem b ms n = seat_changed (ticked_seat ms) refl b.seats n

-- ---- two ticks

-- the bench of two ticks, with the air made right after each
bench_adds : (b : Bench) (x y : ℕ) → aired (sent_bench (aired (sent_bench b x)) y) ≡ reported_to (map (runs_further x y) b.seats) (aired (sent_bench b (x + y)))
unfolding sent_bench ticked_bench bench_air keyings
bench_adds b x y = ap aired (sent_adds x y b)

alike : {c₁ c₂ c d₁ d₂ d up : Bool} → Fate c₁ c₂ c d₁ d₂ d up → ToldAlike c₁ c₂ c d₁ d₂ d up
alike f = record { together = closed_together f; among_open = due_among_open f; one_difference = one_difference f; none_alone = none_alone f }

two_ticks : (b : Bench) (first second merged : Tick) → NoneRefused (first ∷ second ∷ merged ∷ []) → first.ms + second.ms ≡ merged.ms
    → MayMerge b first second merged
unfolding after
two_ticks b first second merged (at_first, (at_second, (at-merged, end))) same =
    let x = first.ms in
    let y = second.ms in
    let then = aired (sent_bench b x) in
    record {
      bench =
          ap (λ (c : Bench). (keeping c (called second)).bench) (after_tick b first at_first)
          ∙ after_tick then second at_second
          ∙ bench_adds b x y
          ∙ ap (λ (ms : ℕ). reported_to (map (runs_further x y) b.seats) (aired (sent_bench b ms))) same
          ∙ ap (reported_to (map (runs_further x y) b.seats)) (sym (after_tick b merged at-merged));
      seats = λ n.
          rw (
            after_tick b first at_first,
            after_tick b merged at-merged,
            sym same,
            closed_flag b x n,
            closed_flag then y n,
            closed_flag b (x + y) n,
            due_flag b x n,
            due_flag then y n,
            due_flag b (x + y) n,
            ticked_seat_lem b x n,
            ticked_seat_lem b (x + y) n,
          )
          (alike (fate x y (seat_of b.seats n)));
    }

-- ---- runs of ticks

-- the numbers aside, ticks add up to the time they take
numbers_aside : (b : Bench) (x y : ℕ) → but_numbers (aired (ticked_bench (aired (sent_bench b x)) y)) ≡ but_numbers (aired (ticked_bench b (x + y)))
unfolding sent_bench ticked_bench bench_air keyings
numbers_aside b x y = ap (λ (seats : List Seat). but_numbers (aired (with_seats b seats))) (seats_add x y b.seats)

-- and so do runs of them
run_of_ticks : (b : Bench) (x : Tick) (xs : List Tick) → NoneRefused (x ∷ xs)
    → but_numbers (after keeping b (map called (x ∷ xs))) ≡ but_numbers (aired (ticked_bench b (time (x ∷ xs))))
unfolding after time
run_of_ticks b x [] none =
    ap but_numbers (after_tick b x none.0)
    ∙ (unfold sent_bench bench_air keyings in ap (λ (ms : ℕ). but_numbers (aired (ticked_bench b ms))) (sym (add-zero x.ms)))
run_of_ticks b x (y ∷ ys) none =
    ap (λ (c : Bench). but_numbers (after keeping c (map called (y ∷ ys)))) (after_tick b x none.0)
    ∙ run_of_ticks (aired (sent_bench b x.ms)) y ys none.1
    ∙ numbers_aside b x.ms (time (y ∷ ys))

same_time : (b : Bench) (x y : Tick) (xs ys : List Tick) → NoneRefused (x ∷ xs) → NoneRefused (y ∷ ys)
    → time (x ∷ xs) ≡ time (y ∷ ys) → but_numbers (after keeping b (map called (x ∷ xs))) ≡ but_numbers (after keeping b (map called (y ∷ ys)))
same_time b x y xs ys h k e = run_of_ticks b x xs h ∙ ap (λ (ms : ℕ). but_numbers (aired (ticked_bench b ms))) e ∙ sym (run_of_ticks b y ys k)

-- ---- a tick of 0

-- nobody is in the set of nobody
none_in : (n : ℕ) → is_in (replicate 8 false) n ≡ false
unfolding is_in
none_in n = ap (cond (no_such_seat n) false) (all_alike false 8 (n - 1)) ∙ either_way (no_such_seat n) false

-- where each seat is in time nobody is told, no number moves and nothing is sent
module _ (b : Bench) (eight : length b.seats ≡ 8) (in-time : (n : ℕ) → InTime (seat_of b.seats n)) where
  -- a list made of the seats, place by place
  by_place : {A : Type 0} (f : Seat → A) (d : A) → f closed_seat ≡ d → (l : List A) → length l ≡ 8
      → ((i : ℕ) → Unmoved (get_or b.seats i closed_seat) → f (get_or b.seats i closed_seat) ≡ get_or l i d) → map f b.seats ≡ l
  by_place f d shut l long each =
      ext_get_or d (map f b.seats) l (length-map b.seats f ∙ eight ∙ sym long)
      (λ i h. map_place f closed_seat shut b.seats i ∙ each i (unmoved i (omega (arith, length-map b.seats f))))
    where
      unmoved : (i : ℕ) → i < 8 → Unmoved (get_or b.seats i closed_seat)
      unmoved i h = in_time_unmoved _ (subst InTime (seat_at b.seats i h) (in-time (suc i)))

  none_closed : silent_seats b 0 ≡ replicate 8 false
  unfolding falls_silent
  none_closed = by_place (falls_silent 0) false refl (replicate 8 false) refl (λ i unmoved. unmoved.not_silent ∙ sym (all_alike false 8 i))

  none_due : due_seats b 0 ≡ replicate 8 false
  unfolding is_due
  none_due = by_place (is_due 0) false refl (replicate 8 false) refl (λ i unmoved. unmoved.not_due ∙ sym (all_alike false 8 i))

  same_bench : sent_bench b 0 ≡ b
  unfolding sent_bench ticked_bench ticked_seat
  same_bench =
      ap₂ (λ (seats : List Seat) (sequences : List ℕ). with_sequences (with_seats b seats) sequences)
      (by_place (ticked_seat 0) closed_seat refl b.seats eight (λ i unmoved. unmoved.same))
      (ap (λ (due : List Bool). one_further due b.sequences) none_due ∙ none_further 8 b.sequences)

  no_records : (timestamp : ℕ) → records b 0 timestamp ≡ replicate 8 []
  unfolding records records_from
  no_records timestamp = ap (records_from (after_closings b 0) timestamp 1) none_due

  nothing_sent : (timestamp : ℕ) → sent_bytes b 0 timestamp ≡ []
  unfolding sent_bytes in_order
  nothing_sent timestamp = ap in_order (no_records timestamp)

module _ (b : Bench) (timestamp : ℕ) (buffer : List ℕ) (enough : most_sent ≤ length buffer) where
  abbrev zero_tick : Tick
  zero_tick = record { ms = 0; timestamp = timestamp; room = length buffer }

  fine : NotRefused zero_tick
  unfolding tick_refusals
  fine = (refl, (le-ltb (length buffer) most_sent enough, tt))

  in_time_zero : length b.seats ≡ 8 → AirRight b → ((n : ℕ) → InTime (seat_of b.seats n)) → ZeroChangesNothing b timestamp buffer
  unfolding after tick_said tick_buffer
  in_time_zero eight right in-time =
      record {
        outcome =
            ap₂ (λ (answer : Answer Said) (next : Bench). record { answer = answer; bench = next })
            (tick_names b zero_tick fine ∙ rw (none_closed b eight in-time, none_due b eight in-time, no_records b eight in-time timestamp))
            (after_tick b zero_tick fine ∙ ap aired (same_bench b eight in-time) ∙ ap (with_air b) (sym right));
        bytes =
            ap (λ (bytes : List ℕ). filled (judged (tick_refusals 0 (length buffer)) (length bytes)) bytes buffer) (nothing_sent b eight in-time timestamp)
            ∙ ap (λ (said : Answer ℕ). filled said [] buffer) (accepts 0 (tick_refusals 0 (length buffer)) fine);
      }

  zero_right : ZeroChangesNothing b timestamp buffer → AirRight b
  zero_right unchanged =
      subst AirRight (sym (after_tick b zero_tick fine) ∙ (unfold after in ap (λ (o : Outcome). o.bench) unchanged.outcome)) (sym (air_unread (sent_bench b 0)))

  zero_in_time : ZeroChangesNothing b timestamp buffer → (n : ℕ) → InTime (seat_of b.seats n)
  zero_in_time unchanged n =
      unmoved_in_time (seat_of b.seats n)
      (sym (closed_flag b 0 n) ∙ ap (λ (set : List Bool). is_in set n) nobody.0 ∙ none_in n)
      (sym (due_flag b 0 n) ∙ ap (λ (set : List Bool). is_in set n) nobody.1 ∙ none_in n)
    where
      nobody_told : accepted (ticked (silent_seats b 0) (due_seats b 0) (records b 0 timestamp)) ≡ accepted (ticked no_seats.closed no_seats.due (replicate 8 []))
      nobody_told = sym (tick_names b zero_tick fine) ∙ ap (λ (o : Outcome). o.answer) unchanged.outcome

      nobody : (silent_seats b 0 ≡ replicate 8 false) × (due_seats b 0 ≡ replicate 8 false)
      nobody = (cc nobody_told, cc nobody_told)

  zero_exactly : length b.seats ≡ 8 → ZeroChangesNothing b timestamp buffer ↔ (AirRight b × ((n : ℕ) → InTime (seat_of b.seats n)))
  zero_exactly eight = ((λ unchanged. (zero_right unchanged, zero_in_time unchanged)), (λ known. in_time_zero eight known.0 known.1))

zero : (b : Bench) → Kept b → AirRight b → (timestamp : ℕ) (buffer : List ℕ) → most_sent ≤ length buffer → ZeroChangesNothing b timestamp buffer
zero b kept right timestamp buffer enough =
    in_time_zero b timestamp buffer enough kept.eight_seats right
    (λ n o. let times = (kept.each_seat n).times o in (times.some_left, times.phase_below))

pub ticks_add_up : TicksAddUp
ticks_add_up =
    record {
      tick_names = tick_names;
      two_ticks = two_ticks;
      same_time = same_time;
      zero = zero;
      zero_exactly = λ b eight timestamp buffer enough. zero_exactly b timestamp buffer enough eight;
    }
