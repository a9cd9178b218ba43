-- A tick, with the reports that it sends, on a bench and on that bench without its lesson seats.
use native.Mathlib.Omega.{arith}
use Prim.Native.Nat.{ℕ}
use mathlib.Core.Path.{◌≡◌, refl, sym, ap, ap₂, ◌∙◌}
use mathlib.Core.Bool.{Bool, true, false, cond, not, ◌&&◌}
use mathlib.Core.List.{List, [], ◌∷◌, map}
use Rattle.record.specs.Record.{seat_numbers, no_such_seat, closed_seat, entry_of, seat_of, lesson}
use Rattle.air.specs.Air.{aired}
use Rattle.seats.specs.Ticking.{falls_silent, is_due, ticked_seat, silent_seats, due_seats, ticked_bench}
use Rattle.reporting.specs.Reporting.{next_sequence}
use Rattle.sending.specs.Sending.{tick_refusals, after_closings, record_for, records, one_further, sent_bench, tick_said}
use Rattle.bench.specs.Step.{tick, does, step, keeping}
use Rattle.record.specs.declared.setup.Setup.{Setup}
use Rattle.record.specs.declared.seat.Seat.{Seat}
use Rattle.record.specs.declared.whole.Bench.{Bench}
use Rattle.air.proofs.Kept.{air_unread}
use Rattle.record.proofs.Seats.{entry_changed, at_seat}
use Rattle.sending.proofs.BySeat.{seat_record}
use Rattle.demands.specs.Apart.{live_above_test, as_seen, among_live, records_seen, fixed}
use Rattle.demands.proofs.Demand3.Blanking.{blank, map_blank}
use Rattle.demands.proofs.Demand3.WithoutLessons.{low, live_seats, live_seat}
use Rattle.demands.proofs.Demand3.LessonSeats.{Held, held_ticked, held_aired}
use Rattle.demands.proofs.Demand3.LiveCalls.{Match, match_judged}
use Rattle.demands.proofs.Demand3.LiveReports.{alone, told_low}

-- ---- what is compared, of one live seat and of all

module _ (setup : Setup) (n : ℕ) (real : no_such_seat n ≡ false) (live : lesson setup n ≡ false) where
  pub flag_compared : (flags : List Bool) → entry_of false (among_live setup flags) n ≡ entry_of false flags n
  unfolding among_live
  flag_compared flags = at_seat (λ k. not (lesson setup k) && entry_of false flags k) false n real ∙ rw live

  pub record_compared : (while : Bool) (records : List (List ℕ)) → entry_of [] (records_seen setup while records) n ≡ as_seen while (entry_of [] records n)
  unfolding records_seen
  record_compared while records = at_seat (λ k. cond (lesson setup k) [] (as_seen while (entry_of [] records k))) [] n real ∙ rw live

-- lists that tell nothing of lesson seats are alike where live seats are told alike
pub live_alike : {A : Type 0} (setup : Setup) (tells : (hidden : Bool) → A → A) → ((x y : A) → tells true x ≡ tells true y) → (f g : ℕ → A)
    → ((n : ℕ) → no_such_seat n ≡ false → lesson setup n ≡ false → f n ≡ g n)
    → map (λ n. tells (lesson setup n) (f n)) seat_numbers ≡ map (λ n. tells (lesson setup n) (g n)) seat_numbers
live_alike setup tells nothing f g alike = grind arith

-- ---- flags of seats

module _ (setup : Setup) (seats : List Seat) (f : Seat → Bool) (shut : f closed_seat ≡ false) where
  flag_live : (n : ℕ) → no_such_seat n ≡ false → lesson setup n ≡ false → entry_of false (map f (live_seats setup seats)) n ≡ entry_of false (map f seats) n
  unfolding seat_of
  flag_live n real live =
      entry_changed f closed_seat shut (live_seats setup seats) n ∙ ap f (live_seat setup seats n live) ∙ sym (entry_changed f closed_seat shut seats n)

  flags_live : among_live setup (map f (live_seats setup seats)) ≡ among_live setup (map f seats)
  unfolding among_live
  flags_live = live_alike setup (λ hidden flag. not hidden && flag) (λ x y. refl) _ _ flag_live

-- ---- the bench

-- a lesson seat, closed, is not due: its number stays 0
further_live : (ms : ℕ) (flags : List Bool) (seats : List Seat) (sequences : List ℕ)
    → one_further (map (is_due ms) (blank closed_seat flags seats)) (blank 0 flags sequences) ≡ blank 0 flags (one_further (map (is_due ms) seats) sequences)
unfolding one_further blank is_due
further_live ms [] seats qs = refl
further_live ms (f ∷ flags) [] qs = refl
further_live ms (f ∷ flags) (s ∷ seats) [] = refl
further_live ms (true ∷ flags) (s ∷ seats) (q ∷ qs) = ap (λ (r : List ℕ). 0 ∷ r) (further_live ms flags seats qs)
further_live ms (false ∷ flags) (s ∷ seats) (q ∷ qs) = ap (λ (r : List ℕ). cond (is_due ms s) (next_sequence q) q ∷ r) (further_live ms flags seats qs)

module _ (b : Bench) (ms : ℕ) where
  ticked_low : ticked_bench (low b) ms ≡ low (after_closings b ms)
  unfolding ticked_bench low ticked_seat
  ticked_low = simp (map_blank closed_seat (ticked_seat ms) refl b.setup.lesson b.seats)

  sent_low : sent_bench (low b) ms ≡ low (aired (sent_bench b ms))
  unfolding sent_bench ticked_bench low ticked_seat
  sent_low = simp (map_blank closed_seat (ticked_seat ms) refl b.setup.lesson b.seats, further_live ms b.setup.lesson b.seats b.sequences)

-- ---- the records, and the call

module _ (b : Bench) (ms timestamp room : ℕ) (i : Held b) where
  abbrev while : Bool
  while = live_above_test (aired (sent_bench b ms)) seat_numbers

  -- one that is due is a report of the bench after the closings, whose air is right
  record_alike : (n : ℕ) → no_such_seat n ≡ false → lesson b.setup n ≡ false → (due : Bool)
      → as_seen while (record_for (alone (after_closings b ms)) timestamp n due) ≡ as_seen while (record_for (after_closings b ms) timestamp n due)
  record_alike n real live true =
      told_low (after_closings b ms) (sym (air_unread (ticked_bench b ms))) n timestamp (unfold ticked_bench in live) real []
      (held_aired _ (held_ticked b ms i)) while (unfold sent_bench live_above_test in refl)
  record_alike n real live false = refl

  record_low : (n : ℕ) → no_such_seat n ≡ false → lesson b.setup n ≡ false
      → as_seen while (entry_of [] (records (low b) ms timestamp) n) ≡ as_seen while (entry_of [] (records b ms timestamp) n)
  unfolding records low is_due
  record_low n real live =
      ap (as_seen while)
      (seat_record (after_closings (low b) ms) timestamp (due_seats (low b) ms) n real
      ∙ ap₂ (λ (x : Bench) (due : Bool). record_for (aired x) timestamp n due) (ticked_low b ms)
      (flag_live b.setup b.seats (is_due ms) refl n real live))
      ∙ record_alike n real live (entry_of false (due_seats b ms) n)
      ∙ ap (as_seen while) (sym (seat_record (after_closings b ms) timestamp (due_seats b ms) n real))

  records_low : records_seen b.setup while (records (low b) ms timestamp) ≡ records_seen b.setup while (records b ms timestamp)
  unfolding records_seen
  records_low = live_alike b.setup (λ hidden r. cond hidden [] r) (λ x y. refl) _ _ record_low

  silent_low : among_live b.setup (silent_seats (low b) ms) ≡ among_live b.setup (silent_seats b ms)
  unfolding low falls_silent
  silent_low = flags_live b.setup b.seats (falls_silent ms) refl

  due_low : among_live b.setup (due_seats (low b) ms) ≡ among_live b.setup (due_seats b ms)
  unfolding low is_due
  due_low = flags_live b.setup b.seats (is_due ms) refl

  pub match_tick : Match b.setup (tick ms timestamp room) (keeping b (tick ms timestamp room)) (step (low b) (tick ms timestamp room))
  unfolding does tick_said fixed
  match_tick =
      match_judged b.setup (tick ms timestamp room) b (aired (sent_bench b ms)) (sent_bench (low b) ms) (tick_refusals ms room) (tick_refusals ms room) _ _ _ _ refl
      (λ h. record { bench = sent_low b ms; answer = simp (silent_low, due_low, records_low) })
