-- Who is on the air, in 01's words, after every run of calls; and demand 3's "While".
use Prim.Native.Nat.{ℕ, ◌≤◌}
use mathlib.Core.Path.{◌≡◌, refl, sym, subst}
use mathlib.Core.Bool.{Bool, true, false, not, ◌&&◌, ◌||◌, false≢true}
use mathlib.Core.List.{List, [], ◌∷◌}
use mathlib.Core.Logic.{◌↔◌}
use native.Mathlib.Omega.{arith}
use lib.Dec.{ltb}
use Rattle.base.proofs.Truths.{or_true}
use Rattle.record.specs.Record.{seat_numbers, no_such_seat, seat_of, lesson, fresh_bench}
use Rattle.record.proofs.Seats.{in_range_seat, each_seat, open_is_seat}
use Rattle.air.specs.Air.{rank, takes_part}
use Rattle.air.specs.InWords.{EachPlaced, Shows, TakesPart}
use Rattle.air.proofs.Members.{among_placed}
use Rattle.air.proofs.InWords.{part_is, is_part, shows}
use Rattle.bench.specs.Step.{Call, keeping, after}
use Rattle.record.specs.declared.setup.Setup.{Setup}
use Rattle.record.specs.declared.whole.Bench.{Bench}
use Rattle.demands.specs.Apart.{live_above_test, ptt_of}
use Rattle.demands.specs.OnTheAir.{LiveAbove, OnTheAir}
use Rattle.demands.proofs.Bench.Runs.{after_run}
use Rattle.demands.proofs.Bench.AirKept.{air_kept}
use Rattle.demands.proofs.Demand3.LessonSeats.{Held, held_fresh, held_call}

-- ---- every run

in_every_run : (setup : Setup) (cs : List Call) → let b = after keeping (fresh_bench setup) cs in EachPlaced b × Shows b b.air
in_every_run setup cs =
    let b = after keeping (fresh_bench setup) cs in
    let held = after_run Held held_call (fresh_bench setup) cs (held_fresh setup) in
    let placed : EachPlaced b = λ n low high. among_placed b.order n (held.placed n (in_range_seat n low high)) in
    (placed, subst (Shows b) (sym (air_kept.in_every_run setup cs)) (shows b placed))

-- ---- "While"

above_if : (ptt : ℕ) → 1 ≤ ptt → ptt ≤ 5 → (ltb 1 (rank ptt) ≡ true) ↔ (ptt ≤ 4)
above_if = grind arith

module _ (b : Bench) where
  -- the test of one seat
  abbrev is_above : ℕ → Bool
  is_above n = not (lesson b.setup n) && takes_part b.healthy (seat_of b.seats n) && ltb 1 (rank (ptt_of b n))

  above_to : (n : ℕ) → is_above n ≡ true → LiveAbove b
  above_to n e =
      let p : TakesPart b n = grind (arith, part_is) in
      record { seat = n; live = grind arith; part = p; above_test = grind (arith, above_if (ptt_of b n) p.not_off p.known) }

  above_from : (a : LiveAbove b) → is_above a.seat ≡ true
  above_from a = simp (a.live, is_part b a.seat a.part, (above_if (ptt_of b a.seat) a.part.not_off a.part.known).1 a.above_test)

  found : (ns : List ℕ) → live_above_test b ns ≡ true → LiveAbove b
  unfolding live_above_test
  found [] e = absurd (false≢true e)
  found (n ∷ ns) e = by_case (is_above n) refl e (found ns)
    where
      by_case : (t : Bool) → is_above n ≡ t → t || live_above_test b ns ≡ true → (live_above_test b ns ≡ true → LiveAbove b) → LiveAbove b
      by_case true q e rest = above_to n q
      by_case false q e rest = rest e

  told : (n : ℕ) → no_such_seat n ≡ false → is_above n ≡ true → live_above_test b seat_numbers ≡ true
  unfolding live_above_test
  told =
      each_seat (λ n. is_above n ≡ true → live_above_test b seat_numbers ≡ true)
      ((λ h. simp h), (λ h. simp (h, or_true)), (λ h. simp (h, or_true)), (λ h. simp (h, or_true)), (λ h. simp (h, or_true)), (λ h. simp (h, or_true)), (λ h. simp (h, or_true)), (λ h. simp (h, or_true)))

  while : (live_above_test b seat_numbers ≡ true) ↔ LiveAbove b
  while = (found seat_numbers, λ a. told a.seat (open_is_seat b.seats a.seat a.part.is_open) (above_from a))

pub on_the_air : OnTheAir
on_the_air = record { in_every_run = in_every_run; while = while }
