-- The air of a bench of a run, and of that bench without its lesson seats.
use Prim.Native.Nat.{ℕ, ◌≤◌, ◌<◌}
use mathlib.Core.Path.{◌≡◌, refl, sym, ap, ◌∙◌}
use mathlib.Core.Bool.{Bool, true, false, cond, not, ◌&&◌, ◌||◌, false≢true}
use mathlib.Core.List.{List, [], ◌∷◌}
use native.Mathlib.Omega.{arith}
use lib.Dec.{ltb, eqb}
use borrow.Author.Tests.{ltb-true, eqb-true, not-true}
use Rattle.base.proofs.Truths.{and_left, and_right}
use Rattle.record.specs.Record.{seat_numbers, no_such_seat, seat_of, lesson}
use Rattle.air.specs.Air.{rank, takes_part, keying_of, keyings_of, keyings, top_rank, among, bench_air, aired}
use Rattle.record.specs.declared.setup.Setup.{Setup}
use Rattle.record.specs.declared.seat.Seat.{Seat}
use Rattle.record.specs.declared.whole.Bench.{Bench}
use Rattle.demands.specs.Apart.{ptt_of, live_above_test}
use Rattle.record.proofs.Seats.{flag_is_seat, lesson_flag, open_is_seat, seat_of_place}
use Rattle.demands.proofs.Demand3.WithoutLessons.{low, live_seat}
use Rattle.demands.proofs.Demand3.LiveAir.{live_keyings, keyings_low, TestAtMost, Up, air_same}
use Rattle.demands.proofs.Demand3.LessonSeats.{Held}

lesson_real : (setup : Setup) (n : ℕ) → lesson setup n ≡ true → no_such_seat n ≡ false
unfolding lesson
lesson_real setup n hidden = flag_is_seat setup.lesson n hidden

part_real : (healthy : Bool) (seats : List Seat) (n : ℕ) → takes_part healthy (seat_of seats n) ≡ true → no_such_seat n ≡ false
unfolding takes_part
part_real healthy seats n h = open_is_seat seats n (and_right healthy (seat_of seats n).opened (and_left (healthy && (seat_of seats n).opened) _ h))

-- ---- lesson keyings are Test at most

lesson_rank : (b : Bench) → Held b → (n : ℕ) → lesson b.setup n ≡ true → rank (ptt_of b n) ≤ 1
lesson_rank b i n hidden = grind (arith, lesson_flag, lesson_real, seat_of_place)

keyings_meek : (b : Bench) → Held b → (ns : List ℕ) → TestAtMost b.setup (keyings_of b.healthy b.seats ns)
unfolding keyings_of
keyings_meek b i [] = tt
keyings_meek b i (n ∷ ns) = by_part (takes_part b.healthy (seat_of b.seats n)) (keyings_meek b i ns)
  where
    by_part : (t : Bool) → TestAtMost b.setup (keyings_of b.healthy b.seats ns)
        → TestAtMost b.setup (cond t (keying_of b.seats n ∷ keyings_of b.healthy b.seats ns) (keyings_of b.healthy b.seats ns))
    by_part true rest = (lesson_rank b i n, rest)
    by_part false rest = rest

pub keyings_test_at_most : (b : Bench) → Held b → TestAtMost b.setup (keyings b)
unfolding keyings
keyings_test_at_most b i = keyings_meek b i b.order

-- ---- a live keying counts

live_counts : (setup : Setup) (healthy : Bool) (seats : List Seat) (n : ℕ) → lesson setup n ≡ false → takes_part healthy (seat_of seats n) ≡ true
    → (ns : List ℕ) → among ns n ≡ true → rank (seat_of seats n).heard.field.ptt ≤ top_rank (live_keyings setup (keyings_of healthy seats ns))
unfolding among keyings_of live_keyings top_rank
live_counts setup healthy seats n live part [] h = absurd (false≢true h)
live_counts setup healthy seats n live part (k ∷ ns) h =
    by_seat (eqb k n) (takes_part healthy (seat_of seats k)) (lesson setup k) refl refl refl h (live_counts setup healthy seats n live part ns)
  where
    by_seat : (a c d : Bool) → eqb k n ≡ a → takes_part healthy (seat_of seats k) ≡ c → lesson setup k ≡ d → a || among ns n ≡ true
        → (among ns n ≡ true → rank (seat_of seats n).heard.field.ptt ≤ top_rank (live_keyings setup (keyings_of healthy seats ns)))
        → rank (seat_of seats n).heard.field.ptt ≤ top_rank (live_keyings setup (keyings_of healthy seats (k ∷ ns)))
    by_seat true false d p q s e rest = absurd (false≢true (sym q ∙ ap (λ (j : ℕ). takes_part healthy (seat_of seats j)) (eqb-true k n p) ∙ part))
    by_seat true true true p q s e rest = absurd (false≢true (sym live ∙ sym (ap (lesson setup) (eqb-true k n p)) ∙ s))
    by_seat true true false p q s e rest = rw (q, s, eqb-true k n p) (omega arith)
    by_seat false false d p q s e rest = rw q (rest e)
    by_seat false true true p q s e rest = rw (q, s) (rest e)
    by_seat false true false p q s e rest = rw (q, s) (let g = rest e in omega arith)

pub up_seat : (b : Bench) → Held b → (n : ℕ) → lesson b.setup n ≡ false → takes_part b.healthy (seat_of b.seats n) ≡ true
    → 1 < rank (ptt_of b n) → Up b.setup (keyings b)
unfolding keyings
up_seat b i n live part high =
    omega (arith, live_counts b.setup b.healthy b.seats n live part b.order (i.placed n (part_real b.healthy b.seats n part)))

up_among : (b : Bench) → Held b → (ns : List ℕ) → live_above_test b ns ≡ true → Up b.setup (keyings b)
unfolding live_above_test
up_among b i [] h = absurd (false≢true h)
up_among b i (n ∷ ns) h =
    by_seat (not (lesson b.setup n)) (takes_part b.healthy (seat_of b.seats n)) (ltb 1 (rank (ptt_of b n))) refl refl refl h (up_among b i ns)
  where
    by_seat : (a c d : Bool) → not (lesson b.setup n) ≡ a → takes_part b.healthy (seat_of b.seats n) ≡ c → ltb 1 (rank (ptt_of b n)) ≡ d
        → (a && c && d) || live_above_test b ns ≡ true → (live_above_test b ns ≡ true → Up b.setup (keyings b)) → Up b.setup (keyings b)
    by_seat true true true p q r e rest = up_seat b i n (not-true (lesson b.setup n) p) q (ltb-true 1 (rank (ptt_of b n)) r)
    by_seat true true false p q r e rest = rest e
    by_seat true false d p q r e rest = rest e
    by_seat false c d p q r e rest = rest e

pub up_is : (b : Bench) → Held b → live_above_test b seat_numbers ≡ true → Up b.setup (keyings b)
up_is b i h = up_among b i seat_numbers h

-- the condition does not ask the air of the record
pub above_aired : (b : Bench) → live_above_test (aired b) seat_numbers ≡ live_above_test b seat_numbers
unfolding live_above_test
above_aired b = refl

-- the condition speaks of live seats alone
above_low : (b : Bench) (ns : List ℕ) → live_above_test (low b) ns ≡ live_above_test b ns
unfolding live_above_test low
above_low b [] = refl
above_low b (n ∷ ns) = by_seat (lesson b.setup n) refl (above_low b ns)
  where
    by_seat : (t : Bool) → lesson b.setup n ≡ t → live_above_test (low b) ns ≡ live_above_test b ns → live_above_test (low b) (n ∷ ns) ≡ live_above_test b (n ∷ ns)
    by_seat true e rest = simp (e, rest)
    by_seat false e rest =
        simp (e, rest)
        (ap (λ (s : Seat). (takes_part b.healthy s && ltb 1 (rank s.heard.field.ptt)) || live_above_test b ns) (live_seat b.setup b.seats n e))

pub above_test_low : (b : Bench) → live_above_test (low b) seat_numbers ≡ live_above_test b seat_numbers
above_test_low b = above_low b seat_numbers

-- while it is met the air is that of the live seats
pub air_low : (b : Bench) → Held b → Up b.setup (keyings b) → bench_air (low b) ≡ bench_air b
unfolding bench_air
air_low b i up = rw (keyings_low b) (unfold low in air_same b.setup b.seats (keyings b) (keyings_test_at_most b i) up)
