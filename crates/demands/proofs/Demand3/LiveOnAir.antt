-- A live seat that does not key Test: whether it is on the air, and whether it leads, is the same on a bench as on that bench without its
-- lesson seats.
use Prim.Native.Nat.{ℕ, ◌<◌}
use mathlib.Core.Path.{◌≡◌, refl, sym, ap, ◌∙◌}
use mathlib.Core.Bool.{Bool, true, false, ◌&&◌, false≢true}
use mathlib.Core.List.{List, [], ◌∷◌, map}
use native.Mathlib.Omega.{arith}
use lib.Dec.{eqb}
use borrow.Author.Tests.{eqb-true}
use Rattle.packet.specs.Packet.{test}
use Rattle.record.specs.Record.{seat_numbers, entry_of, seat_of, lesson}
use Rattle.air.specs.Air.{rank, takes_part, Keying, keyings_of, keyings, leaders, on_air, among, air_of, bench_air}
use Rattle.record.specs.declared.seat.Seat.{Seat}
use Rattle.record.specs.declared.shown.Air.{Air}
use Rattle.record.specs.declared.whole.Bench.{Bench}
use Rattle.demands.specs.Apart.{ptt_of, is_testing, SameOnAir}
use Rattle.demands.proofs.Demand3.WithoutLessons.{low}
use Rattle.demands.proofs.Demand3.LiveAir.{keyings_low, seats_of, off_leaders, off_air, no_keying_left}
use Rattle.demands.proofs.Demand3.LessonSeats.{Held}
use Rattle.demands.proofs.Demand3.BenchAir.{up_seat, air_low}

-- ---- a keying other than Test is above it

part_above : (healthy : Bool) (s : Seat) → eqb s.heard.field.ptt test ≡ false → takes_part healthy s ≡ true → 1 < rank s.heard.field.ptt
unfolding takes_part
part_above healthy s other h = grind arith

-- ---- a seat that takes no part has no keying

no_part : (healthy : Bool) (seats : List Seat) (n : ℕ) → takes_part healthy (seat_of seats n) ≡ false
    → (ns : List ℕ) → among (seats_of (keyings_of healthy seats ns)) n ≡ false
unfolding among keyings_of
no_part healthy seats n h [] = refl
no_part healthy seats n h (k ∷ ns) = by_seat (takes_part healthy (seat_of seats k)) (eqb k n) refl refl (no_part healthy seats n h ns)
  where
    by_seat : (a c : Bool) → takes_part healthy (seat_of seats k) ≡ a → eqb k n ≡ c → among (seats_of (keyings_of healthy seats ns)) n ≡ false
        → among (seats_of (keyings_of healthy seats (k ∷ ns))) n ≡ false
    by_seat true true p q rest = absurd (false≢true (sym h ∙ ap (λ (j : ℕ). takes_part healthy (seat_of seats j)) (sym (eqb-true k n q)) ∙ p))
    by_seat true false p q rest = simp (p, q, rest)
    by_seat false c p q rest = simp (p, rest)

-- ---- and so is not on the air

pub off_marks : (set : List ℕ) (n : ℕ) → among set n ≡ false → entry_of false (map (among set) seat_numbers) n ≡ false
off_marks set n h = grind arith

off_the_air : (b : Bench) (n : ℕ) → among (seats_of (keyings b)) n ≡ false
    → (entry_of false (bench_air b).on n ≡ false) × (entry_of false (bench_air b).leads n ≡ false)
unfolding bench_air air_of
off_the_air b n h =
    (off_marks (on_air b.setup (keyings b)) n (off_air b.setup n (keyings b) h), off_marks (leaders b.setup (keyings b)) n (off_leaders b.setup n (keyings b) h))

-- the same air shows the same of a seat
pub same_air : (n : ℕ) {a b : Air} → a ≡ b → SameOnAir n a b
same_air n e = record { on = ap (λ (a : Air). entry_of false a.on n) e; leads = ap (λ (a : Air). entry_of false a.leads n) e }

module _ (b : Bench) (i : Held b) (n : ℕ) (live : lesson b.setup n ≡ false) (other : is_testing b n ≡ false) where
  pub live_on_air : SameOnAir n (bench_air (low b)) (bench_air b)
  live_on_air = by_part (takes_part b.healthy (seat_of b.seats n)) refl
    where
      by_part : (t : Bool) → takes_part b.healthy (seat_of b.seats n) ≡ t → SameOnAir n (bench_air (low b)) (bench_air b)
      by_part true e =
          let not_test : eqb (ptt_of b n) test ≡ false = sym (ap (λ (part : Bool). part && eqb (ptt_of b n) test) e) ∙ other in
          let same = air_low b i (up_seat b i n live e (part_above b.healthy (seat_of b.seats n) not_test e)) in
          same_air n same
      by_part false e =
          let none : among (seats_of (keyings b)) n ≡ false = unfold keyings in no_part b.healthy b.seats n e b.order in
          let low_none : among (seats_of (keyings (low b))) n ≡ false =
          ap (λ (ks : List Keying). among (seats_of ks) n) (keyings_low b) ∙ no_keying_left b.setup n (keyings b) none in
          let off = off_the_air b n none in
          let low-off = off_the_air (low b) n low_none in
          record { on = low-off.0 ∙ sym off.0; leads = low-off.1 ∙ sym off.1 }
