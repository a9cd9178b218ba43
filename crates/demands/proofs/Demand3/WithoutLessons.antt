-- The bench without its lesson seats: each closed, its report sequence 0, and out of the order of keyings. Nor does it keep an air: that
-- of the bench may be a lesson seat's Test. So it is a bench of `step`.
use native.Mathlib.Omega.{arith}
use Prim.Native.Nat.{ℕ}
use mathlib.Core.Path.{◌≡◌, refl, sym, ap, ◌∙◌}
use mathlib.Core.Bool.{Bool, true, false, cond, false≢true}
use mathlib.Core.List.{List, [], ◌∷◌, ◌++◌, append-nil}
use lib.Dec.{eqb}
use borrow.Author.Tests.{eqb-true}
use Rattle.record.specs.Record.{closed_seat, entry_of, seat_of, lesson, nobody, with_seats, with_sequences, with_order, with_air}
use Rattle.air.specs.Air.{aired}
use Rattle.air.specs.Order.{to_last, order_after}
use Rattle.record.specs.declared.setup.Setup.{Setup}
use Rattle.record.specs.declared.seat.Field.{Field}
use Rattle.record.specs.declared.seat.Seat.{Seat}
use Rattle.record.specs.declared.whole.Bench.{Bench}
use Rattle.record.proofs.Seats.{lesson_flag}
use Rattle.demands.proofs.Demand3.Blanking.{blank, blank_elsewhere}

unfoldable pub live_order : Setup → List ℕ → List ℕ
live_order setup [] = []
live_order setup (n ∷ ns) = cond (lesson setup n) (live_order setup ns) (n ∷ live_order setup ns)

abbrev pub live_seats : Setup → List Seat → List Seat
live_seats setup seats = blank closed_seat setup.lesson seats

unfoldable pub low : Bench → Bench
low b =
    with_air (with_order (with_sequences (with_seats b (live_seats b.setup b.seats)) (blank 0 b.setup.lesson b.sequences))
    (live_order b.setup b.order)) nobody

pub low_aired : (b : Bench) → low (aired b) ≡ low b
unfolding low
low_aired b = refl

-- ---- seats

-- 0, where a call names no seat
pub none_is_lesson : (setup : Setup) → lesson setup 0 ≡ false
unfolding lesson
none_is_lesson setup = refl

live_entry : {A : Type 0} (d : A) (setup : Setup) (entries : List A) (n : ℕ) → lesson setup n ≡ false
    → entry_of d (blank d setup.lesson entries) n ≡ entry_of d entries n
live_entry d setup entries n live = grind (arith, blank_elsewhere, lesson_flag)

pub live_seat : (setup : Setup) (seats : List Seat) (n : ℕ) → lesson setup n ≡ false → seat_of (live_seats setup seats) n ≡ seat_of seats n
unfolding seat_of
live_seat setup seats n live = live_entry closed_seat setup seats n live

pub seat_low : (b : Bench) (n : ℕ) → lesson b.setup n ≡ false → seat_of (low b).seats n ≡ seat_of b.seats n
unfolding low
seat_low b n live = live_seat b.setup b.seats n live

pub sequence_low : (b : Bench) (n : ℕ) → lesson b.setup n ≡ false → entry_of 0 (low b).sequences n ≡ entry_of 0 b.sequences n
unfolding low
sequence_low b n live = live_entry {A = ℕ} 0 b.setup b.sequences n live

-- ---- order

live_append : (setup : Setup) (l m : List ℕ) → live_order setup (l ++ m) ≡ live_order setup l ++ live_order setup m
unfolding live_order
live_append setup [] m = refl
live_append setup (n ∷ l) m = by_seat (lesson setup n) (live_append setup l m)
  where
    by_seat : (t : Bool) → live_order setup (l ++ m) ≡ live_order setup l ++ live_order setup m
        → cond t (live_order setup (l ++ m)) (n ∷ live_order setup (l ++ m)) ≡ cond t (live_order setup l) (n ∷ live_order setup l) ++ live_order setup m
    by_seat true rest = rest
    by_seat false rest = ap (λ (r : List ℕ). n ∷ r) rest

-- a lesson seat that moves to the end is not seen to move
to_last_hidden : (setup : Setup) (n : ℕ) → lesson setup n ≡ true → (l : List ℕ) → live_order setup (to_last n l) ≡ live_order setup l
unfolding to_last live_order
to_last_hidden setup n hidden [] = refl
to_last_hidden setup n hidden (k ∷ l) = by_seat (eqb k n) (lesson setup k) refl refl (to_last_hidden setup n hidden l)
  where
    by_seat : (a c : Bool) → eqb k n ≡ a → lesson setup k ≡ c → live_order setup (to_last n l) ≡ live_order setup l
        → live_order setup (to_last n (k ∷ l)) ≡ live_order setup (k ∷ l)
    by_seat true true p q rest = simp (p, q, live_append, hidden) (append-nil _)
    by_seat true false p q rest = absurd (false≢true (sym q ∙ ap (lesson setup) (eqb-true k n p) ∙ hidden))
    by_seat false true p q rest = simp (p, q, rest)
    by_seat false false p q rest = simp (p, q, rest)

-- a live seat moves to the end of both
to_last_live : (setup : Setup) (n : ℕ) → lesson setup n ≡ false → (l : List ℕ) → to_last n (live_order setup l) ≡ live_order setup (to_last n l)
unfolding to_last live_order
to_last_live setup n live [] = refl
to_last_live setup n live (k ∷ l) = by_seat (eqb k n) (lesson setup k) refl refl (to_last_live setup n live l)
  where
    by_seat : (a c : Bool) → eqb k n ≡ a → lesson setup k ≡ c → to_last n (live_order setup l) ≡ live_order setup (to_last n l)
        → to_last n (live_order setup (k ∷ l)) ≡ live_order setup (to_last n (k ∷ l))
    by_seat true true p q rest = absurd (false≢true (sym live ∙ sym (ap (lesson setup) (eqb-true k n p)) ∙ q))
    by_seat true false p q rest = simp (p, q, live_append, live)
    by_seat false true p q rest = simp (p, q, rest)
    by_seat false false p q rest = simp (p, q, rest)

pub order_hidden : (setup : Setup) (n : ℕ) (old new : Field) (l : List ℕ) → lesson setup n ≡ true
    → live_order setup (order_after n old new l) ≡ live_order setup l
unfolding order_after
order_hidden setup n old new l hidden = grind (arith, to_last_hidden)

pub order_live : (setup : Setup) (n : ℕ) (old new : Field) (l : List ℕ) → lesson setup n ≡ false
    → order_after n old new (live_order setup l) ≡ live_order setup (order_after n old new l)
unfolding order_after
order_live setup n old new l live = grind (arith, to_last_live)
