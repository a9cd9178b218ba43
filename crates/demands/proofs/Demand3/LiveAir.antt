-- Lesson keyings, Test at most, do not count on the air while a live keying above Test is up.
use Prim.Native.Nat.{ℕ, ◌≤◌, ◌<◌, max}
use mathlib.Core.Path.{◌≡◌, refl, sym, ap, ◌∙◌}
use mathlib.Core.Bool.{Bool, true, false, cond, ◌&&◌, false≢true}
use mathlib.Core.List.{List, [], ◌∷◌, ◌++◌, map}
use native.Mathlib.Omega.{arith}
use lib.Dec.{ltb, eqb}
use borrow.Author.Tests.{ne_eqb, eqb-true}
use Rattle.base.proofs.Truths.{or_left, or_right}
use Rattle.record.specs.Record.{seat_numbers, seat_of, lesson}
use Rattle.air.specs.Air.{coupling_rank, the_first, takes_part, Keying, keyings_of, keyings, top_rank, at_rank, leaders, added, on_air, among, any_sends, air_of}
use Rattle.record.specs.declared.setup.Setup.{Setup}
use Rattle.record.specs.declared.seat.Seat.{Seat}
use Rattle.record.specs.declared.whole.Bench.{Bench}
use Rattle.air.proofs.Marking.{among_both}
use Rattle.demands.proofs.Demand3.WithoutLessons.{live_order, live_seats, low, live_seat}

unfoldable pub live_keyings : Setup → List Keying → List Keying
live_keyings setup [] = []
live_keyings setup (k ∷ ks) = cond (lesson setup k.seat) (live_keyings setup ks) (k ∷ live_keyings setup ks)

-- the keyings of the bench without its lesson seats are the live ones
keyings_live : (setup : Setup) (healthy : Bool) (seats : List Seat) (ns : List ℕ)
    → keyings_of healthy (live_seats setup seats) (live_order setup ns) ≡ live_keyings setup (keyings_of healthy seats ns)
unfolding keyings_of live_keyings live_order
keyings_live setup healthy seats [] = refl
keyings_live setup healthy seats (n ∷ ns) = by_seat (lesson setup n) (takes_part healthy (seat_of seats n)) refl refl (keyings_live setup healthy seats ns)
  where
    by_seat : (a c : Bool) → lesson setup n ≡ a → takes_part healthy (seat_of seats n) ≡ c
        → keyings_of healthy (live_seats setup seats) (live_order setup ns) ≡ live_keyings setup (keyings_of healthy seats ns)
        → keyings_of healthy (live_seats setup seats) (live_order setup (n ∷ ns)) ≡ live_keyings setup (keyings_of healthy seats (n ∷ ns))
    by_seat true true e q rest = simp (e, q, rest)
    by_seat true false e q rest = simp (e, q, rest)
    by_seat false true e q rest = simp (e, live_seat setup seats n e, q, rest)
    by_seat false false e q rest = simp (e, live_seat setup seats n e, q, rest)

pub keyings_low : (b : Bench) → keyings (low b) ≡ live_keyings b.setup (keyings b)
unfolding keyings low
keyings_low b = keyings_live b.setup b.healthy b.seats b.order

-- ---- the top rank

-- the keyings of lesson seats are Test at most
abbrev pub TestAtMost : Setup → List Keying → Type 0
TestAtMost setup [] = Unit {0}
TestAtMost setup (k ∷ ks) = (lesson setup k.seat ≡ true → k.rank ≤ 1) × TestAtMost setup ks

top_live : (setup : Setup) (ks : List Keying) → TestAtMost setup ks → max 1 (top_rank ks) ≡ max 1 (top_rank (live_keyings setup ks))
unfolding top_rank live_keyings
top_live setup [] t = refl
top_live setup (k ∷ ks) t = by_seat (lesson setup k.seat) refl (top_live setup ks t.1)
  where
    by_seat : (a : Bool) → lesson setup k.seat ≡ a → max 1 (top_rank ks) ≡ max 1 (top_rank (live_keyings setup ks))
        → max 1 (top_rank (k ∷ ks)) ≡ max 1 (top_rank (live_keyings setup (k ∷ ks)))
    by_seat true e rest = rw e (let h : k.rank ≤ 1 = t.0 e in omega arith)
    by_seat false e rest = rw e (omega arith)

at_rank_live : (setup : Setup) (r : ℕ) → 1 < r → (ks : List Keying) → TestAtMost setup ks → at_rank r (live_keyings setup ks) ≡ at_rank r ks
unfolding at_rank live_keyings
at_rank_live setup r h [] t = refl
at_rank_live setup r h (k ∷ ks) t = by_seat (lesson setup k.seat) (eqb k.rank r) refl refl (at_rank_live setup r h ks t.1)
  where
    lower : lesson setup k.seat ≡ true → eqb k.rank r ≡ false
    lower e = ne_eqb k.rank r (λ q. let g : k.rank ≤ 1 = t.0 e in omega arith)

    by_seat : (a c : Bool) → lesson setup k.seat ≡ a → eqb k.rank r ≡ c → at_rank r (live_keyings setup ks) ≡ at_rank r ks
        → at_rank r (live_keyings setup (k ∷ ks)) ≡ at_rank r (k ∷ ks)
    by_seat true c e q rest = simp (e, lower e, rest)
    by_seat false true e q rest = simp (e, q, rest)
    by_seat false false e q rest = simp (e, q, rest)

-- a live keying above Test is up
abbrev pub Up : Setup → List Keying → Type 0
Up setup ks = 1 < top_rank (live_keyings setup ks)

module _ (setup : Setup) (ks : List Keying) (t : TestAtMost setup ks) (up : Up setup ks) where
  top_same : top_rank (live_keyings setup ks) ≡ top_rank ks
  top_same = omega (arith, top_live setup ks t)

  leading_same : at_rank (top_rank ks) (live_keyings setup ks) ≡ at_rank (top_rank ks) ks
  leading_same = at_rank_live setup (top_rank ks) (omega (arith, top_same)) ks t

  leaders_same : leaders setup (live_keyings setup ks) ≡ leaders setup ks
  unfolding leaders
  leaders_same = simp (top_same, leading_same)

  added_same : added setup (live_keyings setup ks) ≡ added setup ks
  unfolding added
  added_same = simp (top_same, at_rank_live setup 2 (omega arith) ks t)

  on_air_same : on_air setup (live_keyings setup ks) ≡ on_air setup ks
  unfolding on_air
  on_air_same = simp (leaders_same, added_same)

-- ---- who has no keying is not on the air

abbrev pub seats_of : List Keying → List ℕ
seats_of ks = map (λ k. k.seat) ks

off_at_rank : (n r : ℕ) (ks : List Keying) → among (seats_of ks) n ≡ false → among (at_rank r ks) n ≡ false
unfolding among at_rank
off_at_rank n r [] h = refl
off_at_rank n r (k ∷ ks) h = by_rank (eqb k.rank r) (off_at_rank n r ks (or_right (eqb k.seat n) (among (seats_of ks) n) h))
  where
    by_rank : (t : Bool) → among (at_rank r ks) n ≡ false → among (cond t (k.seat ∷ at_rank r ks) (at_rank r ks)) n ≡ false
    by_rank true rest = simp (or_left (eqb k.seat n) (among (seats_of ks) n) h, rest)
    by_rank false rest = rest

off_the_first : (n : ℕ) (l : List ℕ) → among l n ≡ false → among (the_first l) n ≡ false
unfolding among
off_the_first n l h = grind arith

off_both : (n : ℕ) (l m : List ℕ) → among l n ≡ false → among m n ≡ false → among (l ++ m) n ≡ false
off_both n l m h g = simp (among_both l m n, h, g)

pub off_leaders : (setup : Setup) (n : ℕ) (ks : List Keying) → among (seats_of ks) n ≡ false → among (leaders setup ks) n ≡ false
unfolding leaders
off_leaders setup n ks h = grind (arith, off_at_rank, off_the_first)

pub off_air : (setup : Setup) (n : ℕ) (ks : List Keying) → among (seats_of ks) n ≡ false → among (on_air setup ks) n ≡ false
unfolding on_air added
off_air setup n ks h =
    off_both n (leaders setup ks) (added setup ks) (off_leaders setup n ks h) (by_coupling (setup.coupling_summation && ltb coupling_rank (top_rank ks)))
  where
    by_coupling : (t : Bool) → among (cond t (at_rank coupling_rank ks) []) n ≡ false
    by_coupling true = off_at_rank n coupling_rank ks h
    by_coupling false = unfold among in refl

no_lesson_keying : (setup : Setup) (n : ℕ) → lesson setup n ≡ true → (ks : List Keying) → among (seats_of (live_keyings setup ks)) n ≡ false
unfolding among live_keyings
no_lesson_keying setup n hidden [] = refl
no_lesson_keying setup n hidden (k ∷ ks) = by_seat (lesson setup k.seat) (eqb k.seat n) refl refl (no_lesson_keying setup n hidden ks)
  where
    by_seat : (a c : Bool) → lesson setup k.seat ≡ a → eqb k.seat n ≡ c → among (seats_of (live_keyings setup ks)) n ≡ false
        → among (seats_of (live_keyings setup (k ∷ ks))) n ≡ false
    by_seat true c e q rest = simp (e, rest)
    by_seat false true e q rest = absurd (false≢true (sym e ∙ ap (lesson setup) (eqb-true k.seat n q) ∙ hidden))
    by_seat false false e q rest = simp (e, q, rest)

pub no_keying_left : (setup : Setup) (n : ℕ) (ks : List Keying) → among (seats_of ks) n ≡ false → among (seats_of (live_keyings setup ks)) n ≡ false
unfolding among live_keyings
no_keying_left setup n [] h = refl
no_keying_left setup n (k ∷ ks) h = by_seat (lesson setup k.seat) (no_keying_left setup n ks (or_right (eqb k.seat n) (among (seats_of ks) n) h))
  where
    by_seat : (t : Bool) → among (seats_of (live_keyings setup ks)) n ≡ false
        → among (seats_of (cond t (live_keyings setup ks) (k ∷ live_keyings setup ks))) n ≡ false
    by_seat true rest = rest
    by_seat false rest = simp (or_left (eqb k.seat n) (among (seats_of ks) n) h, rest)

-- ---- what is shown of the air

-- PTTS is taken from seats on the air; where these are live, lesson seats do not matter
sends_live : (setup : Setup) (seats : List Seat) (set ns : List ℕ) → ((n : ℕ) → lesson setup n ≡ true → among set n ≡ false)
    → any_sends (live_seats setup seats) set ns ≡ any_sends seats set ns
unfolding any_sends
sends_live setup seats set [] h = refl
sends_live setup seats set (n ∷ ns) h = by_seat (lesson setup n) refl (sends_live setup seats set ns h)
  where
    by_seat : (a : Bool) → lesson setup n ≡ a → any_sends (live_seats setup seats) set ns ≡ any_sends seats set ns
        → any_sends (live_seats setup seats) set (n ∷ ns) ≡ any_sends seats set (n ∷ ns)
    by_seat true e rest = simp (h n e, rest)
    by_seat false e rest = simp (live_seat setup seats n e, rest)

module _ (setup : Setup) (seats : List Seat) (ks : List Keying) (t : TestAtMost setup ks) (up : Up setup ks) where
  pub lesson_off_air : (n : ℕ) → lesson setup n ≡ true → among (on_air setup ks) n ≡ false
  lesson_off_air n hidden = rw (← on_air_same setup ks t up) (off_air setup n (live_keyings setup ks) (no_lesson_keying setup n hidden ks))

  pub air_same : air_of setup (live_seats setup seats) (live_keyings setup ks) ≡ air_of setup seats ks
  unfolding air_of
  air_same =
      simp (top_same setup ks t up, leaders_same setup ks t up, on_air_same setup ks t up, sends_live setup seats (on_air setup ks) seat_numbers lesson_off_air)
