-- One seat in two ticks, of a ms and then of b, and in the merged one, of a + b: of any seat, whatever it holds. At the end a tick of 0.
use Rattle.std.proofs.lemmas.Bool.Decides.{nat_tests}
use Prim.Native.Nat.{ℕ, ◌+◌, ◌-◌, ◌%◌, ◌≤◌, ◌<◌}
use mathlib.Core.Path.{◌≡◌, refl, sym, ap, ◌∙◌}
use mathlib.Core.Bool.{Bool, true, false, cond, not, ◌&&◌, ◌||◌, false≢true}
use mathlib.Core.List.{List, [], ◌∷◌, map}
use native.Mathlib.Omega.{arith}
use native.Mathlib.Nat.{mod-add-mod, mod-eq_of_lt, add_assoc, add-zero}
use lib.Dec.{leb, eqb}
use borrow.Author.Tests.{lt-leb, eqb-true, eqb-false}
use Rattle.base.proofs.Truths.{and_none, and_not, or_none}
use Rattle.record.specs.Record.{closed_seat}
use Rattle.seats.specs.Ticking.{nothing_left, falls_silent, phase_after, is_due, aged, ticked_seat}
use Rattle.record.specs.declared.seat.Seat.{Seat}

-- ---- what a seat counts

-- "A tick takes its ms from that": the second tick tests what the merged one tests
pub left_adds : (a b : ℕ) (s : Seat) → nothing_left b (aged a s) ≡ nothing_left (a + b) s
left_adds a b s = grind (arith, nat_tests)

-- and where nothing is left, nothing is left later
pub left_falls : (a b : ℕ) (s : Seat) → nothing_left a s ≡ true → nothing_left (a + b) s ≡ true
left_falls a b s e = grind (arith, nat_tests)

-- "the phase is kept": what is left over when periods run out goes on counting (a period of 0 keeps none)
module _ (ms period phase : ℕ) where
  phase_kept : (period ≡ 0 → ⊥) → phase_after ms period phase ≡ (phase + ms) % period
  phase_kept h = grind (arith, nat_tests)

  phase_none : period ≡ 0 → phase_after ms period phase ≡ 0
  phase_none e = grind (arith, nat_tests)

  pub phase_goes_on : phase + ms < period → phase_after ms period phase ≡ phase + ms
  phase_goes_on h = phase_kept (λ (none : period ≡ 0). omega arith) ∙ mod-eq_of_lt h

pub phase_adds : (a b period phase : ℕ) → phase_after b period (phase_after a period phase) ≡ phase_after (a + b) period phase
phase_adds a b period phase = by_period (eqb period 0) refl
  where
    by_period : (none : Bool) → eqb period 0 ≡ none → phase_after b period (phase_after a period phase) ≡ phase_after (a + b) period phase
    by_period true e = let none = eqb-true period 0 e in phase_none b period _ none ∙ sym (phase_none (a + b) period phase none)
    by_period false e =
        let some = eqb-false period 0 e in
        phase_kept b period _ some
        ∙ ap (λ (n : ℕ). (n + b) % period) (phase_kept a period phase some)
        ∙ rw (mod-add-mod, add_assoc) (sym (phase_kept (a + b) period phase some))

-- "several in one tick count once"
pub period_adds : (a b period phase : ℕ) → leb period (phase + a) || leb period (phase_after a period phase + b) ≡ leb period (phase + (a + b))
period_adds a b period phase = grind (arith, nat_tests, phase_goes_on a period phase)

-- ---- the seat

pub aged_adds : (a b : ℕ) (s : Seat) → aged b (aged a s) ≡ aged (a + b) s
aged_adds a b s = grind (arith, phase_adds a b s.period s.phase)

open_ticks : (ms : ℕ) (s : Seat) → s.opened ≡ true → ticked_seat ms s ≡ cond (nothing_left ms s) closed_seat (aged ms s)
unfolding ticked_seat
open_ticks ms s = λ h. grind arith

pub ticks_add : (a b : ℕ) (s : Seat) → ticked_seat b (ticked_seat a s) ≡ ticked_seat (a + b) s
unfolding ticked_seat
ticks_add a b s = grind (arith, nat_tests, aged_adds a b s, left_adds a b s, left_falls a b s)

-- and every seat
pub seats_add : (a b : ℕ) (seats : List Seat) → map (ticked_seat b) (map (ticked_seat a) seats) ≡ map (ticked_seat (a + b)) seats
seats_add a b [] = refl
seats_add a b (s ∷ seats) = grind (arith, ticks_add a b s, seats_add a b seats)

-- ---- what is told of it

-- The four fates of a seat: is it closed by the first tick (₁), by the second (₂), by the merged one; is it due in each; is it open afterwards.
pub data Fate : (c₁ c₂ c d₁ d₂ d up : Bool) → Type 0 where
  closed_before : Fate false false false false false false false
  closed_first : Fate true false true false false false false
  closed_second : {d₁ : Bool} → Fate false true true d₁ false false false
  open_still : {d₁ d₂ : Bool} → Fate false false false d₁ d₂ (d₁ || d₂) true

module _ (a b : ℕ) (s : Seat) where
  abbrev FateOf : Type 0
  FateOf =
      Fate (falls_silent a s) (falls_silent b (ticked_seat a s)) (falls_silent (a + b) s)
      (is_due a s) (is_due b (ticked_seat a s)) (is_due (a + b) s) (ticked_seat (a + b) s).opened

  pub fate : FateOf
  unfolding falls_silent is_due ticked_seat
  fate = by_tests s.opened (nothing_left a s) (nothing_left (a + b) s) refl refl refl
    where
      by_tests : (opened silent later : Bool) → s.opened ≡ opened → nothing_left a s ≡ silent → nothing_left (a + b) s ≡ later → FateOf
      by_tests false silent later o n l = simp o closed_before
      by_tests true true later o n l = simp (o, n, left_falls a b s n) closed_first
      by_tests true false true o n l = simp (o, n, l, left_adds a b s) closed_second
      by_tests true false false o n l = simp (o, n, l, left_adds a b s, ← period_adds a b s.period s.phase) open_still

pub closed_together : {c₁ c₂ c d₁ d₂ d up : Bool} → Fate c₁ c₂ c d₁ d₂ d up → c₁ || c₂ ≡ c
closed_together closed_before = refl
closed_together closed_first = refl
closed_together closed_second = refl
closed_together open_still = refl

pub due_among_open : {c₁ c₂ c d₁ d₂ d up : Bool} → Fate c₁ c₂ c d₁ d₂ d up → up ≡ true → d₁ || d₂ ≡ d
due_among_open closed_before e = refl
due_among_open closed_first e = refl
due_among_open closed_second e = absurd (false≢true e)
due_among_open open_still e = refl

pub one_difference : {c₁ c₂ c d₁ d₂ d up : Bool} → Fate c₁ c₂ c d₁ d₂ d up → (d₁ || d₂) && not d ≡ d₁ && c₂
one_difference closed_before = refl
one_difference closed_first = refl
one_difference (closed_second {d₁}) = ap (λ (t : Bool). t && true) (or_none d₁)
one_difference (open_still {d₁} {d₂}) = and_not (d₁ || d₂) ∙ sym (and_none d₁)

pub none_alone : {c₁ c₂ c d₁ d₂ d up : Bool} → Fate c₁ c₂ c d₁ d₂ d up → d && not (d₁ || d₂) ≡ false
none_alone closed_before = refl
none_alone closed_first = refl
none_alone closed_second = refl
none_alone (open_still {d₁} {d₂}) = and_not (d₁ || d₂)

-- ---- a tick of 0

abbrev pub InTime : Seat → Type 0
InTime s = s.opened ≡ true → (1 ≤ s.left) × (s.phase < s.period)

pub record Unmoved (s : Seat) : Type 0 where
  pub not_silent : falls_silent 0 s ≡ false
  pub not_due : is_due 0 s ≡ false
  pub same : ticked_seat 0 s ≡ s

-- a tick of 0 leaves a seat alone if, where it is open, it has time left and a phase below its period,
pub in_time_unmoved : (s : Seat) → InTime s → Unmoved s
unfolding falls_silent is_due ticked_seat
in_time_unmoved s in-time = by_test s.opened refl
  where
    by_test : (opened : Bool) → s.opened ≡ opened → Unmoved s
    by_test false o = record { not_silent = simp o; not_due = simp o; same = simp o }
    by_test true o =
        let times = in-time o in
        let some = lt-leb s.left 0 times.0 in
        let early : s.phase + 0 < s.period = omega arith in
        let left : s.left - 0 ≡ s.left = omega arith in
        record {
          not_silent = simp (o, some);
          not_due = simp (o, some, lt-leb s.period (s.phase + 0) early);
          same = open_ticks 0 s o ∙ rw (some, left, phase_goes_on 0 s.period s.phase early, add-zero);
        }

-- and only then
pub unmoved_in_time : (s : Seat) → falls_silent 0 s ≡ false → is_due 0 s ≡ false → InTime s
unfolding falls_silent is_due
unmoved_in_time s silent due o = (grind (arith, nat_tests), grind (arith, nat_tests))
