-- One of eight, by the number of its seat: where it stands, after another was put in a place, and after all were changed alike.
use Rattle.std.proofs.lemmas.Grind.{common_steps}
use Rattle.std.proofs.lemmas.Bool.Decides.{nat_tests}
use Prim.Native.Nat.{ℕ, zero, suc, ◌-◌, ◌≤◌, ◌<◌}
use mathlib.Core.Path.{◌≡◌, refl, sym}
use mathlib.Core.Bool.{Bool, true, false, cond, true≢false}
use mathlib.Core.List.{List, map}
use native.Mathlib.Omega.{arith}
use lib.Dec.{eqb}
use lib.ListN.{length, get_or, set, replicate}
use Rattle.base.proofs.Places.{all_alike, map_place}
use Rattle.record.specs.Record.{seat_numbers, no_such_seat, closed_seat, entry_of, with_entry, seat_of, lesson}
use Rattle.record.specs.declared.setup.Setup.{Setup}
use Rattle.record.specs.declared.seat.Seat.{Seat}

-- 13 not met: "seat .. 1 to 8"
pub seat_in_range : (n : ℕ) → no_such_seat n ≡ false → (1 ≤ n) × (n ≤ 8)
seat_in_range n e = (grind (arith, nat_tests), grind (arith, nat_tests))

pub in_range_seat : (n : ℕ) → 1 ≤ n → n ≤ 8 → no_such_seat n ≡ false
in_range_seat n low high = grind (arith, nat_tests)

-- and counted from 0
pub real_at : (i : ℕ) → i < 8 → no_such_seat (suc i) ≡ false
real_at i h = in_range_seat (suc i) (omega arith) h

-- what holds of 1 to 8 holds of every seat
pub each_seat : (P : ℕ → Type 0) → P 1 × P 2 × P 3 × P 4 × P 5 × P 6 × P 7 × P 8 → (n : ℕ) → no_such_seat n ≡ false → P n
each_seat P h zero real = absurd (true≢false real)
each_seat P h (suc zero) real = h.0
each_seat P h (suc (suc zero)) real = h.1
each_seat P h (suc (suc (suc zero))) real = h.2
each_seat P h (suc (suc (suc (suc zero)))) real = h.3
each_seat P h (suc (suc (suc (suc (suc zero))))) real = h.4
each_seat P h (suc (suc (suc (suc (suc (suc zero)))))) real = h.5
each_seat P h (suc (suc (suc (suc (suc (suc (suc zero))))))) real = h.6
each_seat P h (suc (suc (suc (suc (suc (suc (suc (suc zero)))))))) real = h.7
each_seat P h (suc (suc (suc (suc (suc (suc (suc (suc (suc n))))))))) real = past (suc (suc (suc (suc (suc (suc (suc (suc (suc n))))))))) real (omega arith)
  where
    past : (k : ℕ) → no_such_seat k ≡ false → 8 < k → P (suc (suc (suc (suc (suc (suc (suc (suc (suc n)))))))))
    past k e far = absurd (let r = seat_in_range k e in omega arith)

-- ---- an array with a place for each seat

module _ {A : Type 0} (entries : List A) (n : ℕ) where
  pub entry_there : (none : A) → no_such_seat n ≡ false → entry_of none entries n ≡ get_or entries (n - 1) none
  entry_there none e = rw e

  pub entry_none : (none : A) → no_such_seat n ≡ true → entry_of none entries n ≡ none
  entry_none none e = rw e

  pub put_there : (entry : A) → no_such_seat n ≡ false → with_entry entries n entry ≡ set entries (n - 1) entry
  put_there entry e = rw e

  -- as it was, or with its entry put
  pub put_cases : (P : List A → Type 0) (entry : A) → P entries → P (set entries (n - 1) entry) → P (with_entry entries n entry)
  put_cases P entry old new = by_case (no_such_seat n)
    where
      by_case : (none : Bool) → P (cond none entries (set entries (n - 1) entry))
      by_case true = old
      by_case false = new

  pub as_many_entries : (entry : A) → length (with_entry entries n entry) ≡ length entries
  as_many_entries entry = grind (arith, common_steps)

-- what is put for one seat is found there, and nothing else for another
pub entry_put : {A : Type 0} (none : A) (entries : List A) (m n : ℕ) (entry : A) → length entries ≡ 8 → no_such_seat m ≡ false
    → entry_of none (with_entry entries m entry) n ≡ cond (eqb n m) entry (entry_of none entries n)
entry_put {A} none entries m n entry eight there = grind (arith, nat_tests, common_steps, seat_in_range m there)

pub entry_elsewhere : {A : Type 0} (none : A) (entries : List A) (m n : ℕ) (entry : A) → (n ≡ m → ⊥)
    → entry_of none (with_entry entries m entry) n ≡ entry_of none entries n
entry_elsewhere none entries m n entry other = grind (arith, nat_tests, common_steps, seat_in_range m, seat_in_range n, other)

-- of an array whose entries were all changed alike, where `none` is changed alike too
pub entry_changed : {A B : Type 0} (change : A → B) (none : A) {changed : B} → change none ≡ changed → (entries : List A) (n : ℕ)
    → entry_of changed (map change entries) n ≡ change (entry_of none entries n)
entry_changed change none {changed} e entries n = by_case (no_such_seat n)
  where
    by_case : (past : Bool) → cond past changed (get_or (map change entries) (n - 1) changed) ≡ change (cond past none (get_or entries (n - 1) none))
    by_case true = sym e
    by_case false = map_place change none e entries (n - 1)

-- a flag that is set is a seat's
pub flag_is_seat : (flags : List Bool) (n : ℕ) → entry_of false flags n ≡ true → no_such_seat n ≡ false
flag_is_seat flags n = λ h. grind (arith, nat_tests)

-- what is made of each seat's number, for one of them; and of two such lists
pub at_seat : {A : Type 0} (f : ℕ → A) (d : A) (n : ℕ) → no_such_seat n ≡ false → entry_of d (map f seat_numbers) n ≡ f n
at_seat f d = each_seat (λ n. entry_of d (map f seat_numbers) n ≡ f n) (refl, refl, refl, refl, refl, refl, refl, refl)

pub seats_alike : {A : Type 0} (f g : ℕ → A) → ((n : ℕ) → no_such_seat n ≡ false → f n ≡ g n) → map f seat_numbers ≡ map g seat_numbers
seats_alike f g h = cc (h 1 refl, h 2 refl, h 3 refl, h 4 refl, h 5 refl, h 6 refl, h 7 refl, h 8 refl)

-- ---- the seats

pub seat_of_place : (ss : List Seat) (n : ℕ) → no_such_seat n ≡ false → seat_of ss n ≡ get_or ss (n - 1) closed_seat
unfolding seat_of
seat_of_place ss n e = rw e

-- by its place, counted from 0
pub seat_at : (ss : List Seat) (i : ℕ) → i < 8 → seat_of ss (suc i) ≡ get_or ss i closed_seat
unfolding seat_of
seat_at ss i h = grind (arith, nat_tests)

pub seat_of_none : (ss : List Seat) (n : ℕ) → no_such_seat n ≡ true → seat_of ss n ≡ closed_seat
unfolding seat_of
seat_of_none ss n e = rw e

-- so one that is open is a seat
pub open_is_seat : (ss : List Seat) (n : ℕ) → (seat_of ss n).opened ≡ true → no_such_seat n ≡ false
open_is_seat ss n = λ h. grind (arith, seat_of_none)

-- a seat's flag in the set-up
pub lesson_flag : (setup : Setup) (n : ℕ) → no_such_seat n ≡ false → get_or setup.lesson (n - 1) false ≡ lesson setup n
unfolding lesson
lesson_flag setup n real = rw real

-- one set-up has one answer
pub same_lessons : {setup other : Setup} → other ≡ setup → (n : ℕ) {t : Bool} → lesson setup n ≡ t → lesson other n ≡ t
same_lessons e n known = grind (arith, known)

pub seat_put : (ss : List Seat) (m n : ℕ) (s : Seat) → length ss ≡ 8 → no_such_seat m ≡ false
    → seat_of (with_entry ss m s) n ≡ cond (eqb n m) s (seat_of ss n)
unfolding seat_of
seat_put ss m n s eight there = entry_put closed_seat ss m n s eight there

pub seat_changed : (change : Seat → Seat) → change closed_seat ≡ closed_seat → (ss : List Seat) (n : ℕ)
    → seat_of (map change ss) n ≡ change (seat_of ss n)
unfolding seat_of
seat_changed change e ss n = entry_changed change closed_seat e ss n

pub seat_of_eight_closed : (n : ℕ) → seat_of (replicate 8 closed_seat) n ≡ closed_seat
unfolding seat_of
seat_of_eight_closed n = grind (arith, nat_tests, all_alike)
