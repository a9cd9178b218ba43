-- Members of lists of seats: which stand in one, which comes first, which is the smallest, and how many there are.
use Rattle.std.proofs.lemmas.Bool.Decides.{nat_tests}
use Prim.Native.Nat.{ℕ, ◌+◌, ◌≤◌, ◌<◌}
use mathlib.Core.Path.{◌≡◌, refl}
use mathlib.Core.Bool.{Bool, true, false, cond, ◌&&◌, ◌||◌, false≢true}
use mathlib.Core.List.{List, [], ◌∷◌}
use native.Mathlib.Omega.{arith}
use lib.Dec.{eqb, lit≤}
use lib.ListN.{length}
use borrow.Author.Tests.{eq-eqb}
use Rattle.base.specs.Bytes.{bit}
use Rattle.base.specs.Lists.{how_many}
use Rattle.base.proofs.Truths.{◌and◌}
use Rattle.record.specs.Record.{seat_numbers, seat_of}
use Rattle.air.specs.Air.{the_first, among, smallest, any_sends}
use Rattle.air.specs.InWords.{place_of}
use Rattle.record.specs.declared.seat.Seat.{Seat}

-- ---- members of a list that pass a test

abbrev pub chosen : (ℕ → Bool) → List ℕ → List ℕ
chosen g [] = []
chosen g (n ∷ ns) = cond (g n) (n ∷ chosen g ns) (chosen g ns)

module _ (g : ℕ → Bool) where
  pub among_chosen : (ns : List ℕ) (n : ℕ) → among (chosen g ns) n ≡ among ns n && g n
  unfolding among
  among_chosen [] n = refl
  among_chosen (k ∷ ns) n = grind (arith, nat_tests, among_chosen ns n)

  -- the first of them is the one of the least place
  pub first_place : (ns : List ℕ) (n : ℕ) → among (the_first (chosen g ns)) n ≡ true
      → (m : ℕ) → g m ≡ true → place_of n ns ≤ place_of m ns
  unfolding among place_of
  first_place [] n h m pass = omega arith
  first_place (k ∷ ns) n h m pass = grind (arith, nat_tests, first_place ns n, pass)

  pub least_first : (ns : List ℕ) (n : ℕ) → among ns n ≡ true → g n ≡ true → ((m : ℕ) → among ns m ≡ true → g m ≡ true → place_of n ns ≤ place_of m ns)
      → among (the_first (chosen g ns)) n ≡ true
  unfolding among place_of
  least_first [] n here pass least = absurd (false≢true here)
  least_first (k ∷ ns) n here pass least = grind (arith, nat_tests, least_first ns n, least)

pub first_among : (l : List ℕ) (n : ℕ) → among (the_first l) n ≡ true → among l n ≡ true
unfolding among
first_among [] n h = h
first_among (m ∷ l) n h = grind arith

-- ---- the order

pub placed_among : (ns : List ℕ) (n : ℕ) → place_of n ns < length ns → among ns n ≡ true
unfolding among place_of
placed_among [] n h = absurd (omega arith)
placed_among (k ∷ ns) n h = grind (arith, placed_among ns n)

pub among_placed : (ns : List ℕ) (n : ℕ) → among ns n ≡ true → place_of n ns < length ns
unfolding among place_of
among_placed [] n h = absurd (false≢true h)
among_placed (k ∷ ns) n h = grind (arith, among_placed ns n)

-- ---- numbers of seats

-- each above the one before it
abbrev pub Rising : (low : ℕ) → List ℕ → Type 0
Rising low [] = Unit {0}
Rising low (n ∷ ns) = (low < n) × Rising n ns

pub seats_rise : Rising 0 seat_numbers
seats_rise = lit≤ tt and lit≤ tt and lit≤ tt and lit≤ tt and lit≤ tt and lit≤ tt and lit≤ tt and lit≤ tt and tt

risen : (low : ℕ) (ns : List ℕ) → Rising low ns → (n : ℕ) → among ns n ≡ true → low < n
unfolding among
risen low [] up n h = absurd (false≢true h)
risen low (k ∷ ns) up n h = grind (arith, nat_tests, risen k ns up.1 n, up.0)

pub smallest_among : (set ns : List ℕ) (n : ℕ) → among ns n ≡ true → among set n ≡ true → among set (smallest set ns) ≡ true
unfolding smallest among
smallest_among set [] n h e = absurd (false≢true h)
smallest_among set (k ∷ ns) n h e = grind (arith, nat_tests, smallest_among set ns n)

pub smallest_least : (set ns : List ℕ) (low : ℕ) → Rising low ns → (n : ℕ) → among ns n ≡ true → among set n ≡ true → smallest set ns ≤ n
unfolding smallest among
smallest_least set [] low up n h e = absurd (false≢true h)
smallest_least set (k ∷ ns) low up n h e = grind (arith, nat_tests, smallest_least set ns k up.1 n, risen k ns up.1 n)

module _ (test : ℕ → Bool) where
  counts_one : (ns : List ℕ) (n : ℕ) → among ns n ≡ true → test n ≡ true → 1 ≤ how_many test ns
  unfolding among how_many
  counts_one [] n h e = absurd (false≢true h)
  counts_one (k ∷ ns) n h e = grind (arith, nat_tests, counts_one ns n)

  pub counts_two : (ns : List ℕ) (m n : ℕ) → among ns m ≡ true → among ns n ≡ true → test m ≡ true → test n ≡ true → (m ≡ n → ⊥) → 2 ≤ how_many test ns
  unfolding among how_many
  counts_two [] m n h l e f apart = absurd (false≢true h)
  counts_two (k ∷ ns) m n h l e f apart = grind (arith, nat_tests, counts_two ns m n, counts_one ns, apart)

  found_one : (ns : List ℕ) → 1 ≤ how_many test ns → (n : ℕ) × (among ns n ≡ true) × (test n ≡ true)
  unfolding among how_many
  found_one [] h = absurd (omega arith)
  found_one (k ∷ ns) h = by_case (test k) refl h (found_one ns)
    where
      further : (n : ℕ) (t : Bool) → among ns n ≡ true → t || among ns n ≡ true
      further n true e = refl
      further n false e = e

      by_case : (t : Bool) → test k ≡ t → 1 ≤ bit t + how_many test ns → (1 ≤ how_many test ns → (n : ℕ) × (among ns n ≡ true) × (test n ≡ true))
          → (n : ℕ) × (eqb k n || among ns n ≡ true) × (test n ≡ true)
      by_case true e h rest = (k, rw (eq-eqb k k refl), e)
      by_case false e h rest = let r = rest (omega arith) in (r.0, further r.0 (eqb k r.0) r.1, r.2)

  pub found_two : (low : ℕ) (ns : List ℕ) → Rising low ns → 2 ≤ how_many test ns → (m : ℕ) × (n : ℕ) × (test m ≡ true) × (test n ≡ true) × (m ≡ n → ⊥)
  unfolding how_many
  found_two low [] up h = absurd (omega arith)
  found_two low (k ∷ ns) up h = by_case (test k) refl h (found_two k ns up.1)
    where
      by_case : (t : Bool) → test k ≡ t → 2 ≤ bit t + how_many test ns → (2 ≤ how_many test ns → (m : ℕ) × (n : ℕ) × (test m ≡ true) × (test n ≡ true) × (m ≡ n → ⊥))
          → (m : ℕ) × (n : ℕ) × (test m ≡ true) × (test n ≡ true) × (m ≡ n → ⊥)
      by_case true e h rest =
          let one = found_one ns (omega arith) in
          let l = risen k ns up.1 one.0 one.1 in
          (k, one.0, e, one.2, λ q. omega arith)
      by_case false e h rest = rest (omega arith)

module _ (seats : List Seat) (set : List ℕ) where
  pub sends_found : (ns : List ℕ) → any_sends seats set ns ≡ true → (n : ℕ) × (among set n ≡ true) × ((seat_of seats n).heard.field.ptts ≡ true)
  unfolding any_sends
  sends_found [] h = absurd (false≢true h)
  sends_found (k ∷ ns) h = by_case (among set k) (seat_of seats k).heard.field.ptts refl refl h (sends_found ns)
    where
      by_case : (a c : Bool) → among set k ≡ a → (seat_of seats k).heard.field.ptts ≡ c → (a && c) || any_sends seats set ns ≡ true
          → (any_sends seats set ns ≡ true → (n : ℕ) × (among set n ≡ true) × ((seat_of seats n).heard.field.ptts ≡ true))
          → (n : ℕ) × (among set n ≡ true) × ((seat_of seats n).heard.field.ptts ≡ true)
      by_case true true p q h rest = (k, p, q)
      by_case true false p q h rest = rest h
      by_case false c p q h rest = rest h

  pub sends_one : (ns : List ℕ) (n : ℕ) → among ns n ≡ true → among set n ≡ true → (seat_of seats n).heard.field.ptts ≡ true → any_sends seats set ns ≡ true
  unfolding any_sends among
  sends_one [] n h e f = absurd (false≢true h)
  sends_one (k ∷ ns) n h e f = grind (arith, nat_tests, sends_one ns n)
