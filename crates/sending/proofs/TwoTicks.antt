-- Two ticks and the merged one: the same bench, but that some report sequence numbers run one further in two. Of any bench.
use Prim.Native.Nat.{ℕ, ◌+◌}
use mathlib.Core.Path.{◌≡◌, refl, ap₂}
use mathlib.Core.Bool.{Bool, cond, ◌&&◌, ◌||◌}
use native.Mathlib.Omega.{arith}
use mathlib.Core.List.{List, [], ◌∷◌, map}
use Rattle.record.specs.Record.{with_seats, with_sequences}
use Rattle.seats.specs.Ticking.{is_due, ticked_seat, ticked_bench}
use Rattle.seats.proofs.TwoTicks.{seats_add, Fate, closed_before, closed_first, closed_second, open_still, fate}
use Rattle.reporting.specs.Reporting.{next_sequence}
use Rattle.sending.specs.Sending.{one_further, reported_to, sent_bench, runs_further}
use Rattle.record.specs.declared.seat.Seat.{Seat}
use Rattle.record.specs.declared.whole.Bench.{Bench}

-- the number of one seat, with its report or without
abbrev number_after : (reported : Bool) → ℕ → ℕ
number_after reported q = cond reported (next_sequence q) q

-- by the fate of the seat: its number runs one further if it was due in the first, and due or closed in the second
one_number : {c₁ c₂ c d₁ d₂ d up : Bool} → Fate c₁ c₂ c d₁ d₂ d up → (q : ℕ)
    → number_after d₂ (number_after d₁ q) ≡ number_after (d₁ && (d₂ || c₂)) (number_after d q)
one_number closed_before q = refl
one_number closed_first q = refl
one_number closed_second q = grind arith
one_number open_still q = grind arith

module _ (x y : ℕ) where
  -- of seats and numbers however many
  numbers_add : (seats : List Seat) (qs : List ℕ)
      → one_further (map (is_due y) (map (ticked_seat x) seats)) (one_further (map (is_due x) seats) qs)
      ≡ one_further (map (runs_further x y) seats) (one_further (map (is_due (x + y)) seats) qs)
  unfolding one_further
  numbers_add [] qs = refl
  numbers_add (s ∷ seats) [] = refl
  numbers_add (s ∷ seats) (q ∷ qs) = ap₂ (λ (n : ℕ) (ns : List ℕ). n ∷ ns) (one_number (fate x y s) q) (numbers_add seats qs)

  -- and of the whole bench
  pub sent_adds : (b : Bench) → sent_bench (sent_bench b x) y ≡ reported_to (map (runs_further x y) b.seats) (sent_bench b (x + y))
  unfolding sent_bench ticked_bench
  sent_adds b =
      ap₂ (λ (seats : List Seat) (qs : List ℕ). with_sequences (with_seats b seats) qs) (seats_add x y b.seats) (numbers_add b.seats b.sequences)
