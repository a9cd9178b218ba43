-- The seats of the order with their ranks say what the list of keyings says.
use Rattle.std.proofs.lemmas.Bool.Decides.{nat_tests}
use Prim.Native.Nat.{ℕ, max}
use Rattle.std.specs.List.{fold}
use mathlib.Core.Path.{◌≡◌, refl}
use mathlib.Core.Bool.{Bool, cond}
use mathlib.Core.List.{List, [], ◌∷◌, map}
use native.Mathlib.Omega.{arith}
use Rattle.record.specs.Record.{seat_of}
use Rattle.air.specs.Air.{rank, takes_part, keyings_of, top_rank, at_rank}
use Rattle.air.specs.Marks.{standing, with_rank, seats_at}
use Rattle.record.specs.declared.seat.Seat.{Seat}
use Rattle.air.proofs.RankLaws.{on_is_ranked}

module _ (healthy : Bool) (seats : List Seat) where
  -- with PTT off its rank is 0, so that it need not be asked whether PTT is on
  stands : (s : Seat) → standing healthy s ≡ cond (takes_part healthy s) (rank s.heard.field.ptt) 0
  unfolding standing takes_part
  stands s = grind (arith, nat_tests, on_is_ranked)

  top_from : (a : ℕ) (order : List ℕ) → fold max a (map (λ k. k.rank) (map (with_rank healthy seats) order)) ≡ max a (top_rank (keyings_of healthy seats order))
  unfolding with_rank keyings_of top_rank
  top_from a [] = omega arith
  top_from a (n ∷ order) = grind (arith, stands (seat_of seats n), top_from (max a (standing healthy (seat_of seats n))) order)

  pub highest_is_top : (order : List ℕ) → fold max 0 (map (λ k. k.rank) (map (with_rank healthy seats) order)) ≡ top_rank (keyings_of healthy seats order)
  highest_is_top order = grind (arith, top_from 0 order)

  pub seats_at_rank : (r : ℕ) (order : List ℕ) → (r ≡ 0 → ⊥) → seats_at r (map (with_rank healthy seats) order) ≡ at_rank r (keyings_of healthy seats order)
  unfolding seats_at with_rank keyings_of at_rank
  seats_at_rank r [] some = refl
  seats_at_rank r (n ∷ order) some = grind (arith, nat_tests, stands (seat_of seats n), seats_at_rank r order some, some)

  -- who takes part has a rank
  pub nobody_at_zero : (order : List ℕ) → at_rank 0 (keyings_of healthy seats order) ≡ []
  unfolding keyings_of at_rank takes_part
  nobody_at_zero [] = refl
  nobody_at_zero (n ∷ order) = grind (arith, nat_tests, on_is_ranked, nobody_at_zero order)
