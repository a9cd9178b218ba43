-- 18: whether a seat is Coupling, as the code asks it of all seats and as it is asked of one.
use native.Mathlib.Omega.{arith}
use Prim.Native.Nat.{ℕ, zero, suc, ◌-◌}
use mathlib.Core.Path.{◌≡◌, refl}
use mathlib.Core.Bool.{false}
use mathlib.Core.List.{List, [], ◌∷◌}
use lib.ListN.{get_or}
use Rattle.std.specs.List.{list_any}
use Rattle.record.specs.Record.{seat_of, closed_seat}
use Rattle.record.specs.declared.seat.Seat.{Seat}
use Rattle.seats.specs.Opening.{holds_coupling, any_coupling}

-- in std's words
pub coupling_any : (ss : List Seat) → list_any holds_coupling ss ≡ any_coupling ss
unfolding any_coupling
coupling_any [] = refl
coupling_any (s ∷ ss) = grind (arith, coupling_any ss)

none_at_place : (ss : List Seat) (i : ℕ) → any_coupling ss ≡ false → holds_coupling (get_or ss i closed_seat) ≡ false
unfolding any_coupling
none_at_place [] i e = refl
none_at_place (s ∷ ss) zero e = grind arith
none_at_place (s ∷ ss) (suc i) e = grind (arith, none_at_place ss i)

-- no seat is Coupling
pub none_coupling : (ss : List Seat) (n : ℕ) → any_coupling ss ≡ false → holds_coupling (seat_of ss n) ≡ false
unfolding seat_of
none_coupling ss n e = grind (arith, none_at_place ss (n - 1))
