-- What a tick does to a seat, by cases.
use Prim.Native.Nat.{ℕ, ◌<◌}
use mathlib.Core.Path.{◌≡◌, refl}
use mathlib.Core.Bool.{Bool, true, false, cond}
use native.Mathlib.Omega.{arith}
use borrow.Author.Tests.{leb-false}
use Rattle.std.proofs.lemmas.Grind.{common_steps}
use Rattle.record.specs.Record.{closed_seat}
use Rattle.seats.specs.Ticking.{nothing_left, is_due, aged, ticked_seat}
use Rattle.record.specs.declared.seat.Seat.{Seat}

-- "A closed seat isn't due": not one that the tick closes, either
pub due_open : (ms : ℕ) (s : Seat) → is_due ms s ≡ true → (ticked_seat ms s).opened ≡ true
unfolding is_due ticked_seat
due_open ms s e = grind (arith, common_steps)

-- what holds of a closed seat, of one that grew older and of one that was closed before holds of a seat after a tick
pub ticked_cases : (P : Seat → Type 0) (ms : ℕ) (s : Seat) → P closed_seat → (s.opened ≡ true → ms < s.left → P (aged ms s)) → P s → P (ticked_seat ms s)
unfolding ticked_seat
ticked_cases P ms s closes ages stays = by_tests s.opened (nothing_left ms s) refl refl
  where
    by_tests : (opened silent : Bool) → s.opened ≡ opened → nothing_left ms s ≡ silent → P (cond opened (cond silent closed_seat (aged ms s)) s)
    by_tests true true e h = closes
    by_tests true false e h = ages e (omega (arith, leb-false))
    by_tests false silent e h = stays
