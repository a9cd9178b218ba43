-- What an accepted call passed: each test of its list of refusals, by its name, so that no proof depends on a place in a list. Each list
-- is here whole, for readers and for later calls, also where no proof asks for a test yet.
use Rattle.std.proofs.lemmas.Bool.Decides.{nat_tests}
use native.Mathlib.Omega.{arith}
use Prim.Native.Nat.{ℕ, ◌≤◌}
use mathlib.Core.Path.{◌≡◌}
use mathlib.Core.Bool.{Bool, true, false}
use mathlib.Core.List.{List}
use Rattle.packet.specs.Refusals.{NoCase}
use Rattle.record.specs.Kind.{kind_of, has_one_side}
use Rattle.record.specs.Record.{no_such_seat, seat_of, lesson}
use Rattle.seats.specs.Opening.{shortest, longest, fewest, most, asks_coupling, any_coupling, open_refusals, seat_refusals}
use Rattle.seats.specs.Radio.{side_refusals}
use Rattle.record.specs.declared.setup.Setup.{Setup}
use Rattle.record.specs.declared.seat.Seat.{Seat}
use Rattle.seats.specs.declared.opening.Request.{Request}

pub record OpenAccepted (setup : Setup) (n : ℕ) (seats : List Seat) (r : Request) : Type 0 where
  pub is_seat : no_such_seat n ≡ false
  pub was_closed : (seat_of seats n).opened ≡ false
  pub period_least : shortest ≤ r.period
  pub period_most : r.period ≤ longest
  pub multiplier_least : fewest ≤ r.multiplier
  pub multiplier_most : r.multiplier ≤ most
  pub lesson_not_coupling : lesson setup n ≡ true → asks_coupling r ≡ false
  pub coupling_free : asks_coupling r ≡ true → any_coupling seats ≡ false

pub open_accepted : (setup : Setup) (n : ℕ) (seats : List Seat) (r : Request) → NoCase (open_refusals setup n seats r) → OpenAccepted setup n seats r
unfolding open_refusals
open_accepted setup n seats r none = record { is_seat = none.0; was_closed = none.1.0; period_least = grind (arith, nat_tests, none.1.1.0); period_most = grind (arith, nat_tests, none.1.1.0); multiplier_least = grind (arith, nat_tests, none.1.1.0); multiplier_most = grind (arith, nat_tests, none.1.1.0); lesson_not_coupling = λ h. grind (arith, none.1.1.1.0); coupling_free = λ h. grind (arith, none.1.1.1.1.0) }

pub record SeatAccepted (n : ℕ) (opened : Bool) : Type 0 where
  pub is_seat : no_such_seat n ≡ false
  pub was_open : opened ≡ true

pub seat_accepted : (n : ℕ) (opened : Bool) → NoCase (seat_refusals n opened) → SeatAccepted n opened
unfolding seat_refusals
seat_accepted n opened none = record { is_seat = none.0; was_open = grind (arith, none.1.0) }

pub side_accepted : (setup : Setup) → NoCase (side_refusals setup) → has_one_side (kind_of setup.kind) ≡ false
unfolding side_refusals
side_accepted setup none = none.0
