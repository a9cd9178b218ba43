-- The records of a tick, by the number of the seat.
use Prim.Native.Nat.{ℕ, zero, suc, ◌+◌, ◌-◌}
use mathlib.Core.Path.{◌≡◌, refl}
use mathlib.Core.Bool.{Bool, false}
use mathlib.Core.List.{List, [], ◌∷◌}
use native.Mathlib.Omega.{arith}
use lib.ListN.{get_or}
use Rattle.record.specs.Record.{no_such_seat, entry_of}
use Rattle.record.proofs.Seats.{seat_in_range}
use Rattle.sending.specs.Sending.{record_for, records_from}
use Rattle.record.specs.declared.whole.Bench.{Bench}

module _ (shown : Bench) (timestamp : ℕ) where
  record_at : (n : ℕ) (due : List Bool) (k : ℕ) → get_or (records_from shown timestamp n due) k [] ≡ record_for shown timestamp (n + k) (get_or due k false)
  unfolding records_from
  record_at n [] k = refl
  record_at n (d ∷ ds) zero = grind arith
  record_at n (d ∷ ds) (suc k) = grind (arith, record_at (suc n) ds k)

  pub seat_record : (due : List Bool) (n : ℕ) → no_such_seat n ≡ false
      → entry_of [] (records_from shown timestamp 1 due) n ≡ record_for shown timestamp n (entry_of false due n)
  seat_record due n real = grind (arith, record_at 1 due (n - 1), seat_in_range n real)
