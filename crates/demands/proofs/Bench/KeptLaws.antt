-- What the invariant says of who may be on the air: for readers, and for later changes of the air. No theorem here rests on it.
use Prim.Native.Nat.{ℕ, ◌≤◌}
use mathlib.Core.Path.{◌≡◌, refl}
use mathlib.Core.Bool.{true, false, not, ◌&&◌, ◌||◌}
use native.Mathlib.Omega.{arith}
use lib.Dec.{ltb, eqb}
use Rattle.record.specs.Record.{seat_of, lesson}
use Rattle.seats.specs.Opening.{holds_coupling}
use Rattle.air.specs.Air.{rank, keyed}
use Rattle.record.specs.declared.whole.Bench.{Bench}
use Rattle.demands.specs.Kept.{Kept}

-- a table of the six types: a test of the type that holds at each of them
each_type : (P : ℕ → Type 0) → P 0 → P 1 → P 2 → P 3 → P 4 → P 5 → (ptt : ℕ) → ptt ≤ 5 → P ptt
each_type q a b c d e f ptt h = grind arith

-- every type but off and Test is above Test
pub above_test : (ptt : ℕ) → ptt ≤ 5 → ltb 1 (rank ptt) ≡ not (eqb ptt 0 || eqb ptt 5)
above_test = each_type (λ ptt. ltb 1 (rank ptt) ≡ not (eqb ptt 0 || eqb ptt 5)) refl refl refl refl refl refl

module _ (b : Bench) (kept : Kept b) (n : ℕ) where
  -- ".. has PTT on and PM 0"
  pub keyed_is : keyed (seat_of b.seats n).heard.field ≡ not (eqb (seat_of b.seats n).heard.field.ptt 0) && not (seat_of b.seats n).heard.field.pm
  keyed_is = grind arith

  module _ (taught : lesson b.setup n ≡ true) where
    pub lesson_not_above_test : ltb 1 (rank (seat_of b.seats n).heard.field.ptt) ≡ false
    lesson_not_above_test = grind arith

    pub lesson_holds_no_coupling : holds_coupling (seat_of b.seats n) ≡ false
    lesson_holds_no_coupling = grind arith
