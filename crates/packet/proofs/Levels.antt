-- Floor division between the ends, and the quality of a level.
use Prim.Native.Nat.{suc, ◌-◌, ◌/◌}
use mathlib.Core.Path.{◌≡◌, refl, ap}
use mathlib.Core.Bool.{Bool, true, false, cond}
use native.Mathlib.Omega.{arith}
use borrow.Author.Tests.{ltb-true, ltb-false}
use lib.Dec.{ltb}
use lib.IntN.{ℤ, pos, negsuc, ◌+ℤ◌}
use Rattle.std.specs.Int.{int_min, int_max}
use Rattle.base.proofs.Signed.{by_difference}
use Rattle.packet.specs.Quality.{floor_div, quality}
use Rattle.packet.proofs.QualityLaws.{below_zero}

-- held between the ends, where the steps are counted from -1000 on, which is 50 steps below zero
pub quality_held : (level : ℤ) → floor_div (int_max (negsuc 999) (int_min level (negsuc 699))) 20 +ℤ pos 50 ≡ pos (quality level)
unfolding quality
quality_held (pos n) = refl
quality_held (negsuc n) = rw (below_zero n) (by_ends (ltb n 699) (ltb 999 n) refl refl)
  where
    by_ends : (high low : Bool) → ltb n 699 ≡ high → ltb 999 n ≡ low
        → floor_div (int_max (negsuc 999) (cond high (negsuc 699) (negsuc n))) 20 +ℤ pos 50 ≡ pos (cond high 15 ((999 - n) / 20))
    by_ends true low p q = refl
    by_ends false true p q = let none : 999 - n ≡ 0 = omega (arith, ltb-true 999 n q) in rw (q, none) refl
    by_ends false false p q =
        rw q (by_difference (λ (z : ℤ). z ≡ pos ((999 - n) / 20)) 50 (suc (n / 20)) (λ l. absurd (omega (arith, ltb-false 999 n q))) (λ l. ap pos (omega arith)))
