-- 01 and 02, the quality of a level: its ends and its steps in numbers from zero up. The printed cases are in demands, Examples.
use Prim.Native.Nat.{ℕ, suc, ◌-◌, ◌/◌, ◌≤◌}
use mathlib.Core.Path.{◌≡◌, refl, ap}
use mathlib.Core.Bool.{Bool, true, false, cond}
use native.Mathlib.Nat.{zero-div}
use native.Mathlib.Omega.{arith}
use borrow.Author.Tests.{lt-ltb, ltb-true, ltb-false}
use lib.Dec.{ltb, lit≤}
use lib.IntN.{ℤ, pos, negsuc, ◌+ℤ◌}
use lib.Signed.{lt_z}
use Rattle.base.specs.Order.{size}
use Rattle.base.proofs.Signed.{by_difference}
use Rattle.packet.specs.Quality.{floor_div, quality}

-- A level -(n + 1) between ends -(a + 1) and -(b + 1), in steps of k. Below the lower end a - n is 0, so that end needs no test.
module _ (a b k n : ℕ) (h : b ≤ a) where
  by_ends : (low high : Bool) → ltb a n ≡ low → ltb n b ≡ high
      → cond low 0 (cond high 15 (size (floor_div (negsuc n +ℤ pos (suc a)) k))) ≡ cond high 15 ((a - n) / k)
  by_ends true true p q = absurd (omega (arith, ltb-true a n p, ltb-true n b q))
  by_ends true false p q = let z : a - n ≡ 0 = omega (arith, ltb-true a n p) in rw (z, zero-div)
  by_ends false true p q = refl
  by_ends false false p q =
      by_difference (λ (z : ℤ). size (floor_div z k) ≡ (a - n) / k) (suc a) (suc n)
      (λ l. absurd (omega (arith, ltb-false a n p)))
      (λ l. let z : suc a - suc n ≡ a - n = omega arith in ap (λ (m : ℕ). m / k) z)

  pub in_steps : cond (ltb a n) 0 (cond (ltb n b) 15 (size (floor_div (negsuc n +ℤ pos (suc a)) k))) ≡ cond (ltb n b) 15 ((a - n) / k)
  in_steps = by_ends (ltb a n) (ltb n b) refl refl

pub below_zero : (n : ℕ) → quality (negsuc n) ≡ cond (ltb n 699) 15 ((999 - n) / 20)
unfolding quality
below_zero n = in_steps 999 699 20 n (lit≤ tt)

pub quality_most : (level : ℤ) → quality level ≤ 15
unfolding quality
quality_most (pos n) = lit≤ tt
quality_most (negsuc n) = rw (below_zero n) (by_end (ltb n 699) refl)
  where
    by_end : (high : Bool) → ltb n 699 ≡ high → cond high 15 ((999 - n) / 20) ≤ 15
    by_end true e = lit≤ tt
    by_end false e = omega (arith, ltb-false n 699 e)

-- above any bound that is not below the upper end
pub quality_above : (level : ℤ) (m : ℕ) → m ≤ 699 → lt_z (negsuc m) level ≡ true → quality level ≡ 15
unfolding quality
quality_above (pos n) m h e = refl
quality_above (negsuc n) m h e = rw (below_zero n, lt-ltb n 699 (omega (arith, ltb-true n m e)))
