-- Signed numbers on the machine. A signed local holds bits: a need speaks of `to_z w (of_z w z)`, which is z where z fits.
use Prim.Native.Nat.{ℕ, suc, ◌-◌, ◌^◌, ◌<◌, ◌≤◌}
use mathlib.Core.Path.{◌≡◌, refl}
use mathlib.Core.Bool.{Bool, true, false, cond}
use borrow.Author.Tests.{ltb-true, ltb-false}
use lib.Dec.{ltb}
use lib.IntN.{ℤ, pos, negsuc, sub_ℕ}
use lib.Signed.{mag}
use mir.Syntax.{Width}
use mir.Val.{to_z, of_z, hbits}
use mir.Facts.{to_z-of_z}

-- a result is read back as it was given, from `c.f.ok`
pub read_back : (w : Width) (z : ℤ) → mag z < 2 ^ hbits w → to_z w (of_z w z) ≡ z
read_back w z h = to_z-of_z (record { sfits = h })

-- what holds of a difference below zero, and of one from zero up, holds of every difference
module _ (P : ℤ → Type 0) (a b : ℕ) (below : a < b → P (negsuc (b - suc a))) (above : b ≤ a → P (pos (a - b))) where
  by_test : (t : Bool) → ltb a b ≡ t → P (cond t (negsuc (b - suc a)) (pos (a - b)))
  by_test true e = below (ltb-true a b e)
  by_test false e = above (ltb-false a b e)

  pub by_difference : P (sub_ℕ a b)
  by_difference = by_test (ltb a b) refl
