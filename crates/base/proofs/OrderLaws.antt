-- 01, Order of packets: what the distance is known by. The printed cases are in demands, Examples.
use Prim.Native.Nat.{ℕ, ◌+◌, ◌%◌, ◌≤◌}
use mathlib.Core.Path.{◌≡◌, refl, sym, ◌∙◌, ap}
use mathlib.Core.Bool.{Bool, true, false}
use native.Mathlib.Omega.{arith}
use Rattle.std.proofs.lemmas.Int.{ints}
use lib.Dec.{lit≤}
use lib.IntN.{ℤ, pos, neg_ℤ, sub_ℕ, ◌+ℤ◌}
use lib.Signed.{◌≤ℤ◌}
use Rattle.base.specs.Order.{wrapped, centred, distance, late, missing}
use Rattle.base.proofs.Distances as d

-- "into -32768 to 32767"
pub distance_low : (last new : ℕ) → neg_ℤ (pos 32768) ≤ℤ distance last new
distance_low last new = omega (arith, ints, d.distance_near last new)

pub distance_high : (last new : ℕ) → distance last new ≤ℤ pos 32767
distance_high last new = omega (arith, ints, d.distance_near last new)

-- "new sequence minus last accepted, taken modulo 65536": the distance leads from the last to the new
pub distance_leads : (last new : ℕ) → wrapped (pos last +ℤ distance last new) ≡ new % 65536
unfolding distance
distance_leads last new = d.centred_leads last (wrapped (sub_ℕ new last)) (d.wrapped_below (sub_ℕ new last)) ∙ d.difference_leads last new

-- and no other number from -32768 to 32767 does
pub distance_only : (last new : ℕ) (z : ℤ) → neg_ℤ (pos 32768) ≤ℤ z → z ≤ℤ pos 32767 → wrapped (pos last +ℤ z) ≡ new % 65536 → z ≡ distance last new
unfolding distance
distance_only last new z l h e = sym (ap centred (d.turns last new z e) ∙ d.centred_wrapped z (grind (arith, ints)))

-- "distance minus 1 packets are missing", 0 to 32766
pub missing_most : (heard : Bool) (last new : ℕ) → missing heard last new ≤ 32766
unfolding missing
missing_most true last new = d.size_near (distance last new) (d.distance_near last new)
missing_most false last new = lit≤ tt

pub missing_is : (last new : ℕ) → late true last new ≡ false → pos (missing true last new + 1) ≡ distance last new
unfolding late missing
missing_is last new = d.one_more (distance last new)

-- each end is met
pub ends : (distance 10 32777 ≡ pos 32767) × (distance 10 32778 ≡ neg_ℤ (pos 32768))
unfolding distance centred
ends = (refl, refl)
