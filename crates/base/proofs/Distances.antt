-- The distance of two sequence numbers as the code works it out, and what OrderLaws.antt rests on.
use Prim.Native.Nat.{ℕ, ◌+◌, ◌-◌, ◌%◌, ◌<◌, ◌≤◌}
use mathlib.Core.Path.{◌≡◌, ◌∙◌, ap}
use mathlib.Core.Bool.{false}
use native.Mathlib.Omega.{arith}
use lib.IntN.{ℤ, pos, negsuc, sub_ℕ, ◌+ℤ◌, ◌-ℤ◌}
use lib.Signed.{mag, le_z}
use mir.Syntax.{w16}
use mir.Val.{to_z}
use Rattle.std.proofs.lemmas.Int.{ints}
use Rattle.base.specs.Order.{wrapped, centred, distance, size}

-- the way forward, modulo 65536
pub wrapped_below : (z : ℤ) → wrapped z < 65536
wrapped_below (pos n) = omega arith
wrapped_below (negsuc n) = omega arith

forward : (last new : ℕ) → last < 65536 → new < 65536 → (new + (65536 - last)) % 65536 ≡ wrapped (sub_ℕ new last)
forward last new h k = grind (arith, ints)

-- brought into the middle, from -32768 to 32767
centred_near : (n : ℕ) → n < 65536 → mag (centred n) < 32768
unfolding centred
centred_near n h = grind (arith, ints)

pub distance_near : (last new : ℕ) → mag (distance last new) < 32768
unfolding distance
distance_near last new = centred_near (wrapped (sub_ℕ new last)) (wrapped_below (sub_ℕ new last))

-- the code reads the way forward, a number of 16 bits, with its sign
signed : (n : ℕ) → n < 65536 → to_z w16 n ≡ centred n
unfolding centred
signed n h = grind (arith, ints)

pub distance_is : (last new : ℕ) → last < 65536 → new < 65536 → to_z w16 ((new + (65536 - last)) % 65536) ≡ distance last new
unfolding distance
distance_is last new h k =
    ap (to_z w16) (forward last new h k) ∙ signed (wrapped (sub_ℕ new last)) (wrapped_below (sub_ℕ new last))

-- the distance minus 1
pub size_near : (z : ℤ) → mag z < 32768 → size (z -ℤ pos 1) ≤ 32766
size_near z h = grind (arith, ints)

pub one_more : (z : ℤ) → le_z z (pos 0) ≡ false → pos (size (z -ℤ pos 1) + 1) ≡ z
one_more z e = grind (arith, ints)

-- going on from a number by a distance
pub centred_leads : (a n : ℕ) → n < 65536 → wrapped (pos a +ℤ centred n) ≡ (a + n) % 65536
unfolding centred
centred_leads a n h = grind (arith, ints)

pub difference_leads : (last new : ℕ) → (last + wrapped (sub_ℕ new last)) % 65536 ≡ new % 65536
difference_leads last new = grind (arith, ints)

-- a number that leads from the last to the new differs from new minus last by whole turns
pub turns : (last new : ℕ) (z : ℤ) → wrapped (pos last +ℤ z) ≡ new % 65536 → wrapped (sub_ℕ new last) ≡ wrapped z
turns last new z e = grind (arith, ints)

-- a number that is in the middle already stays
pub centred_wrapped : (z : ℤ) → mag z < 32768 → centred (wrapped z) ≡ z
unfolding centred
centred_wrapped z h = grind (arith, ints)
