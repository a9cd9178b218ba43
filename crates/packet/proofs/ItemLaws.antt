-- Items that were found.
use Prim.Native.Nat.{ℕ, zero, suc}
use mathlib.Core.Path.{◌≡◌, refl, ap}
use mathlib.Core.List.{List, [], ◌∷◌}
use native.Mathlib.Omega.{arith}
use lib.ListN.{length, take}
use Rattle.packet.specs.Items.{Item, found, broken, all_zero, items_behind, items_in}

pub not_found : (is : List Item) → broken ≡ found is → ⊥
not_found is e = let z : ◌≡◌ {A = ℕ} 0 1 = cc in omega arith

pub found_same : (is js : List Item) → found is ≡ found js → is ≡ js
found_same is js e = cc

-- behind a value there are items, or none, only if the value is whole
pub value_whole : (n : ℕ) (bs : List ℕ) (is : List Item) → items_behind n bs ≡ found is → length (take n bs) ≡ n
unfolding items_behind
value_whole zero bs is e = refl
value_whole (suc n) [] is e = absurd (not_found is e)
value_whole (suc n) (b ∷ bs) is e = ap suc (value_whole n bs is e)

-- ---- computed

-- 40 is a whole item, also in the last byte; 41 there has no value
last_byte : (items_in (0x40 ∷ []) ≡ found (record { type = 4; value = [] } ∷ [])) × (items_in (0x41 ∷ []) ≡ broken)
unfolding items_behind
last_byte = (refl, refl)

-- a value may hold zeros, and one of even length makes the next item begin at an odd place
odd_place : items_in (0x42 ∷ 0 ∷ 7 ∷ 0x51 ∷ 0x80 ∷ 0 ∷ []) ≡ found (record { type = 4; value = 0 ∷ 7 ∷ [] } ∷ record { type = 5; value = 0x80 ∷ [] } ∷ [])
unfolding items_behind all_zero
odd_place = refl
