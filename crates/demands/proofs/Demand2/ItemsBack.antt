-- A list of items that is written is found again, whichever they are.
use Prim.Native.Nat.{ℕ, zero, suc, ◌+◌, ◌%◌, ◌<◌}
use mathlib.Core.Path.{◌≡◌, refl, ap, ◌∙◌}
use mathlib.Core.Bool.{true, false, ◌&&◌}
use mathlib.Core.List.{List, [], ◌∷◌, ◌++◌, append_assoc}
use native.Mathlib.Omega.{arith}
use lib.ListN.{length, replicate}
use lib.Seq.{take_at}
use lib.Dec.{eqb}
use borrow.Author.Tests.{ne_eqb}
use Rattle.base.specs.Bytes.{bit, placed}
use Rattle.packet.specs.Items.{Item, found, behind, all_zero, item_type, item_length, items_behind, items_in, all_allowed, no_type_twice, some_item, run_allowed, items_allowed, items_of}
use Rattle.writer.specs.Writing.{item_bytes}
use Rattle.packet.specs.declared.message.Direction.{Direction}

-- type and length of an item fit its first byte, which ends no items
pub record Writes (i : Item) : Type 0 where
  pub some : 0 < i.type
  pub type : i.type < 16
  pub short : length i.value < 16

abbrev pub AllWrite : List Item → Type 0
AllWrite [] = Unit {0}
AllWrite (i ∷ is) = Writes i × AllWrite is

zeros : (n : ℕ) → all_zero (replicate n 0) ≡ true
unfolding all_zero
zeros zero = refl
zeros (suc n) = zeros n

zeros_hold_none : (n : ℕ) → items_in (replicate n 0) ≡ found []
unfolding items_behind
zeros_hold_none n = grind (arith, zeros)

-- a whole value is stepped over
over_value : (v bs : List ℕ) → items_behind (length v) (v ++ bs) ≡ items_in bs
unfolding items_behind
over_value [] bs = refl
over_value (b ∷ v) bs = over_value v bs

-- an item in front of others
first_found : (head : ℕ) (v bs : List ℕ) → eqb head 0 ≡ false → item_length head ≡ length v
    → items_in (head ∷ (v ++ bs)) ≡ behind (record { type = item_type head; value = v }) (items_in bs)
unfolding items_behind
first_found head v bs a l = grind (arith, over_value, take_at)

pub items_back : (is : List Item) (n : ℕ) → AllWrite is → items_in (item_bytes is ++ replicate n 0) ≡ found is
unfolding item_bytes
items_back [] n w = zeros_hold_none n
items_back (i ∷ is) n w =
    let head : ℕ = (placed 8 0 4 i.type + placed 8 4 4 (length i.value)) % 256 in
    let rest : List ℕ = item_bytes is ++ replicate n 0 in
    let type : item_type head ≡ i.type = omega arith in
    ap (λ (bs : List ℕ). items_in (head ∷ bs)) (append_assoc i.value (item_bytes is) (replicate n 0))
    ∙ first_found head i.value rest (ne_eqb head 0 (omega arith)) (omega arith)
    ∙ ap (behind (record { type = item_type head; value = i.value })) (items_back is n w.1)
    ∙ ap (λ (t : ℕ). found (record { type = t; value = i.value } ∷ is)) type

-- X says whether there is an item
pub list_back : (is : List Item) (n : ℕ) → AllWrite is → items_of (bit (some_item is)) (item_bytes is ++ replicate n 0) ≡ is
unfolding items_of
list_back is n w = grind (arith, items_back)

pub allowed_back : (d : Direction) (is : List Item) (n : ℕ) → AllWrite is
    → items_allowed d (bit (some_item is)) (item_bytes is ++ replicate n 0) ≡ all_allowed d is && no_type_twice is
unfolding items_allowed run_allowed item_bytes all_allowed no_type_twice
allowed_back d is n w = grind (arith, items_back, zeros)
