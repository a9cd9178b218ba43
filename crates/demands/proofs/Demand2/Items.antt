-- Bytes that hold items are those items written one behind the other, and zeros.
use Prim.Native.Nat.{ℕ, zero, suc, ◌+◌, ◌-◌, ◌%◌, ◌<◌}
use mathlib.Core.Path.{◌≡◌, refl, ap, sym, ◌∙◌, subst}
use mathlib.Core.Bool.{Bool, true, false, cond}
use mathlib.Core.List.{List, [], ◌∷◌, ◌++◌, append_assoc}
use native.Mathlib.Omega.{arith}
use lib.Dec.{eqb}
use lib.ListN.{length, take, replicate, length-append, length-replicate}
use borrow.Author.Tests.{eqb-true}
use Rattle.base.specs.Bytes.{Bytes, placed}
use Rattle.base.proofs.Truths.{and_left, and_right}
use Rattle.packet.specs.Items.{Item, Found, found, broken, behind, all_zero, item_type, item_length, items_behind, items_in}
use Rattle.packet.proofs.ItemLaws.{not_found, found_same, value_whole}
use Rattle.writer.specs.Writing.{item_bytes}

pub tail_bytes : (b : ℕ) (bs : List ℕ) → Bytes (b ∷ bs) → Bytes bs
tail_bytes b bs h i = h (suc i)

-- zeros alone
pub zeros_are : (bs : List ℕ) → all_zero bs ≡ true → bs ≡ replicate (length bs) 0
unfolding all_zero
zeros_are [] e = refl
zeros_are (b ∷ bs) e =
    let z : b ≡ 0 = eqb-true b 0 (and_left (eqb b 0) (all_zero bs) e) in
    let r : bs ≡ replicate (length bs) 0 = zeros_are bs (and_right (eqb b 0) (all_zero bs) e) in
    ap (λ (c : ℕ). c ∷ bs) z ∙ ap (λ (l : List ℕ). 0 ∷ l) r

-- an item's first byte is its type and its length
head_back : (b l : ℕ) → b < 256 → l ≡ item_length b → b ≡ (placed 8 0 4 (item_type b) + placed 8 4 4 l) % 256
head_back b l h e = omega arith

-- behind so many bytes of a value: the items, and zeros up to the end
pub record Back (n : ℕ) (bs : List ℕ) (is : List Item) : Type 0 where
  pub zeros : ℕ
  pub are : bs ≡ take n bs ++ (item_bytes is ++ replicate zeros 0)

module _ (b : ℕ) (bs : List ℕ) (small : b < 256) where
  abbrev item : Item
  item = record { type = item_type b; value = take (item_length b) bs }

  -- an item in front of others
  in_front_lem : (js : List Item) → items_behind (item_length b) bs ≡ found js → Back (item_length b) bs js → Back 0 (b ∷ bs) (item ∷ js)
  unfolding item_bytes
  in_front_lem js e k =
      record {
        zeros = k.zeros;
        are =
            ap (λ (c : ℕ). c ∷ bs) (head_back b (length item.value) small (value_whole (item_length b) bs js e))
            ∙ ap (λ (l : List ℕ). (placed 8 0 4 (item_type b) + placed 8 4 4 (length item.value)) % 256 ∷ l)
            (k.are ∙ sym (append_assoc item.value (item_bytes js) (replicate k.zeros 0)));
      }

  by_found : (f : Found) (is : List Item) → items_behind (item_length b) bs ≡ f → behind item f ≡ found is
      → ((js : List Item) → items_behind (item_length b) bs ≡ found js → Back (item_length b) bs js) → Back 0 (b ∷ bs) is
  by_found f is q e ih = grind (arith, in_front_lem)

  -- a zero byte where an item would begin
  by_end : (t : Bool) → all_zero bs ≡ t → (is : List Item) → b ≡ 0 → cond t (found []) broken ≡ found is → Back 0 (b ∷ bs) is
  unfolding item_bytes
  by_end true z is e q =
      subst (Back 0 (b ∷ bs)) (found_same [] is q)
      (record { zeros = suc (length bs); are = ap (λ (c : ℕ). c ∷ bs) e ∙ ap (λ (l : List ℕ). 0 ∷ l) (zeros_are bs z) })
  by_end false z is e q = absurd (not_found is q)

behind_back : (bs : List ℕ) (n : ℕ) (is : List Item) → Bytes bs → items_behind n bs ≡ found is → Back n bs is
unfolding items_behind item_bytes
behind_back [] zero is small e = subst (Back 0 []) (found_same [] is e) (record { zeros = 0; are = refl })
behind_back [] (suc n) is small e = absurd (not_found is e)
behind_back (b ∷ bs) (suc n) is small e =
    let k = behind_back bs n is (tail_bytes b bs small) e in
    record { zeros = k.zeros; are = ap (λ (l : List ℕ). b ∷ l) k.are }
behind_back (b ∷ bs) zero is small e = by_zero (eqb b 0) refl e (λ n js q. behind_back bs n js (tail_bytes b bs small) q)
  where
    by_zero : (t : Bool) → eqb b 0 ≡ t → cond t (cond (all_zero bs) (found []) broken) (behind (item b bs (small 0)) (items_behind (item_length b) bs)) ≡ found is
        → ((n : ℕ) (js : List Item) → items_behind n bs ≡ found js → Back n bs js) → Back 0 (b ∷ bs) is
    by_zero true z q ih = by_end b bs (small 0) (all_zero bs) refl is (eqb-true b 0 z) q
    by_zero false z q ih = by_found b bs (small 0) (items_behind (item_length b) bs) is refl q (λ js r. ih (item_length b) js r)

-- the items, and as many zeros as bytes are left
pub items_back : (bs : List ℕ) (is : List Item) → Bytes bs → items_in bs ≡ found is → bs ≡ item_bytes is ++ replicate (length bs - length (item_bytes is)) 0
items_back bs is small e =
    let k = behind_back bs 0 is small e in
    let both : length (item_bytes is ++ replicate k.zeros 0) ≡ length (item_bytes is) + k.zeros = simp (length-append, length-replicate) in
    let long : length bs ≡ length (item_bytes is) + k.zeros = ap length k.are ∙ both in
    let left : k.zeros ≡ length bs - length (item_bytes is) = omega arith in
    k.are ∙ ap (λ (n : ℕ). item_bytes is ++ replicate n 0) left
