-- The scan, byte by byte, takes the items one by one: each where it fits those before it.
use Prim.Native.Nat.{ℕ, zero, suc}
use mathlib.Core.Path.{◌≡◌, refl, sym, subst}
use mathlib.Core.Bool.{Bool, true, false, cond, not, ◌&&◌, ◌||◌}
use mathlib.Core.List.{List, [], ◌∷◌}
use native.Mathlib.Omega.{arith}
use lib.Dec.{eqb}
use lib.ListN.{take}
use borrow.Author.Tests.{eqb-true}
use Rattle.std.specs.List.{fold}
use Rattle.std.specs.Prelude.{Option, None, Some, is_some}
use Rattle.packet.specs.Items.{Item, Found, found, broken, behind, all_zero, item_type, item_length, items_behind, value_byte, item_allowed}
use Rattle.packet.proofs.ItemLaws.{value_whole}
use Rattle.items.specs.Scan.{scan_at, with_sqi, with_climax, with_side, take_sqi, take_climax, take_side, take_item, behind_value, past, begun, met, step_of, end_of}
use Rattle.packet.specs.declared.message.Direction.{Direction}
use Rattle.packet.specs.declared.message.Items.{Items}
use Rattle.items.specs.declared.scan.Mode.TheVariants.{Tail, Next, Value, Broken}
use Rattle.items.specs.declared.scan.Scan.{Scan}

-- ---- what the rest of the bytes leads to

abbrev pub led : Direction → Scan → List ℕ → Option Items
led d s bytes = end_of (fold (step_of d) s bytes)

pub broken_stays : (d : Direction) (g : Bool) (k : Items) (bs : List ℕ) → led d (scan_at Broken g k) bs ≡ None
broken_stays d g k [] = refl
broken_stays d g k (b ∷ bs) = broken_stays d g k bs

pub tail_is : (d : Direction) (g : Bool) (k : Items) (bs : List ℕ) → led d (scan_at Tail g k) bs ≡ cond (all_zero bs) (Some k) None
unfolding all_zero
tail_is d g k [] = refl
tail_is d g k (b ∷ bs) = grind (arith, tail_is d g k bs, broken_stays d g k bs)

-- ---- one item, of any type

pub data Kind : ℕ → Type 0 where
  one : Kind 1
  two : Kind 2
  four : Kind 4
  five : Kind 5
  other : {t : ℕ} → eqb t 1 ≡ false → eqb t 2 ≡ false → eqb t 4 ≡ false → eqb t 5 ≡ false → Kind t

pub kind : (t : ℕ) → Kind t
kind t = by_one (eqb t 1) refl
  where
    by_five : (b : Bool) → eqb t 5 ≡ b → eqb t 1 ≡ false → eqb t 2 ≡ false → eqb t 4 ≡ false → Kind t
    by_five true e p q r = subst Kind (sym (eqb-true t 5 e)) five
    by_five false e p q r = other p q r e

    by_four : (b : Bool) → eqb t 4 ≡ b → eqb t 1 ≡ false → eqb t 2 ≡ false → Kind t
    by_four true e p q = subst Kind (sym (eqb-true t 4 e)) four
    by_four false e p q = by_five (eqb t 5) refl p q e

    by_two : (b : Bool) → eqb t 2 ≡ b → eqb t 1 ≡ false → Kind t
    by_two true e p = subst Kind (sym (eqb-true t 2 e)) two
    by_two false e p = by_four (eqb t 4) refl p e

    by_one : (b : Bool) → eqb t 1 ≡ b → Kind t
    by_one true e = subst Kind (sym (eqb-true t 1 e)) one
    by_one false e = by_two (eqb t 2) refl e

-- an item of the type was taken before
abbrev pub has : (ddc : Bool) → Items → ℕ → Bool
has g k t = (eqb t 1 && is_some k.sqi) || (eqb t 2 && is_some k.climax) || (eqb t 5 && is_some k.side) || (eqb t 4 && g)

abbrev fits : Direction → (ddc : Bool) → Items → Item → Bool
fits d g k i = item_allowed d i && not (has g k i.type)

abbrev pub plus : Items → Item → Items
plus k i =
    cond (eqb i.type 1) (with_sqi k (value_byte i))
    (cond (eqb i.type 2) (with_climax k (value_byte i))
    (cond (eqb i.type 5) (with_side k (value_byte i)) k))

abbrev pub plus_ddc : (ddc : Bool) → Item → Bool
plus_ddc g i = eqb i.type 4 || g

abbrev pub item : ℕ → List ℕ → Item
item t v = record { type = t; value = v }

-- ---- a run of items, taken one by one

abbrev pub taken_in : Direction → (ddc : Bool) → Items → List Item → Option Items
taken_in d g k [] = Some k
taken_in d g k (i ∷ is) = cond (fits d g k i) (taken_in d (plus_ddc g i) (plus k i) is) None

abbrev pub outcome : Direction → (ddc : Bool) → Items → Found → Option Items
outcome d g k (found is) = taken_in d g k is
outcome d g k broken = None

outcome_behind : (d : Direction) (g : Bool) (k : Items) (i : Item) (f : Found)
    → outcome d g k (behind i f) ≡ cond (fits d g k i) (outcome d (plus_ddc g i) (plus k i) f) None
outcome_behind d g k i (found is) = refl
outcome_behind d g k i broken = grind arith

-- ---- the scan finds the list

-- from any place in a value that is stepped over, or where an item may begin
abbrev Rest : Direction → List ℕ → Type 0
Rest d bs = (n : ℕ) (g : Bool) (k : Items) → led d (scan_at (past n) g k) bs ≡ outcome d g k (items_behind n bs)

module _ (d : Direction) (g : Bool) (k : Items) where
  -- what the items lead to that begin with a head
  abbrev from : (t l : ℕ) → List ℕ → Option Items
  from t l bs = outcome d g k (behind (item t (take l bs)) (items_behind l bs))

  -- of another length: broken, whether its value is whole or not
  other_length : (t l : ℕ) (bs : List ℕ) → eqb t 4 ≡ false → eqb l 1 ≡ false → None ≡ from t l bs
  unfolding item_allowed
  other_length t l bs p q = by_found (items_behind l bs) refl
    where
      by_found : (f : Found) → items_behind l bs ≡ f → None ≡ outcome d g k (behind (item t (take l bs)) f)
      by_found (found is) e = grind (arith, value_whole l bs is e)
      by_found broken e = refl

  abbrev took : ℕ → ℕ → Option Items
  took t v = cond (eqb t 1) (take_sqi d k v) (cond (eqb t 2) (take_climax d k v) (cond (eqb t 5) (take_side k v) None))

  one_byte_lem : (t v : ℕ) (rest : List ℕ) → Kind t → eqb t 4 ≡ false
      → led d (behind_value g k (took t v)) rest ≡ cond (fits d g k (item t (v ∷ []))) (led d (scan_at Next g (plus k (item t (v ∷ [])))) rest) None
  unfolding item_allowed take_sqi take_climax take_side
  one_byte_lem t v rest one e = grind (arith, broken_stays d g k rest)
  one_byte_lem t v rest two e = grind (arith, broken_stays d g k rest)
  one_byte_lem t v rest four e = cc
  one_byte_lem t v rest five e = grind (arith, broken_stays d g k rest)
  one_byte_lem t v rest (other p q r s) e = simp (p, q, r, s) (broken_stays d g k rest)

  -- an item of length 1 that is kept
  one_kept : (t v : ℕ) (rest : List ℕ) → Rest d (v ∷ rest) → eqb t 4 ≡ false → led d (behind_value g k (took t v)) rest ≡ from t 1 (v ∷ rest)
  unfolding items_behind
  one_kept t v rest ih e =
      let i : Item = item t (v ∷ []) in
      grind (arith, one_byte_lem t v rest (kind t) e, ih 1 g (plus k i), outcome_behind d g k i (items_behind 0 rest))

  -- of any length
  abbrev Valued : (t v : ℕ) (rest : List ℕ) (l : ℕ) → Type 0
  Valued t v rest l = led d (behind_value g k (cond (not (eqb l 1)) None (took t v))) rest ≡ from t l (v ∷ rest)

  value_is : (b : ℕ) (bs : List ℕ) → Rest d bs → eqb (item_type b) 4 ≡ false → led d (scan_at (Value b) g k) bs ≡ from (item_type b) (item_length b) bs
  unfolding take_item items_behind
  value_is b [] ih e = nothing (item_length b)
    where
      nothing : (l : ℕ) → None ≡ from (item_type b) l []
      nothing zero = other_length (item_type b) 0 [] e refl
      nothing (suc l) = refl
  value_is b (v ∷ rest) ih e =
      grind (arith, eqb-true (item_length b) 1, one_kept (item_type b) v rest ih e, broken_stays d g k rest, other_length (item_type b) (item_length b) (v ∷ rest) e)

  -- one that is stepped over
  ddc_is : (l : ℕ) (bs : List ℕ) → Rest d bs → led d (scan_at (cond g Broken (past l)) true k) bs ≡ from 4 l bs
  unfolding item_allowed
  ddc_is l bs ih =
      grind (arith, broken_stays d true k bs, ih l true k, outcome_behind d g k (item 4 (take l bs)) (items_behind l bs))

  begun_is : (b : ℕ) (bs : List ℕ) → Rest d bs → led d (scan_at (begun g b) (met g b) k) bs ≡ from (item_type b) (item_length b) bs
  begun_is b bs ih = by_type (eqb (item_type b) 4) refl
    where
      by_type : (c : Bool) → eqb (item_type b) 4 ≡ c
          → led d (scan_at (cond c (cond g Broken (past (item_length b))) (Value b)) (c || g) k) bs ≡ from (item_type b) (item_length b) bs
      by_type true e =
          subst (λ (t : ℕ). led d (scan_at (cond g Broken (past (item_length b))) true k) bs ≡ from t (item_length b) bs) (sym (eqb-true (item_type b) 4 e))
          (ddc_is (item_length b) bs ih)
      by_type false e = value_is b bs ih e

pub scan_finds : (d : Direction) (bs : List ℕ) → Rest d bs
unfolding items_behind
scan_finds d [] zero g k = refl
scan_finds d [] (suc n) g k = refl
scan_finds d (b ∷ bs) (suc n) g k = scan_finds d bs n g k
scan_finds d (b ∷ bs) zero g k =
    grind (arith, tail_is d (met g b) k bs, begun_is d g k b bs (scan_finds d bs))
