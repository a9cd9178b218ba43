-- Items taken one by one are the list of 01: each allowed, no type twice.
use Prim.Native.Nat.{ℕ}
use mathlib.Core.Path.{◌≡◌, refl, ap, sym, ◌∙◌}
use mathlib.Core.Bool.{Bool, true, false, cond, not, ◌&&◌, ◌||◌}
use mathlib.Core.List.{List, [], ◌∷◌}
use native.Mathlib.Omega.{arith}
use lib.Dec.{eqb}
use Rattle.std.specs.Prelude.{Option, None, Some}
use Rattle.base.specs.Bytes.{byte_at}
use Rattle.base.proofs.Truths.{and_true, and_none}
use Rattle.packet.specs.Items.{Item, item_allowed, all_allowed, has_type, no_type_twice, sqi_among, climax_among, side_among, kept}
use Rattle.items.specs.Scan.{with_sqi, with_climax, with_side, no_items}
use Rattle.packet.specs.declared.message.Direction.{Direction}
use Rattle.packet.specs.declared.message.Items.{Items}
use Rattle.items.proofs.OneByOne.{Kind, kind, has, plus, plus_ddc, item, taken_in, one, two, four, five, other}

abbrev fresh : (ddc : Bool) → Items → List Item → Bool
fresh g k [] = true
fresh g k (i ∷ is) = not (has g k i.type) && fresh g k is

-- an item that was there, or the first among the further ones
abbrev or_else : {A : Type 0} → Option A → Option A → Option A
or_else None j = j
or_else (Some a) j = Some a

or_none : {A : Type 0} (i : Option A) → or_else i None ≡ i
or_none None = refl
or_none (Some a) = refl

abbrev merged : Items → List Item → Items
merged k is = record { sqi = or_else k.sqi (sqi_among is); climax = or_else k.climax (climax_among is); side = or_else k.side (side_among is) }

merged_none : (k : Items) → merged k [] ≡ k
unfolding sqi_among climax_among side_among
merged_none k = simp or_none

fresh_more : (t : ℕ) (g h : Bool) (k j : Items) → ((u : ℕ) → has h j u ≡ (eqb u t || has g k u)) → (is : List Item)
    → fresh h j is ≡ not (has_type t is) && fresh g k is
unfolding has_type
fresh_more t g h k j e [] = refl
fresh_more t g h k j e (i ∷ is) = grind (arith, e i.type, fresh_more t g h k j e is)

abbrev TakenAll : Direction → (ddc : Bool) → Items → List Item → Type 0
TakenAll d g k is = taken_in d g k is ≡ cond (all_allowed d is && no_type_twice is && fresh g k is) (Some (merged k is)) None

module _ (d : Direction) (g : Bool) (k : Items) (value : List ℕ) (is : List Item) where
  abbrev v : ℕ
  v = byte_at value 0

  cons_is : (t : ℕ) → Kind t → TakenAll d (plus_ddc g (item t value)) (plus k (item t value)) is → TakenAll d g k (item t value ∷ is)
  unfolding all_allowed no_type_twice sqi_among climax_among side_among item_allowed
  cons_is t one h = grind (arith, h, fresh_more 1 g g k (with_sqi k v) (λ u. grind arith) is)
  cons_is t two h = grind (arith, h, fresh_more 2 g g k (with_climax k v) (λ u. grind arith) is)
  cons_is t four h = grind (arith, h, fresh_more 4 g true k k (λ u. grind arith) is)
  cons_is t five h = grind (arith, h, fresh_more 5 g g k (with_side k v) (λ u. grind arith) is)
  cons_is t (other p q r s) h = grind arith

taken_is : (d : Direction) (is : List Item) (g : Bool) (k : Items) → TakenAll d g k is
unfolding all_allowed no_type_twice
taken_is d [] g k = ap Some (sym (merged_none k))
taken_is d (i ∷ is) g k = cons_is d g k i.value is i.type (kind i.type) (taken_is d is (plus_ddc g i) (plus k i))

fresh_none : (is : List Item) → fresh false no_items is ≡ true
fresh_none [] = refl
fresh_none (i ∷ is) = simp (and_none, fresh_none is)

pub run_is : (d : Direction) (is : List Item) → taken_in d false no_items is ≡ cond (all_allowed d is && no_type_twice is) (Some (kept is)) None
unfolding kept
run_is d is = taken_is d is false no_items ∙ simp (fresh_none is, and_true)
