-- The scan, byte by byte, finds the items as 01 says them, from the first byte and under either X.
use Prim.Native.Nat.{ℕ}
use mathlib.Core.Path.{◌≡◌, refl, ◌∙◌}
use mathlib.Core.Bool.{Bool, true, false, cond}
use mathlib.Core.List.{List, [], ◌∷◌}
use native.Mathlib.Omega.{arith}
use lib.Dec.{eqb}
use Rattle.std.specs.Prelude.{None, Some}
use lib.ListN.{take}
use borrow.Author.Tests.{eqb-true}
use Rattle.packet.specs.Items.{Item, Found, found, broken, behind, all_zero, item_type, item_length, items_behind, items_in, some_item, run_allowed, items_allowed, items_of, listed, sqi_among, climax_among, side_among, kept}
use Rattle.items.specs.Scan.{scan_at, take_item, begun, met, scan_of, no_items, start_in, end_of}
use Rattle.items.specs.ItemsIn.{items_read}
use Rattle.packet.specs.declared.message.Direction.{Direction}
use Rattle.items.specs.declared.scan.Mode.TheVariants.{Tail, First, Value}
use Rattle.items.proofs.OneByOne.{led, broken_stays, tail_is, item, outcome, scan_finds}
use Rattle.items.proofs.Taken.{run_is}

-- an item stands in front, or the bytes are broken
abbrev starts_well : Found → Bool
starts_well (found is) = some_item is
starts_well broken = true

starts_behind : (i : Item) (f : Found) → starts_well (behind i f) ≡ true
starts_behind i (found is) = refl
starts_behind i broken = refl

starts : (b : ℕ) (bs : List ℕ) → eqb b 0 ≡ false → starts_well (items_in (b ∷ bs)) ≡ true
unfolding items_behind
starts b bs e = simp e (starts_behind (item (item_type b) (take (item_length b) bs)) (items_behind (item_length b) bs))

outcome_is : (d : Direction) (f : Found) → starts_well f ≡ true → outcome d false no_items f ≡ cond (run_allowed d f) (Some (kept (listed f))) None
unfolding run_allowed
outcome_is d (found is) e = run_is d is ∙ simp e
outcome_is d broken e = refl

zero_run : (d : Direction) (bs : List ℕ) → run_allowed d (items_in (0 ∷ bs)) ≡ false
unfolding items_behind run_allowed
zero_run d bs = grind arith

first_is : (d : Direction) (bs : List ℕ)
    → led d (scan_at First false no_items) bs ≡ cond (run_allowed d (items_in bs)) (Some (kept (listed (items_in bs)))) None
unfolding items_behind run_allowed take_item
first_is d [] = refl
first_is d (b ∷ bs) = by_zero (eqb b 0) refl
  where
    zero_breaks : (vs : List ℕ) → led d (scan_at (Value 0) false no_items) vs ≡ None
    zero_breaks [] = refl
    zero_breaks (v ∷ rest) = broken_stays d false no_items rest

    by_zero : (t : Bool) → eqb b 0 ≡ t
        → led d (scan_at (begun false b) (met false b) no_items) bs ≡ cond (run_allowed d (items_in (b ∷ bs))) (Some (kept (listed (items_in (b ∷ bs))))) None
    by_zero true e = grind (arith, eqb-true b 0 e, zero_breaks bs)
    by_zero false e = grind (arith, scan_finds d (b ∷ bs) 0 false no_items, outcome_is d (items_in (b ∷ bs)) (starts b bs e))

-- the scan's answer is 01's
pub scan_is : (d : Direction) (x : ℕ) (bytes : List ℕ) → end_of (scan_of d (scan_at (start_in x) false no_items) bytes) ≡ items_read d x bytes
unfolding scan_of items_read items_allowed items_of kept sqi_among climax_among side_among
scan_is d x bytes = by_x (eqb x 0)
  where
    by_x : (t : Bool) → led d (scan_at (cond t Tail First) false no_items) bytes
        ≡ cond (cond t (all_zero bytes) (run_allowed d (items_in bytes))) (Some (kept (cond t [] (listed (items_in bytes))))) None
    by_x true = tail_is d false no_items bytes
    by_x false = first_is d bytes
