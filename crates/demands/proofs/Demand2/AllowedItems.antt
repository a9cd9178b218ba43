-- Items that may stand in a packet: which they are, and that by rising type they are those of the message that keeps them.
use Prim.Native.Nat.{ℕ, zero, suc, ◌+◌, ◌/◌, ◌%◌, ◌<◌}
use mathlib.Core.Path.{◌≡◌, refl, ap, sym, subst}
use mathlib.Core.Bool.{Bool, true, false, cond, ◌&&◌, false≢true}
use mathlib.Core.List.{List, [], ◌∷◌}
use native.Mathlib.Omega.{arith}
use lib.Dec.{ltb, eqb}
use borrow.Author.Tests.{ltb-true, ltb-false, eqb-true, le-leb}
use lib.ListN.{length, take, length-take}
use Rattle.std.specs.Prelude.{Option, None, Some}
use Rattle.base.specs.Bytes.{byte_at, bytes8, placed, Bytes}
use Rattle.base.proofs.Truths.{and_left, and_right}
use Rattle.packet.specs.Items.{Item, Found, found, broken, behind, all_zero, item_length, items_behind, ddc_type, one_byte, value_byte, sqi_quality, sqi_method, climax_delay, sqi_allowed, climax_allowed, side_allowed, in_tx, in_rx, item_allowed, all_allowed, has_type, no_type_twice, run_allowed, items_allowed, listed, items_of, sqi_among, climax_among, kept}
use Rattle.writer.specs.Writing.{side_listed, rising_items, sqi_writable, climax_writable}
use Rattle.packet.specs.declared.message.Direction.{Direction}
use Rattle.packet.specs.declared.message.Direction.TheVariants.{Tx, Rx}
use Rattle.packet.specs.declared.message.Items.{Items}
use Rattle.packet.specs.declared.message.Side.TheVariants.{Main, Standby}
use Rattle.packet.specs.declared.message.Side.{Side}
use Rattle.demands.specs.Plain.{Rising}
use Rattle.demands.specs.LaidOut.{SqiValue, Stands, a_quality, a_delay, main, standby, stepped_over, AllStand}
use Rattle.demands.proofs.Demand2.Items.{tail_bytes}
use Rattle.demands.proofs.Demand2.Inversion.{take_bytes}
use Rattle.demands.proofs.Demand2.ItemsBack.{AllWrite}
use Rattle.demands.proofs.Demand2.RisingItems.{sqi_value, climax_value, rising_kept}

-- ---- what a line of the table asks

pub sqi_allowed_lem : (q m : ℕ) → SqiValue q m → sqi_allowed q m ≡ true
sqi_allowed_lem q m h = grind arith

sqi_may_stand : (q m : ℕ) → sqi_allowed q m ≡ true → SqiValue q m
sqi_may_stand q m e = grind arith

-- ---- what the message keeps of them

pub sqi_writable_lem : (d : Direction) (is : List Item) → AllStand d is → sqi_writable (sqi_among is) ≡ true
unfolding sqi_among
sqi_writable_lem d [] h = refl
sqi_writable_lem Rx (_ ∷ is) (a_quality q m h, s) =
    let e = sqi_allowed_lem q m h in
    simp ((sqi_value q m e).0, (sqi_value q m e).1, e)
sqi_writable_lem Tx (_ ∷ is) (a_delay v h, s) = sqi_writable_lem Tx is s
sqi_writable_lem d (_ ∷ is) (main _, s) = sqi_writable_lem d is s
sqi_writable_lem d (_ ∷ is) (standby _, s) = sqi_writable_lem d is s
sqi_writable_lem d (_ ∷ is) (stepped_over _ v h, s) = sqi_writable_lem d is s

pub climax_writable_lem : (d : Direction) (is : List Item) → AllStand d is → climax_writable (climax_among is) ≡ true
unfolding climax_among
climax_writable_lem d [] h = refl
climax_writable_lem Rx (_ ∷ is) (a_quality q m h, s) = climax_writable_lem Rx is s
climax_writable_lem Tx (_ ∷ is) (a_delay v h, s) = simp ((climax_value v (le-leb v 127 h)).0, le-leb v 127 h)
climax_writable_lem d (_ ∷ is) (main _, s) = climax_writable_lem d is s
climax_writable_lem d (_ ∷ is) (standby _, s) = climax_writable_lem d is s
climax_writable_lem d (_ ∷ is) (stepped_over _ v h, s) = climax_writable_lem d is s

pub no_sqi_in_tx : (is : List Item) → AllStand Tx is → sqi_among is ≡ None
unfolding sqi_among
no_sqi_in_tx [] h = refl
no_sqi_in_tx (_ ∷ is) (a_delay v h, s) = no_sqi_in_tx is s
no_sqi_in_tx (_ ∷ is) (main _, s) = no_sqi_in_tx is s
no_sqi_in_tx (_ ∷ is) (standby _, s) = no_sqi_in_tx is s
no_sqi_in_tx (_ ∷ is) (stepped_over _ v h, s) = no_sqi_in_tx is s

pub no_climax_in_rx : (is : List Item) → AllStand Rx is → climax_among is ≡ None
unfolding climax_among
no_climax_in_rx [] h = refl
no_climax_in_rx (_ ∷ is) (a_quality q m h, s) = no_climax_in_rx is s
no_climax_in_rx (_ ∷ is) (main _, s) = no_climax_in_rx is s
no_climax_in_rx (_ ∷ is) (standby _, s) = no_climax_in_rx is s
no_climax_in_rx (_ ∷ is) (stepped_over _ v h, s) = no_climax_in_rx is s

-- they fit their bytes
pub all_write : (d : Direction) (is : List Item) → AllStand d is → AllWrite is
all_write d [] h = tt
all_write Rx (_ ∷ is) (a_quality q m h, s) = (omega arith, all_write Rx is s)
all_write Tx (_ ∷ is) (a_delay v h, s) = (omega arith, all_write Tx is s)
all_write d (_ ∷ is) (main _, s) = (omega arith, all_write d is s)
all_write d (_ ∷ is) (standby _, s) = (omega arith, all_write d is s)
all_write d (_ ∷ is) (stepped_over _ v h, s) = (omega arith, all_write d is s)

-- ---- by rising type, with none that is stepped over

-- the items of a message that can be written
pub record Listed (is : List Item) : Type 0 where
  pub items : Items
  pub sqi_fits_lem : sqi_writable items.sqi ≡ true
  pub climax_fits_lem : climax_writable items.climax ≡ true
  pub are : rising_items items ≡ is

-- the first type is above another
abbrev Above : ℕ → List Item → Type 0
Above t [] = Unit {0}
Above t (i ∷ is) = t < i.type

rises_on : (i : Item) (is : List Item) → Rising (i ∷ is) → Above i.type is × Rising is
rises_on i is r = grind arith

none_above_side : (d : Direction) (is : List Item) → AllStand d is → Above 5 is → [] ≡ is
none_above_side d is s l = grind arith

-- each direction has one type of its own, below that of the side
abbrev own_type : Direction → ℕ
own_type Tx = 2
own_type Rx = 1

own_below_side : (d : Direction) → own_type d < 5
own_below_side d = grind arith

-- above it stands the side alone, or nothing
side_alone : (d : Direction) (is : List Item) → AllStand d is → has_type ddc_type is ≡ false → Above (own_type d) is → Rising is
    → (e : Option Side) × (side_listed e ≡ is)
unfolding has_type
side_alone d [] s n l r = (None, refl)
side_alone Rx (_ ∷ is) (a_quality q m h, s) n l r = absurd (omega arith)
side_alone Tx (_ ∷ is) (a_delay v h, s) n l r = absurd (omega arith)
side_alone d (i ∷ is) (main _, s) n l r = (Some Main, ap (λ (js : List Item). i ∷ js) (none_above_side d is s (rises_on i is r).0))
side_alone d (i ∷ is) (standby _, s) n l r = (Some Standby, ap (λ (js : List Item). i ∷ js) (none_above_side d is s (rises_on i is r).0))
side_alone d (i ∷ is) (stepped_over _ v h, s) n l r = absurd (false≢true (sym n))

from_side : {is : List Item} → (e : Option Side) × (side_listed e ≡ is) → Listed is
unfolding rising_items
from_side (e, h) =
    record { items = record { sqi = None; climax = None; side = e }; sqi_fits_lem = refl; climax_fits_lem = refl; are = h }

rising_listed : (d : Direction) (is : List Item) → AllStand d is → has_type ddc_type is ≡ false → Rising is → Listed is
unfolding rising_items has_type
rising_listed d [] s n r = from_side (None, refl)
rising_listed Rx (i ∷ is) (a_quality q m h, s) n r =
    let on = rises_on i is r in
    let e = side_alone Rx is s n on.0 on.1 in
    record {
      items = record { sqi = Some (record { quality = q; method = m }); climax = None; side = e.0 };
      sqi_fits_lem = sqi_allowed_lem q m h;
      climax_fits_lem = refl;
      are = ap (λ (js : List Item). i ∷ js) e.1;
    }
rising_listed Tx (i ∷ is) (a_delay v h, s) n r =
    let on = rises_on i is r in
    let e = side_alone Tx is s n on.0 on.1 in
    record {
      items = record { sqi = None; climax = Some v; side = e.0 };
      sqi_fits_lem = refl;
      climax_fits_lem = le-leb v 127 h;
      are = ap (λ (js : List Item). i ∷ js) e.1;
    }
rising_listed d (i ∷ is) (main _, s) n r = from_side (side_alone d (i ∷ is) (main d, s) n (own_below_side d) r)
rising_listed d (i ∷ is) (standby _, s) n r = from_side (side_alone d (i ∷ is) (standby d, s) n (own_below_side d) r)
rising_listed d (i ∷ is) (stepped_over _ v h, s) n r = absurd (false≢true (sym n))

-- they are the items of the message that keeps them
pub rising_are_kept : (d : Direction) (is : List Item) → AllStand d is → has_type ddc_type is ≡ false → Rising is → rising_items (kept is) ≡ is
rising_are_kept d is s n r = grind (arith, rising_kept, rising_listed)

-- ---- from the tests

-- values that were read: bytes, and no more than a head can say
pub record Short (value : List ℕ) : Type 0 where
  pub bytes : Bytes value
  pub fits : length value < 16

-- a value of length 1 is its byte
one_value : (value : List ℕ) → eqb (length value) 1 ≡ true → value ≡ byte_at value 0 ∷ []
one_value [] e = absurd (false≢true e)
one_value (b ∷ []) e = refl
one_value (b ∷ c ∷ rest) e = absurd (omega (arith, eqb-true (length (b ∷ c ∷ rest)) 1 e))

module _ (i : Item) (read : Short i.value) where
  abbrev v : ℕ
  v = value_byte i

  small : v < 256
  small = read.bytes 0

  abbrev is_one : ℕ → Bool
  is_one t = eqb i.type t && one_byte i

  -- an item known by its type and its byte
  stood : (d : Direction) (t n : ℕ) → is_one t ≡ true → v ≡ n % 256 → Stands d (record { type = t; value = bytes8 n }) → Stands d i
  stood d t n e h s = grind (arith, one_value)

  quality_stands : (d : Direction) → is_one 1 && in_rx d && sqi_allowed (sqi_quality v) (sqi_method v) ≡ true → Stands d i
  quality_stands Tx e = absurd (false≢true (and_right (is_one 1) false (and_left (is_one 1 && false) _ e)))
  quality_stands Rx e =
      stood Rx 1 (placed 8 0 5 (sqi_quality v) + placed 8 5 3 (sqi_method v)) (and_left _ true (and_left (is_one 1 && true) _ e)) (omega (arith, small))
      (a_quality (sqi_quality v) (sqi_method v) (sqi_may_stand (sqi_quality v) (sqi_method v) (and_right (is_one 1 && true) _ e)))

  delay_stands : (d : Direction) → is_one 2 && in_tx d && climax_allowed v ≡ true → Stands d i
  delay_stands Rx e = absurd (false≢true (and_right (is_one 2) false (and_left (is_one 2 && false) _ e)))
  delay_stands Tx e =
      let high = eqb-true (v / 128 % 2) 1 (and_right (is_one 2 && true) _ e) in
      stood Tx 2 (placed 8 0 1 1 + placed 8 1 7 (climax_delay v)) (and_left _ true (and_left (is_one 2 && true) _ e)) (omega (arith, small))
      (a_delay (climax_delay v) (omega arith))

  side_stands : (d : Direction) → is_one 5 && side_allowed v ≡ true → Stands d i
  side_stands d e = by_half (ltb v 128) refl
    where
      rest : v / 1 % 128 ≡ 0
      rest = eqb-true (v / 1 % 128) 0 (and_right (is_one 5) _ e)

      by_half : (t : Bool) → ltb v 128 ≡ t → Stands d i
      by_half true h = stood d 5 0 (and_left _ _ e) (omega (arith, ltb-true v 128 h, rest)) (main d)
      by_half false h = stood d 5 128 (and_left _ _ e) (omega (arith, ltb-false v 128 h, rest, small)) (standby d)

  ddc_stands : (d : Direction) → eqb i.type 4 ≡ true → Stands d i
  ddc_stands d e =
      subst (λ (t : ℕ). Stands d (record { type = t; value = i.value })) (sym (eqb-true i.type 4 e)) (stepped_over d i.value (omega (arith, read.fits)))

  allowed_stands : (d : Direction) → item_allowed d i ≡ true → Stands d i
  unfolding item_allowed
  allowed_stands d e = grind (arith, ddc_stands, delay_stands, quality_stands, side_stands)

abbrev AllShort : List Item → Type 0
AllShort [] = Unit {0}
AllShort (i ∷ is) = Short i.value × AllShort is

all_stand : (d : Direction) (is : List Item) → AllShort is → all_allowed d is ≡ true → AllStand d is
unfolding all_allowed
all_stand d [] h e = tt
all_stand d (i ∷ is) h e =
    (allowed_stands i h.0 d (and_left (item_allowed d i) _ e), all_stand d is h.1 (and_right (item_allowed d i) _ e))

short_behind : (i : Item) (f : Found) → Short i.value → AllShort (listed f) → AllShort (listed (behind i f))
short_behind i f h s = grind arith

short_either : (t : Bool) (f g : Found) → AllShort (listed f) → AllShort (listed g) → AllShort (listed (cond t f g))
short_either t f g h k = grind arith

-- at most 15 bytes, where they are bytes
taken_short : (head : ℕ) (bs : List ℕ) → Bytes bs → Short (take (item_length head) bs)
taken_short head bs h = record { bytes = take_bytes (item_length head) bs h; fits = simp length-take (omega arith) }

short_values : (n : ℕ) (bs : List ℕ) → Bytes bs → AllShort (listed (items_behind n bs))
unfolding items_behind
short_values zero [] h = tt
short_values (suc n) [] h = tt
short_values (suc n) (b ∷ bs) h = short_values n bs (tail_bytes b bs h)
short_values zero (b ∷ bs) h =
    short_either (eqb b 0) _ _ (short_either (all_zero bs) (found []) broken tt tt)
    (short_behind _ (items_behind (item_length b) bs) (taken_short b bs (tail_bytes b bs h)) (short_values (item_length b) bs (tail_bytes b bs h)))

pub here_stand : (d : Direction) (x : ℕ) (bs : List ℕ) → Bytes bs → items_allowed d x bs ≡ true → AllStand d (items_of x bs)
unfolding items_allowed items_of run_allowed
here_stand d x bs small e = grind (arith, all_stand, short_values)

pub here_once : (d : Direction) (x : ℕ) (bs : List ℕ) → items_allowed d x bs ≡ true → no_type_twice (items_of x bs) ≡ true
unfolding items_allowed items_of run_allowed no_type_twice
here_once d x bs e = grind arith
