-- 01, The packet: "Items follow." What the bytes after the first two may hold, with the type 4 items of 02, request 1.
use Rattle.std.specs.Prelude.{ℕ, zero, suc, Bool, true, false, cond, not, ◌&&◌, ◌||◌, List, [], ◌∷◌, leb, eqb, length, take, Option, None, Some}
use Rattle.base.specs.Bytes.{bits, byte_at}
use Rattle.packet.specs.declared.message.Direction.{Direction}
use Rattle.packet.specs.declared.message.Direction.TheVariants.{Tx, Rx}
use Rattle.packet.specs.declared.message.Sqi.{Sqi}
use Rattle.packet.specs.declared.message.Side.{Side}
use Rattle.packet.specs.declared.message.Side.TheVariants.{Main, Standby}
use Rattle.packet.specs.declared.message.Items.{Items}

-- A type, and as many value bytes as the length beside it says.
pub record Item : Type 0 where
  pub type : ℕ
  pub value : List ℕ

-- The items found one behind the other, or bytes that are no run of items.
pub data Found : Type 0 where
  found : List Item → Found
  broken : Found

abbrev pub behind : Item → Found → Found
behind i (found is) = found (i ∷ is)
behind i broken = broken

unfoldable pub all_zero : List ℕ → Bool
all_zero [] = true
all_zero (b ∷ bs) = eqb b 0 && all_zero bs

-- "An item is one byte (type in the high half, length 1 in the low half) and one value byte." Of type 4, since 02:
-- "any length 0 to 15", which is what the low half can say.
abbrev pub item_type : ℕ → ℕ
item_type head = bits 8 0 4 head

abbrev pub item_length : ℕ → ℕ
item_length head = bits 8 4 4 head

-- The items, where so many bytes of a value come first.
unfoldable pub items_behind : (left : ℕ) → List ℕ → Found
-- 11, since 02: ".. an item of any type whose value runs past the words"
items_behind (suc n) [] = broken
items_behind (suc n) (b ∷ rest) = items_behind n rest
-- ".. a zero byte where an item would begin ends them, and all bytes after it are zero."
items_behind zero [] = found []
items_behind zero (head ∷ rest) =
    cond (eqb head 0) (cond (all_zero rest) (found []) broken)
    (behind (record { type = item_type head; value = take (item_length head) rest }) (items_behind (item_length head) rest))

abbrev pub items_in : List ℕ → Found
items_in bytes = items_behind 0 bytes

-- The types of the table.
abbrev pub sqi_type : ℕ
sqi_type = 1

abbrev pub climax_type : ℕ
climax_type = 2

abbrev pub ddc_type : ℕ
ddc_type = 4

abbrev pub side_type : ℕ
side_type = 5

-- Types 1, 2 and 5 have length 1: one value byte.
abbrev pub one_byte : Item → Bool
one_byte i = eqb (length i.value) 1

abbrev pub value_byte : Item → ℕ
value_byte i = byte_at i.value 0

-- "1 SQI | RX | quality in the high 5 bits; method in the low 3: 0 RSSI, 1 AGC, 2 C/N, 3 PSD.
-- With RSSI quality is 0 to 15, else 0 to 31"
abbrev pub sqi_quality : ℕ → ℕ
sqi_quality value = bits 8 0 5 value

abbrev pub sqi_method : ℕ → ℕ
sqi_method value = bits 8 5 3 value

abbrev pub rssi : ℕ
rssi = 0

abbrev pub sqi_allowed : (quality method : ℕ) → Bool
sqi_allowed quality method = leb method 3 && leb quality (cond (eqb method rssi) 15 31)

-- "2 CLIMAX | TX | high bit 1; low 7 bits the delay in ms divided by 2"
abbrev pub climax_delay : ℕ → ℕ
climax_delay value = bits 8 1 7 value

abbrev pub climax_allowed : ℕ → Bool
climax_allowed value = eqb (bits 8 0 1 value) 1

-- "5 main/standby | both | high bit 0 main, 1 standby; the rest 0"
abbrev pub side_allowed : ℕ → Bool
side_allowed value = eqb (bits 8 1 7 value) 0

abbrev pub side_of : ℕ → Side
side_of value = cond (eqb (bits 8 0 1 value) 1) Standby Main

abbrev pub in_tx : Direction → Bool
in_tx Tx = true
in_tx Rx = false

abbrev pub in_rx : Direction → Bool
in_rx d = not (in_tx d)

-- The table of items. "Every other type is refused", but type 4, since 02: "one type 4 item of any length 0 to 15 is stepped
-- over .. in TX and RX alike".
unfoldable pub item_allowed : Direction → Item → Bool
item_allowed d i =
    (eqb i.type sqi_type && one_byte i && in_rx d && sqi_allowed (sqi_quality (value_byte i)) (sqi_method (value_byte i)))
    || (eqb i.type climax_type && one_byte i && in_tx d && climax_allowed (value_byte i))
    || (eqb i.type side_type && one_byte i && side_allowed (value_byte i))
    || eqb i.type ddc_type

unfoldable pub all_allowed : Direction → List Item → Bool
all_allowed d [] = true
all_allowed d (i ∷ is) = item_allowed d i && all_allowed d is

-- "No type comes twice; any order is read." 02: "11 no longer covers type 4, except a second one".
unfoldable pub has_type : ℕ → List Item → Bool
has_type t [] = false
has_type t (i ∷ is) = eqb i.type t || has_type t is

unfoldable pub no_type_twice : List Item → Bool
no_type_twice [] = true
no_type_twice (i ∷ is) = not (has_type i.type is) && no_type_twice is

abbrev pub some_item : List Item → Bool
some_item [] = false
some_item (i ∷ is) = true

unfoldable pub run_allowed : Direction → Found → Bool
run_allowed d broken = false
run_allowed d (found is) = some_item is && all_allowed d is && no_type_twice is

-- "X = 0: all remaining bytes are zero. X = 1: at least one item"; 02: "X = 1 with only such an item is fine", of type 4.
unfoldable pub items_allowed : Direction → (x : ℕ) → List ℕ → Bool
items_allowed d x bytes = cond (eqb x 0) (all_zero bytes) (run_allowed d (items_in bytes))

abbrev pub listed : Found → List Item
listed (found is) = is
listed broken = []

-- The items that the bytes hold under X, in the order in which they stand.
unfoldable pub items_of : (x : ℕ) → List ℕ → List Item
items_of x bytes = cond (eqb x 0) [] (listed (items_in bytes))

-- What a message keeps of them. Of type 4, 02: "its value isn't kept".
unfoldable pub sqi_among : List Item → Option Sqi
sqi_among [] = None
sqi_among (i ∷ is) =
    cond (eqb i.type sqi_type) (Some (record { quality = sqi_quality (value_byte i); method = sqi_method (value_byte i) })) (sqi_among is)

unfoldable pub climax_among : List Item → Option ℕ
climax_among [] = None
climax_among (i ∷ is) = cond (eqb i.type climax_type) (Some (climax_delay (value_byte i))) (climax_among is)

unfoldable pub side_among : List Item → Option Side
side_among [] = None
side_among (i ∷ is) = cond (eqb i.type side_type) (Some (side_of (value_byte i))) (side_among is)

unfoldable pub kept : List Item → Items
kept is = record { sqi = sqi_among is; climax = climax_among is; side = side_among is }
