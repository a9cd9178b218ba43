-- Second witness of `packet`, `items`, `reader` (read_tx, read_rx): 01, What is turned away, 1 to 12. Which number refuses, for every packet,
-- over its bytes alone, in 01's order. (What a packet says that is not turned away: LaidOut.)
use Rattle.std.specs.Prelude.{ℕ, ◌+◌, ◌*◌, ◌-◌, ◌/◌, ◌%◌, ◌≤◌, ◌<◌, ◌≡◌, List, [], ◌∷◌, ◌++◌, length, get_or, take, drop, replicate}
use Rattle.base.specs.Bytes.{Bytes}
use Rattle.packet.specs.InWords.{TurnedAway}
use Rattle.packet.specs.Items.{Item}
use Rattle.reader.specs.Reading.{read_tx, read_rx}
use Rattle.packet.specs.declared.message.Direction.{Direction}
use Rattle.packet.specs.declared.message.Direction.TheVariants.{Tx, Rx}
use Rattle.demands.specs.ExactAll.{readers_order}
use Rattle.demands.specs.LaidOut.{Carries, AllStand, EachOnce}

-- the byte at a place, 0 past the end, and the number of two bytes: "numbers are big-endian"
abbrev pub byte : List ℕ → (at : ℕ) → ℕ
byte p at = get_or p at 0

abbrev pub number : List ℕ → (at : ℕ) → ℕ
number p at = 256 * byte p at + byte p (at + 1)

-- "CSRC count CC", the low half of byte 0; where the head of the extension ends, "word count W", and where the words end
abbrev pub head_end : List ℕ → ℕ
head_end p = 16 + 4 * (byte p 0 % 16)

abbrev pub words : List ℕ → ℕ
words p = number p (head_end p - 2)

abbrev pub words_end : List ℕ → ℕ
words_end p = head_end p + 4 * words p

-- The bytes of items one behind the other: "one byte (type in the high half, length .. in the low half)" and the value.
unfoldable pub in_bytes : List Item → List ℕ
in_bytes [] = []
in_bytes (i ∷ is) = (16 * i.type + length i.value) ∷ i.value ++ in_bytes is

-- "X = 0: all remaining bytes are zero. X = 1: at least one item; a zero byte where an item would begin ends them, and all bytes after it
-- are zero."
pub data UnderX : (x : ℕ) → (rest : List ℕ) → List Item → Type 0 where
  zeros_alone : (zeros : ℕ) → UnderX 0 (replicate zeros 0) []
  items_first : (i : Item) (is : List Item) (zeros : ℕ) → UnderX 1 (in_bytes (i ∷ is) ++ replicate zeros 0) (i ∷ is)

-- The bytes after the first two of the words hold items of the table, "No type comes twice".
pub record ItemsFit (d : Direction) (p : List ℕ) : Type 0 where
  pub items : List Item
  pub stand : UnderX (byte p (head_end p + 1) % 2) (take (words_end p - (head_end p + 2)) (drop (head_end p + 2) p)) items
  pub of_table : AllStand d items
  pub each_once : EachOnce items

pub data Unreadable (d : Direction) (ext : ℕ) (p : List ℕ) : (number cause : ℕ) → Type 0 where
  -- "1 | under 12 bytes"
  under_12 : length p < 12 → Unreadable d ext p 1 0
  -- "2 | version not 2": the two high bits of byte 0
  version : (byte p 0 / 64 ≡ 2 → ⊥) → Unreadable d ext p 2 0
  -- "3 | padding or marker set"
  padding : byte p 0 / 32 % 2 ≡ 1 → Unreadable d ext p 3 0
  marker : byte p 1 / 128 ≡ 1 → Unreadable d ext p 3 0
  -- "4 | extension bit clear"
  no_extension : byte p 0 / 16 % 2 ≡ 0 → Unreadable d ext p 4 0
  -- "5 | payload type": "8 (audio) or 123 (R2S)"
  payload_type : (byte p 1 % 128 ≡ 8 → ⊥) → (byte p 1 % 128 ≡ 123 → ⊥) → Unreadable d ext p 5 0
  -- "6 | cut before the end of the extension's 4-byte head"
  cut_in_head : length p < head_end p → Unreadable d ext p 6 0
  -- "7 | extension type"
  other_extension : (number p (head_end p - 4) ≡ ext → ⊥) → Unreadable d ext p 7 0
  -- "8 | W is 0 or above 15"
  no_word : words p ≡ 0 → Unreadable d ext p 8 0
  many_words : 15 < words p → Unreadable d ext p 8 0
  -- "9 | cut inside the words"
  cut_in_words : length p < words_end p → Unreadable d ext p 9 0
  -- "10 | first two bytes break a rule above (cause 2012)": "6 and 7 are reserved", "SQU is 0 in TX", "in TX three reserved bits, in RX SCT
  -- and two"
  reserved_type : 6 ≤ byte p (head_end p) / 32 → Unreadable d ext p 10 2012
  squ_in_tx : d ≡ Tx → byte p (head_end p) / 16 % 2 ≡ 1 → Unreadable d ext p 10 2012
  reserved_in_tx : d ≡ Tx → (byte p (head_end p + 1) / 2 % 8 ≡ 0 → ⊥) → Unreadable d ext p 10 2012
  reserved_in_rx : d ≡ Rx → (byte p (head_end p + 1) / 2 % 4 ≡ 0 → ⊥) → Unreadable d ext p 10 2012
  -- "11 | items, or the bytes after the first two under that X, break a rule above (cause 2012)"
  no_items : (ItemsFit d p → ⊥) → Unreadable d ext p 11 2012
  -- "12 | payload length"
  payload_length : (Carries (byte p 1 % 128) (length p - words_end p) → ⊥) → Unreadable d ext p 12 0

-- "Orders: readers 1 to 12."
pub record ReadersTurnAway : Type 0 where
  pub of_tx : (ext : ℕ) (p : List ℕ) → Bytes p → TurnedAway (Unreadable Tx ext p) readers_order (read_tx ext p)
  pub of_rx : (ext : ℕ) (p : List ℕ) → Bytes p → TurnedAway (Unreadable Rx ext p) readers_order (read_rx ext p)
