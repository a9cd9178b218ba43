-- Second witness of `packet` (payload, from_tx, from_rx), `items`, `reader` (items_here, read, read_tx, read_rx): 01, The packet: a packet is accepted exactly
-- if it is laid out of the parts that 01 allows. This is Inversion with its converse: CSRC words, a payload type with a payload that fits
-- it, the message, allowed items in any order, and any word count from the fewest to 15.
use Rattle.std.specs.Prelude.{ℕ, ◌+◌, ◌*◌, ◌^◌, ◌≤◌, ◌<◌, ◌≡◌, false, List, [], ◌∷◌, ◌↔◌, length, None, Some}
use Rattle.base.specs.Bytes.{Bytes, bytes8, placed}
use Rattle.packet.specs.Packet.{payload}
use Rattle.packet.specs.Items.{Item}
use Rattle.packet.specs.Refusals.{accepted}
use Rattle.reader.specs.Reading.{items_here, read, read_tx, read_rx}
use Rattle.writer.specs.Writing.{fewest_words}
use Rattle.packet.specs.declared.message.Direction.{Direction}
use Rattle.packet.specs.declared.message.Direction.TheVariants as direction
use Rattle.packet.specs.declared.message.Items.{Items}
use Rattle.packet.specs.declared.message.Message.{Message}
use Rattle.packet.specs.declared.message.Tx.{Tx}
use Rattle.packet.specs.declared.message.Rx.{Rx}
use Rattle.packet.specs.Messages.{from_tx, from_rx}
use Rattle.packet.specs.declared.message.Side.TheVariants.{Main, Standby}
use Rattle.demands.specs.Inversion.{laid}
use Rattle.demands.specs.RoundTrip.{Narrow}

-- "CSRC count CC (0 to 15)", "CC words of CSRC"
pub record CsrcWords (csrc : List ℕ) : Type 0 where
  pub count : ℕ
  pub count_most : count ≤ 15
  pub long : length csrc ≡ 4 * count

-- "payload type 8 (audio) or 123 (R2S)"; "The rest is payload: for 123 none; for 8 exactly 80, 160 or 240 bytes (10, 20, 30 ms)."
pub data Carries : (kind bytes : ℕ) → Type 0 where
  r2s : Carries 123 0
  ten_ms : Carries 8 80
  twenty_ms : Carries 8 160
  thirty_ms : Carries 8 240

-- "SQU is 0 in TX"; "in TX three reserved bits, in RX SCT and two reserved bits". "Reserved bits are 0."
abbrev pub SaidInField : Direction → Message → Type 0
SaidInField direction.Tx m = (m.squ ≡ false) × (m.sct ≡ false)
SaidInField direction.Rx m = Unit {0}

-- "method in the low 3: 0 RSSI, 1 AGC, 2 C/N, 3 PSD. With RSSI quality is 0 to 15, else 0 to 31"
pub record SqiValue (quality method : ℕ) : Type 0 where
  pub known : method ≤ 3
  pub quality_most : quality ≤ 31
  pub with_rssi : method ≡ 0 → quality ≤ 15

-- The table of items, and 02: "one type 4 item of any length 0 to 15 .. in TX and RX alike".
pub data Stands : Direction → Item → Type 0 where
  a_quality : (quality method : ℕ) → SqiValue quality method
      → Stands direction.Rx (record { type = 1; value = bytes8 (placed 8 0 5 quality + placed 8 5 3 method) })
  a_delay : (delay : ℕ) → delay ≤ 127 → Stands direction.Tx (record { type = 2; value = bytes8 (placed 8 0 1 1 + placed 8 1 7 delay) })
  main : (d : Direction) → Stands d (record { type = 5; value = bytes8 (placed 8 0 1 0) })
  standby : (d : Direction) → Stands d (record { type = 5; value = bytes8 (placed 8 0 1 1) })
  stepped_over : (d : Direction) (value : List ℕ) → length value ≤ 15 → Stands d (record { type = 4; value = value })

abbrev pub AllStand : Direction → List Item → Type 0
AllStand d [] = Unit {0}
AllStand d (i ∷ is) = Stands d i × AllStand d is

-- "No type comes twice; any order is read."
abbrev pub NoneOf : (type : ℕ) → List Item → Type 0
NoneOf t [] = Unit {0}
NoneOf t (i ∷ is) = (i.type ≡ t → ⊥) × NoneOf t is

abbrev pub EachOnce : List Item → Type 0
EachOnce [] = Unit {0}
EachOnce (i ∷ is) = NoneOf i.type is × EachOnce is

-- What an item tells of the message that keeps it. Of type 4, 02: "its value isn't kept".
abbrev pub Told : (d : Direction) (i : Item) → Stands d i → Items → Type 0
Told direction.Rx _ (a_quality quality method h) k = k.sqi ≡ Some (record { quality = quality; method = method })
Told direction.Tx _ (a_delay delay h) k = k.climax ≡ Some delay
Told d _ (main _) k = k.side ≡ Some Main
Told d _ (standby _) k = k.side ≡ Some Standby
Told d _ (stepped_over _ value h) k = Unit {0}

abbrev pub AllTold : (d : Direction) (is : List Item) → AllStand d is → Items → Type 0
AllTold d [] stand k = Unit {0}
AllTold d (i ∷ is) stand k = Told d i stand.0 k × AllTold d is stand.1 k

-- A message keeps what its items tell, wherever they stand, and nothing else.
pub record Keeps (d : Direction) (is : List Item) (stand : AllStand d is) (k : Items) : Type 0 where
  pub tells_all : AllTold d is stand k
  pub no_sqi : NoneOf 1 is → k.sqi ≡ None
  pub no_climax : NoneOf 2 is → k.climax ≡ None
  pub no_side : NoneOf 5 is → k.side ≡ None

-- The parts that may be laid out as a packet of a direction that says the message.
pub record MayStand (d : Direction) (csrc : List ℕ) (kind ext words : ℕ) (m : Message) (is : List Item) (sound : List ℕ) : Type 0 where
  pub csrc_words : CsrcWords csrc
  pub carries : Carries kind (length sound)
  -- "sequence (2 bytes), timestamp (4), SSRC (4)"; "Extension type (2 bytes, ..)"
  pub narrow : Narrow ext m
  -- "PTT types: 0 off .. 5 Test; 6 and 7 are reserved and refused"; "ptt-id 6" bits
  pub ptt : m.ptt ≤ 5
  pub id : m.id < 2 ^ 6
  pub in_field : SaidInField d m
  pub items_stand : AllStand d is
  pub each_once : EachOnce is
  pub keeps : Keeps d is items_stand m.items
  -- "word count W (2 bytes), 1 to 15": any, from the fewest that hold the items
  pub fewest : fewest_words is ≤ words
  pub words_most : words ≤ 15

-- A packet that is laid out of such parts.
pub record LaidFrom (d : Direction) (ext : ℕ) (p : List ℕ) (m : Message) : Type 0 where
  pub csrc : List ℕ
  pub kind : ℕ
  pub words : ℕ
  pub items : List Item
  pub sound : List ℕ
  pub may_stand : MayStand d csrc kind ext words m items sound
  pub is_laid : p ≡ laid csrc kind ext words m items sound

pub record LaidOut : Type 0 where
  -- what is laid out of them is accepted, with that message, those items and that payload
  pub accepts : (d : Direction) (csrc : List ℕ) (kind ext words : ℕ) (m : Message) (is : List Item) (sound : List ℕ) → MayStand d csrc kind ext words m is sound
      → (read d ext (laid csrc kind ext words m is sound) ≡ accepted m)
      × (items_here (laid csrc kind ext words m is sound) ≡ is) × (payload (laid csrc kind ext words m is sound) ≡ sound)
  -- and nothing else is
  pub exactly : (d : Direction) (ext : ℕ) (p : List ℕ) (m : Message) → Bytes p → (read d ext p ≡ accepted m) ↔ LaidFrom d ext p m
  -- the same of the public readers
  pub exactly_tx : (ext : ℕ) (p : List ℕ) (m : Tx) → Bytes p → (read_tx ext p ≡ accepted m) ↔ LaidFrom direction.Tx ext p (from_tx m)
  pub exactly_rx : (ext : ℕ) (p : List ℕ) (m : Rx) → Bytes p → (read_rx ext p ≡ accepted m) ↔ LaidFrom direction.Rx ext p (from_rx m)
