-- What an accepted packet's bytes are: the message, the CSRC words, the payload type, the number of words, the items in their
-- order with their values, and the payload say every byte of it.
use Rattle.std.specs.Prelude.{ℕ, ◌+◌, ◌*◌, ◌-◌, ◌/◌, ◌≤◌, ◌≡◌, List, ◌++◌, length, replicate}
use Rattle.base.specs.Bytes.{Bytes, bytes8, bytes16, bytes32, placed, part_of}
use Rattle.packet.specs.Packet.{head_length, extension_at, word_count, payload_type, payload}
use Rattle.packet.specs.Items.{Item}
use Rattle.packet.specs.Refusals.{accepted}
use Rattle.reader.specs.Reading.{items_here, read}
use Rattle.writer.specs.Writing.{field_of, item_bytes}
use Rattle.packet.specs.declared.message.Direction.{Direction}
use Rattle.packet.specs.declared.message.Message.{Message}

-- The packet of 01, written out from its parts.
unfoldable pub laid : (csrc : List ℕ) (kind ext words : ℕ) → Message → List Item → (payload : List ℕ) → List ℕ
laid csrc kind ext words m is sound =
    bytes8 (placed 8 0 2 2 + placed 8 3 1 1 + placed 8 4 4 (length csrc / 4)) ++ bytes8 kind
    ++ bytes16 m.sequence ++ bytes32 m.timestamp ++ bytes32 m.ssrc ++ csrc
    ++ bytes16 ext ++ bytes16 words
    ++ bytes16 (field_of m is) ++ item_bytes is ++ replicate (4 * words - (2 + length (item_bytes is))) 0
    ++ sound

-- Words that have room for the items, and no more than 01 allows.
abbrev pub RoomFor : (words : ℕ) → List Item → Type 0
RoomFor words is = (2 + length (item_bytes is) ≤ 4 * words) × (words ≤ 15)

unfoldable pub csrc_words : List ℕ → List ℕ
csrc_words p = part_of head_length (extension_at p) p

abbrev pub Inversion : Type 0
Inversion = (d : Direction) (ext : ℕ) (p : List ℕ) (m : Message) → Bytes p → read d ext p ≡ accepted m
    → p ≡ laid (csrc_words p) (payload_type p) ext (word_count p) m (items_here p) (payload p)
