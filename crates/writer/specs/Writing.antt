-- 01: "Plain form: CC 0, items by rising type, the fewest words that hold them. Writers write only this."
use Rattle.std.specs.Prelude.{ℕ, ◌+◌, ◌*◌, ◌-◌, ◌/◌, Bool, true, cond, not, ◌&&◌, ◌||◌, List, [], ◌∷◌, ◌++◌, length, drop, replicate, ltb, leb, eqb, Option, None, Some}
use Rattle.base.specs.Bytes.{bytes8, bytes16, bytes32, placed, bit}
use Rattle.packet.specs.Packet.{audio_type, r2s_type, audio_length, ptt_allowed}
use Rattle.packet.specs.Items.{Item, sqi_type, climax_type, side_type, some_item, sqi_allowed}
use Rattle.packet.specs.Refusals.{Case, ◌if◌, Answer, accepted, refused, judged}
use Rattle.packet.specs.declared.message.Sqi.{Sqi}
use Rattle.packet.specs.declared.message.Side.{Side}
use Rattle.packet.specs.declared.message.Side.TheVariants.{Main, Standby}
use Rattle.packet.specs.declared.message.Items.{Items}
use Rattle.packet.specs.declared.message.Message.{Message}

-- The items of a message, "by rising type".
abbrev pub sqi_listed : Option Sqi → List Item
sqi_listed None = []
sqi_listed (Some s) = record { type = sqi_type; value = bytes8 (placed 8 0 5 s.quality + placed 8 5 3 s.method) } ∷ []

abbrev pub climax_listed : Option ℕ → List Item
climax_listed None = []
climax_listed (Some delay) = record { type = climax_type; value = bytes8 (placed 8 0 1 1 + placed 8 1 7 delay) } ∷ []

abbrev pub side_listed : Option Side → List Item
side_listed None = []
side_listed (Some Main) = record { type = side_type; value = bytes8 (placed 8 0 1 0) } ∷ []
side_listed (Some Standby) = record { type = side_type; value = bytes8 (placed 8 0 1 1) } ∷ []

unfoldable pub rising_items : Items → List Item
rising_items k = sqi_listed k.sqi ++ climax_listed k.climax ++ side_listed k.side

-- "An item is one byte (type in the high half, length .. in the low half)" and its value.
unfoldable pub item_bytes : List Item → List ℕ
item_bytes [] = []
item_bytes (i ∷ is) = bytes8 (placed 8 0 4 i.type + placed 8 4 4 (length i.value)) ++ i.value ++ item_bytes is

-- ".. the fewest words that hold them": two bytes and the items, in words of four.
abbrev pub fewest_words : List Item → ℕ
fewest_words is = (2 + length (item_bytes is) + 3) / 4

-- The first two bytes of the words, bit by bit.
abbrev pub field_of : Message → List Item → ℕ
field_of m is =
    placed 16 0 3 m.ptt + placed 16 3 1 (bit m.squ) + placed 16 4 6 m.id + placed 16 10 1 (bit m.pm) + placed 16 11 1 (bit m.ptts)
    + placed 16 12 1 (bit m.sct) + placed 16 15 1 (bit (some_item is))

-- The words: the field, the items, zeros.
unfoldable pub words_of : Message → List Item → List ℕ
words_of m is = bytes16 (field_of m is) ++ item_bytes is ++ replicate (4 * fewest_words is - (2 + length (item_bytes is))) 0

-- "The report is type 8 if audio is given, else 123": so with every packet that is written.
abbrev pub kind_for : (bytes : ℕ) → ℕ
kind_for bytes = cond (eqb bytes 0) r2s_type audio_type

-- "Byte 0: version 2, padding 0, extension 1, CSRC count CC"; "Byte 1: marker 0, payload type"
unfoldable pub head_of : Message → (kind : ℕ) → List ℕ
head_of m kind =
    bytes8 (placed 8 0 2 2 + placed 8 3 1 1) ++ bytes8 kind ++ bytes16 m.sequence ++ bytes32 m.timestamp ++ bytes32 m.ssrc

unfoldable pub encode : (ext : ℕ) → Message → (audio : List ℕ) → List ℕ
encode ext m audio =
    head_of m (kind_for (length audio)) ++ bytes16 ext ++ bytes16 (fewest_words (rising_items m.items)) ++ words_of m (rising_items m.items) ++ audio

-- 27: "writer given a value its reader would refuse". So also one that does not fit its bits, which no reader could see.
abbrev pub sqi_writable : Option Sqi → Bool
sqi_writable None = true
sqi_writable (Some s) = sqi_allowed s.quality s.method

abbrev pub climax_writable : Option ℕ → Bool
climax_writable None = true
climax_writable (Some delay) = leb delay 127

abbrev pub audio_writable : (bytes : ℕ) → Bool
audio_writable bytes = eqb bytes 0 || audio_length bytes

unfoldable pub writable : Message → (bytes : ℕ) → Bool
writable m bytes =
    ptt_allowed m.ptt && leb m.id 63 && sqi_writable m.items.sqi && climax_writable m.items.climax && audio_writable bytes

-- "Writers 27, 26."
unfoldable pub writer_refusals : (ext : ℕ) → Message → (audio : List ℕ) → (room : ℕ) → List Case
writer_refusals ext m audio room =
    27 if not (writable m (length audio))
    ∷ 26 if ltb room (length (encode ext m audio))
    ∷ []

unfoldable pub write : (ext : ℕ) → Message → (audio : List ℕ) → (room : ℕ) → Answer ℕ
write ext m audio room = judged (writer_refusals ext m audio room) (length (encode ext m audio))

-- The buffer afterwards: the packet in front and every byte behind it as it was; on a refusal every byte as it was.
abbrev pub filled : Answer ℕ → (packet buffer : List ℕ) → List ℕ
filled (accepted n) packet buffer = packet ++ drop n buffer
filled (refused n c) packet buffer = buffer

unfoldable pub buffered : (ext : ℕ) → Message → (audio buffer : List ℕ) → List ℕ
buffered ext m audio buffer = filled (write ext m audio (length buffer)) (encode ext m audio) buffer

-- Below 27, with 26 alone: what is written of a message whatever its values are; one that is too large runs over into the bits in front
-- of its own. (02, request 5: a report tells the air that the record keeps, and one made by hand may hold what 27 would turn away.)
unfoldable pub put_refusals : (ext : ℕ) → Message → (audio : List ℕ) → (room : ℕ) → List Case
put_refusals ext m audio room = 26 if ltb room (length (encode ext m audio)) ∷ []

unfoldable pub put : (ext : ℕ) → Message → (audio : List ℕ) → (room : ℕ) → Answer ℕ
put ext m audio room = judged (put_refusals ext m audio room) (length (encode ext m audio))

unfoldable pub after_put : (ext : ℕ) → Message → (audio buffer : List ℕ) → List ℕ
after_put ext m audio buffer = filled (put ext m audio (length buffer)) (encode ext m audio) buffer
