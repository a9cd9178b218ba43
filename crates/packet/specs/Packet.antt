-- 01, The packet: where each part of it stands.
use Rattle.std.specs.Prelude.{ℕ, ◌+◌, ◌*◌, Bool, true, cond, ◌&&◌, ◌||◌, List, drop, ltb, leb, eqb}
use Rattle.base.specs.Bytes.{byte_at, number16, number32, bits, part_of}
use Rattle.packet.specs.declared.message.Direction.{Direction}
use Rattle.packet.specs.declared.message.Direction.TheVariants.{Tx, Rx}

-- "Byte 0: version 2, padding 0, extension 1, CSRC count CC (0 to 15)."
abbrev pub version : List ℕ → ℕ
version p = bits 8 0 2 (byte_at p 0)

abbrev pub padding : List ℕ → ℕ
padding p = bits 8 2 1 (byte_at p 0)

abbrev pub extension : List ℕ → ℕ
extension p = bits 8 3 1 (byte_at p 0)

abbrev pub csrc_count : List ℕ → ℕ
csrc_count p = bits 8 4 4 (byte_at p 0)

-- "Byte 1: marker 0, payload type 8 (audio) or 123 (R2S)."
abbrev pub marker : List ℕ → ℕ
marker p = bits 8 0 1 (byte_at p 1)

abbrev pub payload_type : List ℕ → ℕ
payload_type p = bits 8 1 7 (byte_at p 1)

abbrev pub audio_type : ℕ
audio_type = 8

abbrev pub r2s_type : ℕ
r2s_type = 123

-- "Then sequence (2 bytes), timestamp (4), SSRC (4), CC words of CSRC, which are skipped."
abbrev pub head_length : ℕ
head_length = 12

abbrev pub sequence : List ℕ → ℕ
sequence p = number16 p 2

abbrev pub timestamp : List ℕ → ℕ
timestamp p = number32 p 4

abbrev pub ssrc : List ℕ → ℕ
ssrc p = number32 p 8

-- "Extension type (2 bytes ..), word count W (2 bytes), 1 to 15, then W words of four bytes."
abbrev pub extension_at : List ℕ → ℕ
extension_at p = head_length + 4 * csrc_count p

abbrev pub extension_type : List ℕ → ℕ
extension_type p = number16 p (extension_at p)

abbrev pub word_count : List ℕ → ℕ
word_count p = number16 p (extension_at p + 2)

abbrev pub words_at : List ℕ → ℕ
words_at p = extension_at p + 4

-- "The rest is payload: for 123 none; for 8 exactly 80, 160 or 240 bytes (10, 20, 30 ms)."
abbrev pub payload_at : List ℕ → ℕ
payload_at p = words_at p + 4 * word_count p

unfoldable pub payload : List ℕ → List ℕ
payload p = drop (payload_at p) p

abbrev pub audio_length : ℕ → Bool
audio_length n = eqb n 80 || eqb n 160 || eqb n 240

unfoldable pub payload_allowed : (type bytes : ℕ) → Bool
payload_allowed type bytes = cond (eqb type audio_type) (audio_length bytes) (eqb bytes 0)

-- "First two bytes of the words: PTT type 3 bits, SQU 1, ptt-id 6, PM 1, PTTS 1, then in TX three reserved bits,
-- in RX SCT and two reserved bits, then X."
abbrev pub field : List ℕ → ℕ
field p = number16 p (words_at p)

abbrev pub ptt_type : ℕ → ℕ
ptt_type f = bits 16 0 3 f

abbrev pub squ : ℕ → ℕ
squ f = bits 16 3 1 f

abbrev pub ptt_id : ℕ → ℕ
ptt_id f = bits 16 4 6 f

abbrev pub pm : ℕ → ℕ
pm f = bits 16 10 1 f

abbrev pub ptts : ℕ → ℕ
ptts f = bits 16 11 1 f

abbrev pub sct : ℕ → ℕ
sct f = bits 16 12 1 f

abbrev pub reserved : Direction → ℕ → ℕ
reserved Tx f = bits 16 12 3 f
reserved Rx f = bits 16 13 2 f

abbrev pub x : ℕ → ℕ
x f = bits 16 15 1 f

-- "PTT types: 0 off, 1 Normal, 2 Coupling, 3 Priority, 4 Emergency, 5 Test; 6 and 7 are reserved and refused."
abbrev pub off : ℕ
off = 0

abbrev pub normal : ℕ
normal = 1

abbrev pub coupling : ℕ
coupling = 2

abbrev pub priority : ℕ
priority = 3

abbrev pub emergency : ℕ
emergency = 4

abbrev pub test : ℕ
test = 5

abbrev pub ptt_allowed : (ptt : ℕ) → Bool
ptt_allowed ptt = leb ptt test

-- PTT on: a type that is not off. (6 and 7 are none.)
abbrev pub ptt_on : (ptt : ℕ) → Bool
ptt_on ptt = ltb off ptt && ptt_allowed ptt

-- "Reserved bits are 0. SQU is 0 in TX."
abbrev pub squ_allowed : Direction → ℕ → Bool
squ_allowed Tx f = eqb (squ f) 0
squ_allowed Rx f = true

unfoldable pub field_allowed : Direction → ℕ → Bool
field_allowed d f = ptt_allowed (ptt_type f) && squ_allowed d f && eqb (reserved d f) 0

-- the bytes of the words after the first two
unfoldable pub after_field : List ℕ → List ℕ
after_field p = part_of (words_at p + 2) (payload_at p) p
