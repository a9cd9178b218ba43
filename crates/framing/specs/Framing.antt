-- 003, table 5, after RFC 4571 (our translation): in bytes 0 and 1 the length, an unsigned integer in network byte order, as many as the RTP
-- or RTCP packet has octets, and then the packet.
use Rattle.std.specs.Prelude.{ℕ, ◌<◌, ◌≡◌, List, ◌++◌, length, take, drop}
use Rattle.base.specs.Bytes.{number16, bytes16}

unfoldable pub framed : List ℕ → List ℕ
framed p = bytes16 (length p) ++ p

-- What is read of a frame at the front of a stream: its length, its packet, and what comes behind.
abbrev pub length_read : List ℕ → ℕ
length_read stream = number16 stream 0

abbrev pub packet_read : List ℕ → List ℕ
packet_read stream = take (length_read stream) (drop 2 stream)

abbrev pub rest_read : List ℕ → List ℕ
rest_read stream = drop (length_read stream) (drop 2 stream)

-- A frame reads back, whatever comes behind it, where its length fits two bytes.
pub record ReadsBack (p rest : List ℕ) : Type 0 where
  pub its_length : length_read (framed p ++ rest) ≡ length p
  pub its_packet : packet_read (framed p ++ rest) ≡ p
  pub its_rest : rest_read (framed p ++ rest) ≡ rest

abbrev pub FramesReadBack : Type 0
FramesReadBack = (p rest : List ℕ) → length p < 65536 → ReadsBack p rest
