-- The console's grammar: under each line that `help` prints, the call that such a line says. Words are counted from 0, the call's
-- name. A word that is not there, or a last word with more behind it, is empty, and an empty word says nothing.
-- `seat ← byte_in (word_of s 1)`: the seat is the number that word 1 says; where it says none, the line is no call.
use Rattle.std.specs.Prelude.{ℕ, ◌≡◌, refl, true, false, cond, List, [], ◌∷◌, eqb, length, Option, Some, None, unwrap_or}
use Rattle.std.specs.Option.{option_map_or}
use Rattle.base.specs.Text.{text}
use Rattle.words.specs.Input.{word_of, last_of, choice_of, word_at, first_from}
use Rattle.words.specs.Numbers.{number_in, number_from, value_from, all_digits, digit_of}
use Rattle.words.specs.Pairs.{bytes_said, bytes_laid, says_bytes, is_dash, is_hex, bytes_of, pairs}
use Rattle.packet.specs.declared.message.Direction.{Direction}
use Rattle.packet.specs.declared.message.Direction.TheVariants as direction
use Rattle.grammar.specs.Said.{◌>>=◌, byte_in, half_in, whole_in, hex_in, level_in, count_in, room_in, one_of, flag_in, kind_in, call_type_in, direction_in, side_in, climax_in, sqi_in, seats_in}
use Rattle.grammar.specs.declared.call.Call.{Call}
use Rattle.grammar.specs.declared.call.Call.TheVariants as call
use Rattle.grammar.specs.declared.call.Name.{Name}
use Rattle.grammar.specs.declared.call.Name.TheVariants as name

-- "setup SEATS EXT single|pair|shared lockout|summation interruption|summation"
unfoldable pub setup_in : List ℕ → Option Call
setup_in s = do
  lessons ← seats_in (word_of s 1)
  ext ← hex_in (word_of s 2)
  kind ← kind_in (word_of s 3)
  equal_summation ← one_of (word_of s 4) (text "lockout summation") (false ∷ true ∷ [])
  coupling_summation ← one_of (last_of s 5) (text "interruption summation") (false ∷ true ∷ [])
  Some (call.Setup (record { lessons = lessons; ext = ext; kind = kind; equal_summation = equal_summation; coupling_summation = coupling_summation }))

-- "open SEAT idle|rxonly|txrx|coupling PERIOD MULTIPLIER SSRC SEQUENCE"
unfoldable pub open_in : List ℕ → Option Call
open_in s = do
  seat ← byte_in (word_of s 1)
  type ← call_type_in (word_of s 2)
  period ← half_in (word_of s 3)
  multiplier ← byte_in (word_of s 4)
  ssrc ← whole_in (word_of s 5)
  sequence ← half_in (last_of s 6)
  Some (call.Open seat (record { call = type; period = period; multiplier = multiplier; ssrc = ssrc; sequence = sequence }))

-- "close SEAT"
unfoldable pub close_in : List ℕ → Option Call
close_in s = do
  seat ← byte_in (last_of s 1)
  Some (call.Close seat)

-- "tick MS TIMESTAMP ROOM"
unfoldable pub tick_in : List ℕ → Option Call
tick_in s = do
  ms ← half_in (word_of s 1)
  timestamp ← whole_in (word_of s 2)
  size ← room_in (last_of s 3)
  Some (call.Tick ms timestamp size)

-- "packet SEAT HEX": here and below, `room` is that of the buffer for the bytes that the line gives.
unfoldable pub packet_in : List ℕ → (room : ℕ) → Option Call
packet_in s room = do
  seat ← byte_in (word_of s 1)
  count ← count_in (last_of s 2) room
  Some (call.Packet seat count)

-- "report SEAT TIMESTAMP AUDIO ROOM"
unfoldable pub report_in : List ℕ → (room : ℕ) → Option Call
report_in s room = do
  seat ← byte_in (word_of s 1)
  timestamp ← whole_in (word_of s 2)
  audio ← count_in (word_of s 3) room
  size ← room_in (last_of s 4)
  Some (call.Report seat timestamp (record { audio = audio; room = size }))

-- "received COUNT LEVEL"
unfoldable pub received_in : List ℕ → Option Call
received_in s = do
  signals ← byte_in (word_of s 1)
  level ← level_in (last_of s 2)
  Some (call.Received signals level)

-- "transmitter healthy|unhealthy"
unfoldable pub transmitter_in : List ℕ → Option Call
transmitter_in s = do
  healthy ← one_of (last_of s 1) (text "unhealthy healthy") (false ∷ true ∷ [])
  Some (call.Transmitter healthy)

-- "side main|standby"
unfoldable pub side_call_in : List ℕ → Option Call
side_call_in s = do
  standby ← one_of (last_of s 1) (text "main standby") (false ∷ true ∷ [])
  Some (call.Side standby)

-- "read tx|rx HEX"
unfoldable pub read_in : List ℕ → (room : ℕ) → Option Call
read_in s room = do
  count ← count_in (last_of s 2) room
  one_of (word_of s 1) (text "tx rx") (call.ReadTx count ∷ call.ReadRx count ∷ [])

-- "write tx SEQ TS SSRC PTT ID PM PTTS CLD MSS AUDIO ROOM"
unfoldable pub write_tx_in : List ℕ → (room : ℕ) → Option Call
write_tx_in s room = do
  sequence ← half_in (word_of s 2)
  timestamp ← whole_in (word_of s 3)
  ssrc ← whole_in (word_of s 4)
  ptt ← byte_in (word_of s 5)
  id ← byte_in (word_of s 6)
  pm ← flag_in (word_of s 7)
  ptts ← flag_in (word_of s 8)
  climax ← climax_in (word_of s 9)
  side ← side_in (word_of s 10)
  audio ← count_in (word_of s 11) room
  size ← room_in (last_of s 12)
  Some (
      call.WriteTx
      (record { sequence = sequence; timestamp = timestamp; ssrc = ssrc; ptt = ptt; id = id; pm = pm; ptts = ptts; climax = climax; side = side })
      (record { audio = audio; room = size }))

-- "write rx SEQ TS SSRC PTT SQU ID PM PTTS SCT SQI MSS AUDIO ROOM"
unfoldable pub write_rx_in : List ℕ → (room : ℕ) → Option Call
write_rx_in s room = do
  sequence ← half_in (word_of s 2)
  timestamp ← whole_in (word_of s 3)
  ssrc ← whole_in (word_of s 4)
  ptt ← byte_in (word_of s 5)
  squ ← flag_in (word_of s 6)
  id ← byte_in (word_of s 7)
  pm ← flag_in (word_of s 8)
  ptts ← flag_in (word_of s 9)
  sct ← flag_in (word_of s 10)
  sqi ← sqi_in (word_of s 11)
  side ← side_in (word_of s 12)
  audio ← count_in (word_of s 13) room
  size ← room_in (last_of s 14)
  Some (
      call.WriteRx
      (record {
        sequence = sequence;
        timestamp = timestamp;
        ssrc = ssrc;
        ptt = ptt;
        squ = squ;
        id = id;
        pm = pm;
        ptts = ptts;
        sct = sct;
        sqi = sqi;
        side = side;
      })
      (record { audio = audio; room = size }))

-- "quality LEVEL"
unfoldable pub quality_call_in : List ℕ → Option Call
quality_call_in s = do
  level ← level_in (last_of s 1)
  Some (call.Quality level)

-- A call that is its name alone.
abbrev pub alone : List ℕ → Call → Option Call
alone s said = cond (eqb (length (last_of s 0)) 0) None (Some said)

-- "air"
unfoldable pub air_in : List ℕ → Option Call
air_in s = alone s call.Air

-- "totals SEAT"
unfoldable pub totals_in : List ℕ → Option Call
totals_in s = do
  seat ← byte_in (last_of s 1)
  Some (call.Totals seat)

-- "help"
unfoldable pub help_in : List ℕ → Option Call
help_in s = alone s call.Help

-- A call's line, and the word of it that gives bytes.
pub record Line : Type 0 where
  pub says : Option Call
  pub bytes : List ℕ

infix 68 ◌with-bytes◌
abbrev pub ◌with-bytes◌ : Option Call → List ℕ → Line
says with-bytes bytes = record { says = says; bytes = bytes }

abbrev pub plain : Option Call → Line
plain says = says with-bytes []

-- A `write` is that of the direction which its second word says.
abbrev pub write_line : List ℕ → (room : ℕ) → Direction → Line
write_line s room direction.Tx = write_tx_in s room with-bytes word_of s 11
write_line s room direction.Rx = write_rx_in s room with-bytes word_of s 13

unfoldable pub write_in : List ℕ → (room : ℕ) → Line
write_in s room = option_map_or (write_line s room) (direction_in (word_of s 1)) (plain None)

-- The line of each call.
abbrev pub line_of : List ℕ → (room : ℕ) → Name → Line
line_of s room name.Setup = plain (setup_in s)
line_of s room name.Open = plain (open_in s)
line_of s room name.Close = plain (close_in s)
line_of s room name.Tick = plain (tick_in s)
line_of s room name.Packet = packet_in s room with-bytes last_of s 2
line_of s room name.Report = report_in s room with-bytes word_of s 3
line_of s room name.Received = plain (received_in s)
line_of s room name.Transmitter = plain (transmitter_in s)
line_of s room name.Side = plain (side_call_in s)
line_of s room name.Read = read_in s room with-bytes last_of s 2
line_of s room name.Write = write_in s room
line_of s room name.Quality = plain (quality_call_in s)
line_of s room name.Air = plain (air_in s)
line_of s room name.Totals = plain (totals_in s)
line_of s room name.Help = plain (help_in s)

-- The calls in the order of their names, and which of them the first word names.
abbrev pub names : List Name
names =
    name.Setup
    ∷ name.Open
    ∷ name.Close
    ∷ name.Tick
    ∷ name.Packet
    ∷ name.Report
    ∷ name.Received
    ∷ name.Transmitter
    ∷ name.Side
    ∷ name.Read
    ∷ name.Write
    ∷ name.Quality
    ∷ name.Air
    ∷ name.Totals
    ∷ name.Help
    ∷ []

unfoldable pub named_in : List ℕ → Option Name
named_in s = one_of (word_of s 0) (text "setup open close tick packet report received transmitter side read write quality air totals help") names

unfoldable pub line_in : List ℕ → (room : ℕ) → Line
line_in s room = option_map_or (line_of s room) (named_in s) (plain None)

-- A line without words says nothing; one that is no call in every word is wrong.
abbrev pub or_wrong : Option Call → Call
or_wrong said = unwrap_or said call.Wrong

unfoldable pub call_in : List ℕ → (room : ℕ) → Call
call_in s room = cond (eqb (length (word_of s 0)) 0) call.Nothing (or_wrong (line_in s room).says)

-- The buffer afterwards: the bytes that the line gives in front, if they can be read; every other byte as it was.
unfoldable pub bytes_in : List ℕ → (buffer : List ℕ) → List ℕ
bytes_in s buffer = bytes_laid (line_in s (length buffer)).bytes buffer

closes : call_in (text "close 7 # the class") 0 ≡ call.Close 7
unfolding call_in line_in named_in one_of close_in last_of word_of word_at choice_of first_from number_in number_from value_from all_digits digit_of
closes = refl

too_large : call_in (text "close 256") 0 ≡ call.Wrong
unfolding call_in line_in named_in one_of close_in last_of word_of word_at choice_of first_from number_in number_from value_from all_digits digit_of
too_large = refl

one_too_many : call_in (text "close 7 8") 0 ≡ call.Wrong
unfolding call_in line_in named_in one_of close_in last_of word_of word_at choice_of first_from number_in number_from value_from all_digits digit_of
one_too_many = refl

name_alone : call_in (text "air 7") 0 ≡ call.Wrong
unfolding call_in line_in named_in one_of air_in last_of word_of word_at choice_of first_from
name_alone = refl

ticks : call_in (text "tick 200 160 208") 0 ≡ call.Tick 200 160 208
unfolding call_in line_in named_in one_of tick_in room_in last_of word_of word_at choice_of first_from number_in number_from value_from all_digits digit_of
ticks = refl

ms_alone : call_in (text "tick 200") 0 ≡ call.Wrong
unfolding call_in line_in named_in one_of tick_in room_in last_of word_of word_at choice_of first_from number_in number_from value_from all_digits digit_of
ms_alone = refl

no_words : call_in (text " # close 7") 0 ≡ call.Nothing
unfolding call_in line_in named_in one_of close_in last_of word_of word_at choice_of first_from number_in number_from value_from all_digits digit_of
no_words = refl

two_bytes : call_in (text "packet 7 907b") 3 ≡ call.Packet 7 2
unfolding call_in line_in named_in one_of packet_in bytes_said says_bytes is_dash is_hex bytes_of pairs last_of word_of word_at choice_of first_from number_in number_from value_from all_digits digit_of
two_bytes = refl

two_laid : bytes_in (text "packet 7 907b") (0 ∷ 0 ∷ 7 ∷ []) ≡ 144 ∷ 123 ∷ 7 ∷ []
unfolding bytes_in line_in named_in one_of bytes_laid says_bytes is_dash is_hex bytes_of pairs last_of word_of word_at choice_of first_from all_digits digit_of
two_laid = refl
