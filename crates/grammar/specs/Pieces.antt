-- What the private functions promise.
use Rattle.std.specs.Prelude.{ℕ, true, false, List, [], ◌∷◌, Option, Some}
use Rattle.std.specs.Option.{option_map_or}
use Rattle.base.specs.Text.{text}
use Rattle.words.specs.Input.{word_of, last_of}
use Rattle.grammar.specs.Said.{◌>>=◌, byte_in, half_in, whole_in, hex_in, room_in, one_of, kind_in, call_type_in, direction_in, seats_in, flag_in, side_in, climax_in, sqi_in}
use Rattle.grammar.specs.Grammar.{close_in, tick_in, received_in, transmitter_in, side_call_in, quality_call_in, air_in, totals_in, help_in}
use Rattle.grammar.specs.declared.call.Call.{Call}
use Rattle.grammar.specs.declared.call.Call.TheVariants as call
use Rattle.grammar.specs.declared.call.Name.{Name}
use Rattle.grammar.specs.declared.call.Name.TheVariants as name
use Rattle.grammar.specs.declared.call.Lent.{Lent}
use Rattle.grammar.specs.declared.call.SetupSaid.{SetupSaid}
use Rattle.grammar.specs.declared.messages.HeadSaid.{HeadSaid}
use Rattle.grammar.specs.declared.messages.KeySaid.{KeySaid}
use Rattle.packet.specs.declared.message.Direction.{Direction}
use Rattle.packet.specs.declared.message.Direction.TheVariants as direction
use Rattle.packet.specs.declared.message.Tx.{Tx}
use Rattle.packet.specs.declared.message.Rx.{Rx}
use Rattle.seats.specs.declared.opening.Request.{Request}

-- Several words of a line together.
unfoldable pub modes_in : List ℕ → Option SetupSaid
modes_in s = do
  lessons ← seats_in (word_of s 1)
  ext ← hex_in (word_of s 2)
  kind ← kind_in (word_of s 3)
  equal_summation ← one_of (word_of s 4) (text "lockout summation") (false ∷ true ∷ [])
  coupling_summation ← one_of (last_of s 5) (text "interruption summation") (false ∷ true ∷ [])
  Some (record { lessons = lessons; ext = ext; kind = kind; equal_summation = equal_summation; coupling_summation = coupling_summation })

unfoldable pub request_in : List ℕ → Option Request
request_in s = do
  type ← call_type_in (word_of s 2)
  period ← half_in (word_of s 3)
  multiplier ← byte_in (word_of s 4)
  ssrc ← whole_in (word_of s 5)
  sequence ← half_in (last_of s 6)
  Some (record { call = type; period = period; multiplier = multiplier; ssrc = ssrc; sequence = sequence })

unfoldable pub lent_in : (audio : Option ℕ) → (size : List ℕ) → Option Lent
lent_in given size = do
  audio ← given
  room ← room_in size
  Some (record { audio = audio; room = room })

unfoldable pub head_in : List ℕ → Option HeadSaid
head_in s = do
  sequence ← half_in (word_of s 2)
  timestamp ← whole_in (word_of s 3)
  ssrc ← whole_in (word_of s 4)
  ptt ← byte_in (word_of s 5)
  Some (record { sequence = sequence; timestamp = timestamp; ssrc = ssrc; ptt = ptt })

unfoldable pub key_in : (id pm ptts : List ℕ) → Option KeySaid
key_in id pm ptts = do
  id ← byte_in id
  pm ← flag_in pm
  ptts ← flag_in ptts
  Some (record { id = id; pm = pm; ptts = ptts })

unfoldable pub tx_in : List ℕ → Option Tx
tx_in s = do
  head ← head_in s
  key ← key_in (word_of s 6) (word_of s 7) (word_of s 8)
  climax ← climax_in (word_of s 9)
  side ← side_in (word_of s 10)
  Some (record {
    sequence = head.sequence;
    timestamp = head.timestamp;
    ssrc = head.ssrc;
    ptt = head.ptt;
    id = key.id;
    pm = key.pm;
    ptts = key.ptts;
    climax = climax;
    side = side;
  })

unfoldable pub rx_in : List ℕ → Option Rx
rx_in s = do
  head ← head_in s
  squ ← flag_in (word_of s 6)
  key ← key_in (word_of s 7) (word_of s 8) (word_of s 9)
  sct ← flag_in (word_of s 10)
  sqi ← sqi_in (word_of s 11)
  side ← side_in (word_of s 12)
  Some (record {
    sequence = head.sequence;
    timestamp = head.timestamp;
    ssrc = head.ssrc;
    ptt = head.ptt;
    squ = squ;
    id = key.id;
    pm = key.pm;
    ptts = key.ptts;
    sct = sct;
    sqi = sqi;
    side = side;
  })

abbrev pub setup_with : List ℕ → Option Call
setup_with s = do
  said ← modes_in s
  Some (call.Setup said)

abbrev pub open_with : List ℕ → Option Call
open_with s = do
  seat ← byte_in (word_of s 1)
  request ← request_in s
  Some (call.Open seat request)

-- The calls whose bytes were read before: so many, if the word that gives them could be read.
abbrev pub packet_with : List ℕ → (given : Option ℕ) → Option Call
packet_with s given = do
  seat ← byte_in (word_of s 1)
  count ← given
  Some (call.Packet seat count)

abbrev pub report_with : List ℕ → (given : Option ℕ) → Option Call
report_with s given = do
  seat ← byte_in (word_of s 1)
  timestamp ← whole_in (word_of s 2)
  lent ← lent_in given (last_of s 4)
  Some (call.Report seat timestamp lent)

abbrev pub read_with : List ℕ → (given : Option ℕ) → Option Call
read_with s given = do
  count ← given
  one_of (word_of s 1) (text "tx rx") (call.ReadTx count ∷ call.ReadRx count ∷ [])

abbrev pub write_tx_with : List ℕ → (given : Option ℕ) → Option Call
write_tx_with s given = do
  message ← tx_in s
  lent ← lent_in given (last_of s 12)
  Some (call.WriteTx message lent)

abbrev pub write_rx_with : List ℕ → (given : Option ℕ) → Option Call
write_rx_with s given = do
  message ← rx_in s
  lent ← lent_in given (last_of s 14)
  Some (call.WriteRx message lent)

abbrev pub write_way : List ℕ → (given : Option ℕ) → Direction → Option Call
write_way s given direction.Tx = write_tx_with s given
write_way s given direction.Rx = write_rx_with s given

abbrev pub write_with : List ℕ → (given : Option ℕ) → Option Call
write_with s given = do
  way ← direction_in (word_of s 1)
  write_way s given way

abbrev pub call_with : List ℕ → (given : Option ℕ) → Name → Option Call
call_with s given name.Setup = setup_with s
call_with s given name.Open = open_with s
call_with s given name.Close = close_in s
call_with s given name.Tick = tick_in s
call_with s given name.Packet = packet_with s given
call_with s given name.Report = report_with s given
call_with s given name.Received = received_in s
call_with s given name.Transmitter = transmitter_in s
call_with s given name.Side = side_call_in s
call_with s given name.Read = read_with s given
call_with s given name.Write = write_with s given
call_with s given name.Quality = quality_call_in s
call_with s given name.Air = air_in s
call_with s given name.Totals = totals_in s
call_with s given name.Help = help_in s

abbrev pub said_with : List ℕ → Option Name → (given : Option ℕ) → Option Call
said_with s named given = do
  name ← named
  call_with s given name

-- The word that gives bytes.
abbrev pub way_bytes : List ℕ → Direction → List ℕ
way_bytes s direction.Tx = word_of s 11
way_bytes s direction.Rx = word_of s 13

unfoldable pub write_bytes : List ℕ → List ℕ
write_bytes s = option_map_or (way_bytes s) (direction_in (word_of s 1)) []

abbrev pub bytes_of_call : List ℕ → Name → List ℕ
bytes_of_call s name.Packet = last_of s 2
bytes_of_call s name.Report = word_of s 3
bytes_of_call s name.Read = last_of s 2
bytes_of_call s name.Write = write_bytes s
bytes_of_call s other = []

unfoldable pub bytes_word : List ℕ → Option Name → List ℕ
bytes_word s named = option_map_or (bytes_of_call s) named []
