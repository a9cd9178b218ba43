-- 01, Report to a seat.
use Rattle.std.specs.Prelude.{ℕ, ◌+◌, ◌%◌, Bool, false, cond, not, ◌&&◌, ◌||◌, List, [], ◌∷◌, ◌++◌, ltb, leb, eqb, ℤ, length, Option, None, Some}
use Rattle.packet.specs.Items.{rssi}
use Rattle.packet.specs.Quality.{quality}
use Rattle.packet.specs.Refusals.{Case, ◌if◌, Answer, judged}
use Rattle.packet.specs.Messages.{from_rx}
use Rattle.writer.specs.Writing.{encode, audio_writable, filled}
use Rattle.packet.specs.declared.message.Sqi.{Sqi}
use Rattle.packet.specs.declared.message.Rx.{Rx}
use Rattle.record.specs.Kind.{kind_of, side_told}
use Rattle.record.specs.Record.{entry_of, seat_of, with_sequence}
use Rattle.seats.specs.Opening.{own_id, seat_refusals}
use Rattle.record.specs.declared.whole.Bench.{Bench}
use Rattle.record.specs.declared.shown.Air.{Air}

-- "ptt-id: 0 if off; the seat's own if it is on the air at the top rank; else the smallest on the air at the top rank."
abbrev pub id_told : Air → (n call : ℕ) → ℕ
id_told air n call = cond (entry_of false air.leads n) (own_id n call) air.id

-- "SQU: 1 signal or more. SCT: 2 or more."
abbrev pub squ_told : (signals : ℕ) → Bool
squ_told signals = leb 1 signals

abbrev pub sct_told : (signals : ℕ) → Bool
sct_told signals = leb 2 signals

-- "SQI item, method RSSI, exactly if SQU is 1"
abbrev pub sqi_told : (signals : ℕ) → ℤ → Option Sqi
sqi_told signals level = cond (squ_told signals) (Some (record { quality = quality level; method = rssi })) None

-- The report as a message: "PM: the seat's own last PM." Who is on the air it reads from the record (02, request 5: "let reports
-- read them"), whatever stands there; its main/standby item is that of the kind (Kind, side_told).
unfoldable pub report_of : Bench → (n timestamp : ℕ) → Rx
report_of b n timestamp =
    record {
      sequence = entry_of 0 b.sequences n;
      timestamp = timestamp;
      ssrc = (seat_of b.seats n).ssrc;
      ptt = b.air.ptt;
      squ = squ_told b.signals;
      id = id_told b.air n (seat_of b.seats n).call;
      pm = (seat_of b.seats n).heard.field.pm;
      ptts = b.air.ptts;
      sct = sct_told b.signals;
      sqi = sqi_told b.signals b.level;
      side = side_told (kind_of b.setup.kind) b.standby;
    }

-- and as bytes, by the writer of RX messages below 27
unfoldable pub report_bytes : Bench → (n timestamp : ℕ) → (audio : List ℕ) → List ℕ
report_bytes b n timestamp sound = encode b.setup.ext (from_rx (report_of b n timestamp)) sound

-- "25 | report audio not 0, 80, 160 or 240 bytes, or audio while SQU is 0"
abbrev pub audio_barred : (signals audio : ℕ) → Bool
audio_barred signals n = not (audio_writable n) || (not (squ_told signals) && not (eqb n 0))

-- "Report 13, 14, 25, 26."
unfoldable pub report_refusals : Bench → (n timestamp : ℕ) → (audio : List ℕ) → (room : ℕ) → List Case
report_refusals b n timestamp sound room =
    seat_refusals n (seat_of b.seats n).opened
    ++ (25 if audio_barred b.signals (length sound)
    ∷ 26 if ltb room (length (report_bytes b n timestamp sound))
    ∷ [])

-- "The answer is its length in bytes. Bytes past its length stay."
unfoldable pub report_said : Bench → (n timestamp : ℕ) → (audio : List ℕ) → (room : ℕ) → Answer ℕ
report_said b n timestamp sound room = judged (report_refusals b n timestamp sound room) (length (report_bytes b n timestamp sound))

unfoldable pub report_buffer : Bench → (n timestamp : ℕ) → (audio buffer : List ℕ) → List ℕ
report_buffer b n timestamp sound buffer =
    filled (report_said b n timestamp sound (length buffer)) (report_bytes b n timestamp sound) buffer

-- "Its sequence goes up by one, wrapping, with each report written."
abbrev pub next_sequence : (last : ℕ) → ℕ
next_sequence last = (last + 1) % 65536

unfoldable pub reported_bench : Bench → (n : ℕ) → Bench
reported_bench b n = with_sequence b n (next_sequence (entry_of 0 b.sequences n))
