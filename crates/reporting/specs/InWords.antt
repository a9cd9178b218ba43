-- Second witness of `reporting`: 01's "Report to a seat" once more in words and numbers: what it tells, when it is turned away (13, 14, 25,
-- 26), and its next number. proofs/InWords holds the definitions of Reporting to it; none of them is cited. Who is on the air is said as
-- crate `air` says it in words. The codes: call types 2 TxRx, 3 Coupling; kinds 1 a pair, 2 a shared radio, every other a single one.
use Rattle.std.specs.Prelude.{ℕ, ◌+◌, ◌≤◌, ◌<◌, ◌≡◌, true, false, List, ◌↔◌, ◌⊎◌, length, None, Some}
use Rattle.packet.specs.InWords.{IsQuality}
use Rattle.packet.specs.declared.message.Side.TheVariants.{Main, Standby}
use Rattle.packet.specs.declared.message.Rx.{Rx}
use Rattle.record.specs.Record.{entry_of, seat_of}
use Rattle.record.specs.declared.whole.Bench.{Bench}
use Rattle.air.specs.InWords.{last_field, TakesPart, AtTop, Leads, TellsPtts}
use Rattle.seats.specs.InWords.{SeatBarred, OwnId}

-- What a report to seat n of bench b says.
pub record Tells (b : Bench) (n timestamp : ℕ) (m : Rx) : Type 0 where
  -- "with a timestamp"; "SSRC and first sequence number for its reports"
  pub at : m.timestamp ≡ timestamp
  pub ssrc : m.ssrc ≡ (seat_of b.seats n).ssrc
  pub numbered : m.sequence ≡ entry_of 0 b.sequences n
  -- "PTT type: the top type, or off. ptt-id: 0 if off;"
  pub off : ((k : ℕ) → TakesPart b k → ⊥) → (m.ptt ≡ 0) × (m.id ≡ 0)
  pub top_type : (k : ℕ) → AtTop b k → m.ptt ≡ (last_field b k).ptt
  -- "the seat's own if it is on the air at the top rank;"
  pub own_id : Leads b n → OwnId n (seat_of b.seats n).call m.id
  -- "else the smallest on the air at the top rank."
  pub other_id : (Leads b n → ⊥) → (k : ℕ) → TakesPart b k → Leads b m.id
  pub smallest_id : (Leads b n → ⊥) → (k : ℕ) → Leads b k → m.id ≤ k
  -- "PM: the seat's own last PM. PTTS: 1 if two or more seats are on the air, or a seat on the air last sent PTTS 1."
  pub pm : m.pm ≡ (last_field b n).pm
  pub ptts : (m.ptts ≡ true) ↔ TellsPtts b
  -- "SQU: 1 signal or more. SCT: 2 or more. SQI item, method RSSI, exactly if SQU is 1" (RSSI is method 0)
  pub squ : (m.squ ≡ true) ↔ (1 ≤ b.signals)
  pub sct : (m.sct ≡ true) ↔ (2 ≤ b.signals)
  pub no_quality : b.signals ≡ 0 → m.sqi ≡ None
  pub a_quality : 1 ≤ b.signals → (q : ℕ) × (m.sqi ≡ Some (record { quality = q; method = 0 })) × IsQuality b.level q
  -- "Main/standby item, with the side in use, exactly for a pair"; 02, of a shared radio: "with 0, whichever side is in use"
  pub no_item : (b.setup.kind ≡ 1 → ⊥) → (b.setup.kind ≡ 2 → ⊥) → m.side ≡ None
  pub main_told : b.setup.kind ≡ 1 → b.standby ≡ false → m.side ≡ Some Main
  pub standby_told : b.setup.kind ≡ 1 → b.standby ≡ true → m.side ≡ Some Standby
  pub zero_told : b.setup.kind ≡ 2 → m.side ≡ Some Main

-- "Report 13, 14, 25, 26."
pub data ReportBarred (b : Bench) (n : ℕ) (sound : List ℕ) (room : ℕ) : (number cause : ℕ) → Type 0 where
  its_seat : (number cause : ℕ) → SeatBarred b n number cause → ReportBarred b n sound room number cause
  -- "25 | report audio not 0, 80, 160 or 240 bytes, or audio while SQU is 0"
  no_length : (length sound ≡ 0 → ⊥) → (length sound ≡ 80 → ⊥) → (length sound ≡ 160 → ⊥) → (length sound ≡ 240 → ⊥) → ReportBarred b n sound room 25 0
  no_signal : b.signals ≡ 0 → (length sound ≡ 0 → ⊥) → ReportBarred b n sound room 25 0
  -- "26 | buffer shorter than the packet to write": 20 bytes and the audio, and a word more where it has both items, of a signal and of a
  -- side
  under_20 : room < 20 + length sound → ReportBarred b n sound room 26 0
  under_24 : 1 ≤ b.signals → (b.setup.kind ≡ 1) ⊎ (b.setup.kind ≡ 2) → room < 24 + length sound → ReportBarred b n sound room 26 0

-- "Its sequence goes up by one, wrapping, with each report written."
pub data OneUp (last : ℕ) : (next : ℕ) → Type 0 where
  up : last < 65535 → OneUp last (last + 1)
  wrapping : last ≡ 65535 → OneUp last 0
