-- Demand 2: "What the writers write reads back as the same message", and with the same audio.
use Rattle.std.specs.Prelude.{ℕ, ◌<◌, ◌^◌, ◌≡◌, true, List, length, take}
use Rattle.packet.specs.Packet.{payload}
use Rattle.packet.specs.Refusals.{accepted}
use Rattle.reader.specs.Reading.{read_tx, read_rx}
use Rattle.writer.specs.Writing.{encode, writable, write, buffered}
use Rattle.packet.specs.declared.message.Message.{Message}
use Rattle.packet.specs.declared.message.Tx.{Tx}
use Rattle.packet.specs.declared.message.Rx.{Rx}
use Rattle.packet.specs.Messages.{from_tx, from_rx}
use Rattle.record.specs.declared.whole.Bench.{Bench}
use Rattle.reporting.specs.Reporting.{report_of, report_said, report_bytes}
use Rattle.demands.specs.AirKept.{AirRight}
use Rattle.demands.specs.Plain.{Plain}

-- Numbers that fit their bytes: the code's types see to it.
pub record Narrow (ext : ℕ) (m : Message) : Type 0 where
  pub extension : ext < 2 ^ 16
  pub sequence : m.sequence < 2 ^ 16
  pub timestamp : m.timestamp < 2 ^ 32
  pub ssrc : m.ssrc < 2 ^ 32

abbrev pub RoundTripTx : Type 0
RoundTripTx =
    (ext : ℕ) (m : Tx) (sound : List ℕ) → Narrow ext (from_tx m) → writable (from_tx m) (length sound) ≡ true
    → (read_tx ext (encode ext (from_tx m) sound) ≡ accepted m) × (payload (encode ext (from_tx m) sound) ≡ sound)

abbrev pub RoundTripRx : Type 0
RoundTripRx =
    (ext : ℕ) (m : Rx) (sound : List ℕ) → Narrow ext (from_rx m) → writable (from_rx m) (length sound) ≡ true
    → (read_rx ext (encode ext (from_rx m) sound) ≡ accepted m) × (payload (encode ext (from_rx m) sound) ≡ sound)

-- A writer that accepts has written just that at the front of the buffer,
abbrev pub WrittenAtFront : Type 0
WrittenAtFront =
    (ext : ℕ) (m : Message) (sound buffer : List ℕ) (n : ℕ) → write ext m sound (length buffer) ≡ accepted n
    → (writable m (length sound) ≡ true) × (take n (buffered ext m sound buffer) ≡ encode ext m sound)

-- and a report that was written tells what it was made of, and has its audio, where the air in the record is right (AirKept: after every
-- run of calls). One made by hand may hold a PTT type or a ptt-id that a report has no bits for.
abbrev pub ReportsReadBack : Type 0
ReportsReadBack =
    (b : Bench) → AirRight b → (n timestamp : ℕ) (sound : List ℕ) (room long : ℕ) → Narrow b.setup.ext (from_rx (report_of b n timestamp))
    → report_said b n timestamp sound room ≡ accepted long
    → (read_rx b.setup.ext (report_bytes b n timestamp sound) ≡ accepted (report_of b n timestamp)) × (payload (report_bytes b n timestamp sound) ≡ sound)

-- 01: "Writers write only this", plain form.
abbrev pub PlainWritten : Type 0
PlainWritten = (ext : ℕ) (m : Message) (sound : List ℕ) → Narrow ext m → writable m (length sound) ≡ true → Plain (encode ext m sound)
