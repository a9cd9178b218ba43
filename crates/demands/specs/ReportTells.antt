-- Second witness of `reporting`, `sending`: 01, Report to a seat, of the bytes of a report. They are read back, and say what crate
-- `reporting` says in words (InWords, `Tells`). So does each report of a tick; and which numbers reports have.
use Rattle.std.specs.Prelude.{ℕ, ◌^◌, ◌<◌, ◌≡◌, Bool, true, false, List, [], get_or}
use Rattle.packet.specs.Packet.{payload}
use Rattle.packet.specs.Refusals.{accepted}
use Rattle.reader.specs.Reading.{read_rx}
use Rattle.packet.specs.declared.message.Rx.{Rx}
use Rattle.record.specs.Record.{entry_of, seat_of, fresh_bench, with_sequences}
use Rattle.reporting.specs.InWords.{Tells, OneUp}
use Rattle.sending.specs.InWords.{DueAlone}
use Rattle.bench.specs.Step.{Call, opening, tick, report, own, ticked, written, keeping, after}
use Rattle.record.specs.declared.setup.Setup.{Setup}
use Rattle.record.specs.declared.whole.Bench.{Bench}
use Rattle.seats.specs.declared.opening.Request.{Request}
use Rattle.demands.specs.Kept.{AllInRange}

-- The bytes of a report to seat n of bench b.
pub record IsReport (b : Bench) (n timestamp : ℕ) (sound bytes : List ℕ) : Type 0 where
  pub message : Rx
  pub reads : read_rx b.setup.ext bytes ≡ accepted message
  pub tells : Tells b n timestamp message
  -- "with .. audio or none". "The report is type 8 if audio is given, else 123."
  pub audio : payload bytes ≡ sound
  pub type_r2s : sound ≡ [] → get_or bytes 1 0 ≡ 123
  pub type_audio : (sound ≡ [] → ⊥) → get_or bytes 1 0 ≡ 8

-- Its number was that of the seat, which goes up by one, and no other.
pub record OnlyItsNumber (n : ℕ) (old new : List ℕ) : Type 0 where
  pub its_own : OneUp (entry_of 0 old n) (entry_of 0 new n)
  pub others : (k : ℕ) → (k ≡ n → ⊥) → entry_of 0 new k ≡ entry_of 0 old k

-- neither an opening, a tick nor a report
pub record MovesNoNumber (c : Call) : Type 0 where
  pub no_opening : (n : ℕ) (r : Request) → c ≡ opening n r → ⊥
  pub no_tick : (ms timestamp room : ℕ) → c ≡ tick ms timestamp room → ⊥
  pub no_report : (n timestamp : ℕ) (sound : List ℕ) (room : ℕ) → c ≡ report n timestamp sound room → ⊥

-- A bench that calls lead to, where numbers fit their bytes.
pub record Reports (b : Bench) : Type 0 where
  pub one : (n timestamp : ℕ) (sound : List ℕ) (room : ℕ) (bytes : List ℕ) → timestamp < 2 ^ 32
      → (keeping b (report n timestamp sound room)).answer ≡ accepted (written bytes) → IsReport b n timestamp sound bytes
  -- 02, request 6: a tick writes the report of each due seat, and "Reports show the bench after the tick's closings": the one that it
  -- leaves, with the numbers from before it
  pub by_tick : (ms timestamp room : ℕ) (closed due : List Bool) (records : List (List ℕ)) → timestamp < 2 ^ 32
      → (keeping b (tick ms timestamp room)).answer ≡ accepted (ticked closed due records) → (n : ℕ) → entry_of false due n ≡ true
      → IsReport (with_sequences (keeping b (tick ms timestamp room)).bench b.sequences) n timestamp [] (entry_of [] records n)
  -- "Its sequence goes up by one, wrapping, with each report written": with a single one, and with those of a tick for the due seats alone
  pub number_moved : (n timestamp : ℕ) (sound : List ℕ) (room : ℕ) (bytes : List ℕ)
      → (keeping b (report n timestamp sound room)).answer ≡ accepted (written bytes) → OnlyItsNumber n b.sequences (keeping b (report n timestamp sound room)).bench.sequences
  pub due_moved : (ms timestamp room : ℕ) (closed due : List Bool) (records : List (List ℕ))
      → (keeping b (tick ms timestamp room)).answer ≡ accepted (ticked closed due records) → DueAlone due b.sequences (keeping b (tick ms timestamp room)).bench.sequences
  -- ".. SSRC and first sequence number for its reports", of the opening; no other call moves a number
  pub first_number : (n : ℕ) (r : Request) (id : ℕ) → (keeping b (opening n r)).answer ≡ accepted (own id) → let next = (keeping b (opening n r)).bench in
      (entry_of 0 next.sequences n ≡ r.sequence) × ((seat_of next.seats n).ssrc ≡ r.ssrc) × ((k : ℕ) → (k ≡ n → ⊥) → entry_of 0 next.sequences k ≡ entry_of 0 b.sequences k)
  pub none_moved : (c : Call) → MovesNoNumber c → (keeping b c).bench.sequences ≡ b.sequences

abbrev pub ReportTells : Type 0
ReportTells = (setup : Setup) (cs : List Call) → setup.ext < 2 ^ 16 → AllInRange cs → Reports (after keeping (fresh_bench setup) cs)
