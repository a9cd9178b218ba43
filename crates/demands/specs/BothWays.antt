-- Demand 2 of the code: "What the writers write reads back as the same message; an accepted packet in 01's plain form is rewritten to the
-- same bytes", since 02 one without a type 4 item. RoundTrip and Rewrite say so of the definitions; here are the functions, by their
-- promises (as in Tight).
use Rattle.std.specs.Prelude.{ℕ, ◌≤◌, ◌≡◌, true, false, List, [], ◌++◌, length, take, drop, Ok}
use contract.Lifetimes.{Lfts}
use borrow.Fn.Kind.{ParamKind}
use borrow.Fn.Kinds.{Dens, GoodsP}
use Rattle.base.specs.Bytes.{Bytes}
use Rattle.packet.specs.Packet.{payload}
use Rattle.record.specs.Record.{entry_of}
use Rattle.reporting.specs.Reporting.{report_of}
use Rattle.sending.specs.Sending.{after_closings}
use Rattle.packet.specs.declared.message.Tx.{Tx}
use Rattle.packet.specs.declared.message.Rx.{Rx}
use Rattle.reader.proofs as reader
use Rattle.writer.proofs as writer
use Rattle.reporting.proofs as reporting
use Rattle.sending.proofs as sending
use Rattle.demands.specs.AirKept.{AirRight}
use Rattle.demands.specs.Plain.{Plain}
use Rattle.demands.specs.Rewrite.{WithoutDdc}
use Rattle.demands.specs.StepOfCode.{Gives, read_back}

-- What holds of every result that a promise allows, of arguments that a call can have: what owning them tells, as the kit has it
-- (`GoodsP`), so that each number fits its type. Of the bytes behind a reference it tells nothing: where these matter, `Bytes` is asked.
abbrev pub GivesCalled : {n : ℕ} {R E : Lfts n → Type 0} → (kinds : List (ParamKind n)) → (promise claim : (k : Lfts n) → Dens k kinds → R k → E k → Type 0) → Type 0
GivesCalled {n} {R} {E} kinds promise claim = (k : Lfts n) (a : Dens k kinds) (r : R k) (e : E k) → GoodsP k kinds a → promise k a r e → claim k a r e

-- Given these bytes, a reader answers this message.
abbrev pub ReadsTx : (ext : ℕ) (bytes : List ℕ) → Tx → Type 0
ReadsTx ext bytes m = Gives reader.read_tx.Reads.Learnt (λ k (type, (p, end)) r e. type ≡ ext → p.now ≡ bytes → r ≡ Ok m)

abbrev pub ReadsRx : (ext : ℕ) (bytes : List ℕ) → Rx → Type 0
ReadsRx ext bytes m = Gives reader.read_rx.Reads.Learnt (λ k (type, (p, end)) r e. type ≡ ext → p.now ≡ bytes → r ≡ Ok m)

-- Given these bytes, `payload` hands out this audio.
abbrev pub HandsOut : (bytes sound : List ℕ) → Type 0
HandsOut bytes sound = Gives reader.payload.Reads.Learnt (λ k (p, end) r e. p.now ≡ bytes → r.now ≡ sound)

-- Given this message, audio and buffer, a writer answers this length and leaves the buffer so.
abbrev pub WritesTx : (ext : ℕ) → Tx → (sound buffer : List ℕ) (long : ℕ) (left : List ℕ) → Type 0
WritesTx ext m sound buffer long left = Gives writer.write_tx.Reads.Learnt (λ k (type, (message, (audio, (out, end)))) w e.
    type ≡ ext → message ≡ m → audio.now ≡ sound → out.now ≡ buffer → (w ≡ Ok long) × (e.1.1.1.0.now ≡ left))

abbrev pub WritesRx : (ext : ℕ) → Rx → (sound buffer : List ℕ) (long : ℕ) (left : List ℕ) → Type 0
WritesRx ext m sound buffer long left = Gives writer.write_rx.Reads.Learnt (λ k (type, (message, (audio, (out, end)))) w e.
    type ≡ ext → message ≡ m → audio.now ≡ sound → out.now ≡ buffer → (w ≡ Ok long) × (e.1.1.1.0.now ≡ left))

pub record BothWays : Type 1 where
  -- what was written in front of the buffer reads back, with its audio
  pub written_tx : GivesCalled writer.write_tx.Kinds.ps writer.write_tx.Reads.Learnt (λ k (ext, (m, (sound, (out, end)))) w e.
      (long : ℕ) → w ≡ Ok long
      → ReadsTx ext (take long e.1.1.1.0.now) m × HandsOut (take long e.1.1.1.0.now) sound.now)
  pub written_rx : GivesCalled writer.write_rx.Kinds.ps writer.write_rx.Reads.Learnt (λ k (ext, (m, (sound, (out, end)))) w e.
      (long : ℕ) → w ≡ Ok long
      → ReadsRx ext (take long e.1.1.1.0.now) m × HandsOut (take long e.1.1.1.0.now) sound.now)
  -- so does a report, where the record has its air right (AirKept: after every run of calls)
  pub written_report : GivesCalled reporting.report.Kinds.ps reporting.report.Reads.Learnt (λ k (b, (n, (timestamp, (sound, (out, end))))) r e.
      (long : ℕ) → r.answer ≡ Ok long → AirRight b
      → ReadsRx b.setup.ext (take long e.1.1.1.1.0.now) (report_of b n timestamp) × HandsOut (take long e.1.1.1.1.0.now) sound.now)
  -- and each report of a tick, which makes the air right itself: of seat n, among the frames read back along the seats that are due
  pub written_tick : GivesCalled sending.tick.Kinds.ps sending.tick.Reads.Learnt (λ k (b, (ms, (timestamp, (out, end)))) r e.
      (used n : ℕ) → r.answer ≡ Ok used → entry_of false r.seats.due n ≡ true
      → let bytes = entry_of [] (read_back r.seats.due (take used e.1.1.1.0.now)) n in
      ReadsRx b.setup.ext bytes (report_of (after_closings b ms) n timestamp) × HandsOut bytes [])
  -- what was read of a plain packet without a type 4 item is written to the same bytes, into every buffer with room for them
  pub read_tx : Gives reader.read_tx.Reads.Learnt (λ k (ext, (p, end)) r e.
      (m : Tx) → r ≡ Ok m → Bytes p.now → Plain p.now → WithoutDdc p.now → (buffer : List ℕ) → length p.now ≤ length buffer
      → WritesTx ext m (payload p.now) buffer (length p.now) (p.now ++ drop (length p.now) buffer))
  pub read_rx : Gives reader.read_rx.Reads.Learnt (λ k (ext, (p, end)) r e.
      (m : Rx) → r ≡ Ok m → Bytes p.now → Plain p.now → WithoutDdc p.now → (buffer : List ℕ) → length p.now ≤ length buffer
      → WritesRx ext m (payload p.now) buffer (length p.now) (p.now ++ drop (length p.now) buffer))
  -- and of no other packet: where a writer has written a packet's own bytes from what was read of it, the packet is such a one
  pub only_tx : Gives reader.read_tx.Reads.Learnt (λ k (ext, (p, end)) r e. (m : Tx) → r ≡ Ok m → Bytes p.now
      → Gives writer.write_tx.Reads.Learnt (λ j (type, (message, (audio, (out, end)))) w f. type ≡ ext → message ≡ m → audio.now ≡ payload p.now
      → (long : ℕ) → w ≡ Ok long → take long f.1.1.1.0.now ≡ p.now → Plain p.now × WithoutDdc p.now))
  pub only_rx : Gives reader.read_rx.Reads.Learnt (λ k (ext, (p, end)) r e. (m : Rx) → r ≡ Ok m → Bytes p.now
      → Gives writer.write_rx.Reads.Learnt (λ j (type, (message, (audio, (out, end)))) w f. type ≡ ext → message ≡ m → audio.now ≡ payload p.now
      → (long : ℕ) → w ≡ Ok long → take long f.1.1.1.0.now ≡ p.now → Plain p.now × WithoutDdc p.now))
