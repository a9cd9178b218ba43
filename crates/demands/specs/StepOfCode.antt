-- The demands are stated over definitions: `read_tx`, `write` and the like for packets, `keeping` for runs of calls. Here: the
-- code does what these say, so that they are theorems on the code. A promise is the `ensures` in the code, as in Tight.
use Rattle.std.specs.Prelude.{ℕ, ◌≡◌, Bool, true, false, List, [], ◌∷◌, length, take}
use Rattle.packet.specs.Refusals.{Answer, accepted, refused, mapped, answer_of}
use Rattle.packet.specs.Packet.{payload}
use Rattle.packet.specs.Messages.{from_tx, from_rx}
use Rattle.framing.specs.Framing.{packet_read, rest_read}
use Rattle.reader.specs.Reading.{read_tx, read_rx}
use Rattle.writer.specs.Writing.{write, buffered, put, after_put}
use Rattle.record.specs.Kind.{kind_code}
use Rattle.record.specs.Record.{fresh_bench}
use Rattle.air.specs.Air.{aired}
use Rattle.seats.specs.Ticking.{silence_cause}
use Rattle.hearing.specs.Hearing.{audio_in}
use Rattle.reporting.specs.Reporting.{report_said, report_buffer}
use Rattle.sending.specs.Sending.{no_seats, tick_said, tick_sets, tick_buffer}
use Rattle.bench.specs.Step.{opening, closing, packet, tick, report, received, transmitter, side, totals, Said, done, own, told, ticked, written, counts, Outcome, keeping}
use Rattle.record.specs.declared.whole.Bench.{Bench}
use Rattle.sending.specs.declared.sending.SeatSets.{SeatSets}
use Rattle.reader.proofs as reader
use Rattle.writer.proofs as writer
use Rattle.record.proofs as the_record
use Rattle.air.proofs as air
use Rattle.seats.proofs as seats
use Rattle.hearing.proofs as hearing
use Rattle.reporting.proofs as reporting
use Rattle.sending.proofs as sending

-- What holds of every result that a promise allows: of the arguments, the result and the parameters at exit.
abbrev pub Gives : {K : Type 0} {A R E : K → Type 0} → (promise claim : (k : K) → A k → R k → E k → Type 0) → Type 0
Gives {K} {A} {R} {E} promise claim = (k : K) (a : A k) (r : R k) (e : E k) → promise k a r e → claim k a r e

-- what a call of the code did
abbrev pub did : Answer Said → Bench → Outcome
did answer bench = record { answer = answer; bench = bench }

-- what it told, where it was not refused
abbrev pub was_done : Unit {0} → Said
was_done u = done

-- a report is the front of the buffer that was lent, as long as the answer says
abbrev pub in_front : (left : List ℕ) → (long : ℕ) → Said
in_front left long = written (take long left)

-- The records of a tick are read back from the bytes used, frame after frame, along the seats that are due.
unfoldable pub read_back : (due : List Bool) → (bytes : List ℕ) → List (List ℕ)
read_back [] bytes = []
read_back (true ∷ ds) bytes = packet_read bytes ∷ read_back ds (rest_read bytes)
read_back (false ∷ ds) bytes = [] ∷ read_back ds bytes

abbrev pub sent_in : SeatSets → (left : List ℕ) → (used : ℕ) → Said
sent_in sets left used = ticked sets.closed sets.due (read_back sets.due (take used left))

pub record StepOfCode : Type 1 where
  -- the readers and the writers
  pub reads_tx : Gives reader.read_tx.Reads.Learnt (λ k (ext, (p, end)) r e. answer_of r ≡ read_tx ext p.now)
  pub reads_rx : Gives reader.read_rx.Reads.Learnt (λ k (ext, (p, end)) r e. answer_of r ≡ read_rx ext p.now)
  pub pays_out : Gives reader.payload.Reads.Learnt (λ k (p, end) r e. r.now ≡ payload p.now)
  pub writes_tx : Gives writer.write_tx.Reads.Learnt (λ k (ext, (m, (sound, (out, end)))) r e.
      (answer_of r ≡ write ext (from_tx m) sound.now (length out.now)) × (e.1.1.1.0.now ≡ buffered ext (from_tx m) sound.now out.now))
  pub writes_rx : Gives writer.write_rx.Reads.Learnt (λ k (ext, (m, (sound, (out, end)))) r e.
      (answer_of r ≡ write ext (from_rx m) sound.now (length out.now)) × (e.1.1.1.0.now ≡ buffered ext (from_rx m) sound.now out.now))
  pub puts_rx : Gives writer.put_rx.Reads.Learnt (λ k (ext, (m, (sound, (out, end)))) r e.
      (answer_of r ≡ put ext (from_rx m) sound.now (length out.now)) × (e.1.1.1.0.now ≡ after_put ext (from_rx m) sound.now out.now))
  -- the calls of the bench
  pub starts : Gives the_record.whole.Bench.fresh.Reads.Learnt (λ k (setup, end) r e. r ≡ fresh_bench setup)
  pub opens : Gives seats.«open».Reads.Learnt
      (λ k (b, (n, (request, end))) r e. did (mapped own (answer_of r.answer)) r.bench ≡ keeping b (opening n request))
  pub closes : Gives seats.close.Reads.Learnt
      (λ k (b, (n, end)) r e. did (mapped was_done (answer_of r.answer)) r.bench ≡ keeping b (closing n))
  -- with the audio that `audio` hands out for its answer
  pub hears : Gives hearing.packet.Reads.Learnt (λ k (b, (n, (p, end))) r e.
      did (mapped (told p.now) (answer_of r.answer)) r.bench ≡ keeping b (packet n p.now))
  pub hands_out : Gives hearing.audio.Reads.Learnt (λ k (answer, (p, end)) sound e. sound.now ≡ audio_in (answer_of answer) p.now)
  pub ticks : Gives sending.tick.Reads.Learnt (λ k (b, (ms, (timestamp, (out, end)))) r e.
      did (mapped (sent_in r.seats e.1.1.1.0.now) (answer_of r.answer)) r.bench ≡ keeping b (tick ms timestamp (length out.now)))
  -- the bytes used; "bytes past those stay", and all of them where it is refused
  pub sends : Gives sending.tick.Reads.Learnt (λ k (b, (ms, (timestamp, (out, end)))) r e.
      (answer_of r.answer ≡ tick_said b ms timestamp (length out.now)) × (e.1.1.1.0.now ≡ tick_buffer b ms timestamp out.now))
  -- the seats closed and due; refused, it names none
  pub names : Gives sending.tick.Reads.Learnt (λ k (b, (ms, (timestamp, (out, end)))) r e. r.seats ≡ tick_sets b ms timestamp (length out.now))
  pub names_none : Gives sending.tick.Reads.Learnt (λ k (b, (ms, (timestamp, (out, end)))) r e.
      (number cause : ℕ) → answer_of r.answer ≡ refused number cause → r.seats ≡ no_seats)
  pub reports : Gives reporting.report.Reads.Learnt (λ k (b, (n, (timestamp, (audio, (out, end))))) r e.
      did (mapped (in_front e.1.1.1.1.0.now) (answer_of r.answer)) r.bench
      ≡ keeping b (report n timestamp audio.now (length out.now)))
  -- "The answer is its length in bytes. Bytes past its length stay", and all of them where it is refused
  pub leaves : Gives reporting.report.Reads.Learnt (λ k (b, (n, (timestamp, (audio, (out, end))))) r e.
      (answer_of r.answer ≡ report_said b n timestamp audio.now (length out.now))
      × (e.1.1.1.1.0.now ≡ report_buffer b n timestamp audio.now out.now))
  pub receives : Gives seats.received.Reads.Learnt
      (λ k (b, (signals, (level, end))) r e. did (accepted done) r ≡ keeping b (received signals level))
  pub transmits : Gives seats.transmitter.Reads.Learnt (λ k (b, (healthy, end)) r e. did (accepted done) r ≡ keeping b (transmitter healthy))
  pub sides : Gives seats.side.Reads.Learnt
      (λ k (b, (standby, end)) r e. did (mapped was_done (answer_of r.answer)) r.bench ≡ keeping b (side standby))
  -- the bench is not given back: it is as it was
  pub tells_totals : Gives hearing.totals.Reads.Learnt (λ k (b, (n, end)) r e. did (mapped counts (answer_of r)) b ≡ keeping b (totals n))
  -- what else the bench gives out
  pub airs : Gives air.aired.Reads.Learnt (λ k (b, end) r e. r ≡ aired b)
  pub tells_cause : Gives seats.silence_cause.Reads.Learnt (λ k end r e. r ≡ silence_cause)
  pub codes : Gives the_record.kind_code.Reads.Learnt (λ k (kind, end) r e. r ≡ kind_code kind)
