-- Second witness of `seats` (silence_cause), `reporting`, `sending`, `writer` (write, put): 01, What is turned away, of every other call, with
-- its number and cause, in the words and numbers of InWords of `seats`, `reporting`, `sending` and `writer`: 13 to 18 and 24 to 27. (1 to
-- 12: Unreadable. A packet: PacketTells. The side event: SideMoves.)
use Rattle.std.specs.Prelude.{ℕ, ◌≡◌, Bool, List, ◌⊎◌, ℤ, length}
use Rattle.packet.specs.Refusals.{accepted}
use Rattle.packet.specs.InWords.{TurnedAway}
use Rattle.writer.specs.Writing.{write, put}
use Rattle.writer.specs.InWords.{WriterBarred}
use Rattle.packet.specs.declared.message.Message.{Message}
use Rattle.seats.specs.InWords.{SeatBarred, OpenBarred}
use Rattle.seats.specs.Ticking.{silence_cause}
use Rattle.reporting.specs.InWords.{ReportBarred}
use Rattle.sending.specs.InWords.{TickBarred}
use Rattle.bench.specs.Step.{opening, closing, tick, report, received, transmitter, totals, done, own, keeping}
use Rattle.record.specs.declared.whole.Bench.{Bench}
use Rattle.seats.specs.declared.opening.CallType.TheVariants.{Idle, RxOnly, TxRx, Coupling}
use Rattle.seats.specs.declared.opening.Request.{Request}
use Rattle.demands.specs.ExactAll.{open_order, close_order, report_order, tick_order, totals_order, writers_order, put_order}

pub record Limits : Type 0 where
  pub of_open : (b : Bench) (n : ℕ) (r : Request) → length b.seats ≡ 8 → TurnedAway (OpenBarred b n r) open_order (keeping b (opening n r)).answer
  -- "The answer is its own ptt-id: the seat number for TxRx and Coupling, else 0."
  pub own_number : (b : Bench) (n : ℕ) (r : Request) (id : ℕ) → (keeping b (opening n r)).answer ≡ accepted (own id) → (r.call ≡ TxRx) ⊎ (r.call ≡ Coupling) → id ≡ n
  pub own_none : (b : Bench) (n : ℕ) (r : Request) (id : ℕ) → (keeping b (opening n r)).answer ≡ accepted (own id) → (r.call ≡ Idle) ⊎ (r.call ≡ RxOnly) → id ≡ 0
  pub of_close : (b : Bench) (n : ℕ) → TurnedAway (SeatBarred b n) close_order (keeping b (closing n)).answer
  pub of_totals : (b : Bench) (n : ℕ) → TurnedAway (SeatBarred b n) totals_order (keeping b (totals n)).answer
  pub of_report : (b : Bench) (n timestamp : ℕ) (sound : List ℕ) (room : ℕ)
      → TurnedAway (ReportBarred b n sound room) report_order (keeping b (report n timestamp sound room)).answer
  pub of_tick : (b : Bench) (ms timestamp room : ℕ) → TurnedAway (TickBarred ms room) tick_order (keeping b (tick ms timestamp room)).answer
  -- "closed by silence (cause 2001)"
  pub by_silence : silence_cause ≡ 2001
  -- "the other events are never refused"
  pub of_received : (b : Bench) (signals : ℕ) (level : ℤ) → (keeping b (received signals level)).answer ≡ accepted done
  pub of_transmitter : (b : Bench) (healthy : Bool) → (keeping b (transmitter healthy)).answer ≡ accepted done
  pub of_writers : (ext : ℕ) (m : Message) (sound : List ℕ) (room : ℕ) → TurnedAway (WriterBarred m sound room) writers_order (write ext m sound room)
  -- and the writer of reports, below 27: 26 alone
  pub of_put : (ext : ℕ) (m : Message) (sound : List ℕ) (room : ℕ) → TurnedAway (WriterBarred m sound room) put_order (put ext m sound room)
