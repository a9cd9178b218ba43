-- Demand 1: "Each refusal comes in exactly the case document 01 gives for it, and changes neither the bench nor a byte of any buffer."
-- So of every call, on every bench.
use Rattle.std.specs.Prelude.{ℕ, ◌≡◌, List, [], length}
use Rattle.packet.specs.Refusals.{Case, refused}
use Rattle.record.specs.Record.{seat_of}
use Rattle.seats.specs.Opening.{open_refusals, seat_refusals}
use Rattle.seats.specs.Radio.{side_refusals}
use Rattle.hearing.specs.Hearing.{packet_refusals}
use Rattle.reporting.specs.Reporting.{report_refusals, report_buffer}
use Rattle.sending.specs.Sending.{tick_refusals, tick_buffer}
use Rattle.bench.specs.Step.{Call, opening, closing, packet, tick, report, received, transmitter, side, totals, keeping}
use Rattle.record.specs.declared.whole.Bench.{Bench}
use Rattle.demands.specs.Exact.{Exact}

-- "Packet 13, 14, 1 to 12, 19 to 23. Open 13, 15 to 18. Close 13, 14. Report 13, 14, 25, 26. .. Side event 23; the
-- other events are never refused." And 02, of a tick with its reports: "24, then 26"; of a packet: "33, after
-- 23". Totals are refused as closing is.
abbrev pub refusals_of : Bench → Call → List Case
refusals_of b (opening n r) = open_refusals b.setup n b.seats r
refusals_of b (closing n) = seat_refusals n (seat_of b.seats n).opened
refusals_of b (packet n p) = packet_refusals b.setup n (seat_of b.seats n) p
refusals_of b (tick ms timestamp room) = tick_refusals ms room
refusals_of b (report n timestamp sound room) = report_refusals b n timestamp sound room
refusals_of b (received signals level) = []
refusals_of b (transmitter healthy) = []
refusals_of b (side standby) = side_refusals b.setup
refusals_of b (totals n) = seat_refusals n (seat_of b.seats n).opened

pub record CallsExact : Type 0 where
  pub each_call : (b : Bench) (c : Call) → Exact (refusals_of b c) (keeping b c).answer
  -- "State and buffers stay the same."
  pub refused_keeps : (b : Bench) (c : Call) (n cause : ℕ) → (keeping b c).answer ≡ refused n cause → (keeping b c).bench ≡ b
  pub refused_writes_nothing : (b : Bench) (seat timestamp : ℕ) (sound buffer : List ℕ) (n cause : ℕ)
      → (keeping b (report seat timestamp sound (length buffer))).answer ≡ refused n cause → report_buffer b seat timestamp sound buffer ≡ buffer
  pub refused_sends_nothing : (b : Bench) (ms timestamp : ℕ) (buffer : List ℕ) (n cause : ℕ)
      → (keeping b (tick ms timestamp (length buffer))).answer ≡ refused n cause → tick_buffer b ms timestamp buffer ≡ buffer
