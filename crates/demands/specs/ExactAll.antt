-- Demand 1: "Each refusal comes in exactly the case document 01 gives for it". The readers, the writers and every call under one
-- theorem, in 01's orders; and each of the 27 numbers, and 02's 33, has its place in them.
use Rattle.std.specs.Prelude.{ℕ, zero, suc, ◌+◌, ◌-◌, ◌≡◌, Bool, true, List, [], ◌∷◌, ◌++◌, map, ℤ, length, replicate}
use Rattle.packet.specs.Refusals.{Case, refused}
use Rattle.reader.specs.Reading.{reader_refusals}
use Rattle.writer.specs.Writing.{writer_refusals, write, buffered, put_refusals, put, after_put}
use Rattle.packet.specs.declared.message.Direction.{Direction}
use Rattle.packet.specs.declared.message.Message.{Message}
use Rattle.air.specs.Air.{among}
use Rattle.bench.specs.Step.{opening, closing, packet, tick, report, received, transmitter, side, totals}
use Rattle.record.specs.declared.whole.Bench.{Bench}
use Rattle.seats.specs.declared.opening.Request.{Request}
use Rattle.demands.specs.Exact.{Exact, ReadersExact}
use Rattle.demands.specs.ExactCalls.{refusals_of, CallsExact}

-- The writers, for every extension type, message, audio and room.
pub record WritersExact : Type 0 where
  pub of_either : (ext : ℕ) (m : Message) (sound : List ℕ) (room : ℕ) → Exact (writer_refusals ext m sound room) (write ext m sound room)
  pub of_put : (ext : ℕ) (m : Message) (sound : List ℕ) (room : ℕ) → Exact (put_refusals ext m sound room) (put ext m sound room)
  -- "State and buffers stay the same."
  pub refused_writes_nothing : (ext : ℕ) (m : Message) (sound buffer : List ℕ) (n cause : ℕ)
      → write ext m sound (length buffer) ≡ refused n cause → buffered ext m sound buffer ≡ buffer
  pub refused_puts_nothing : (ext : ℕ) (m : Message) (sound buffer : List ℕ) (n cause : ℕ)
      → put ext m sound (length buffer) ≡ refused n cause → after_put ext m sound buffer ≡ buffer

abbrev pub counted : (first many : ℕ) → List ℕ
counted first zero = []
counted first (suc many) = first ∷ counted (first + 1) many

infix 68 ◌to◌
abbrev pub ◌to◌ : ℕ → ℕ → List ℕ
first to last = counted first (last + 1 - first)

-- "Orders: readers 1 to 12."
abbrev pub readers_order : List ℕ
readers_order = 1 to 12

-- "Packet 13, 14, 1 to 12, 19 to 23." 02, request 14: "33, after 23"
abbrev pub packet_order : List ℕ
packet_order = 13 ∷ 14 ∷ 1 to 12 ++ 19 to 23 ++ 33 ∷ []

-- "Open 13, 15 to 18."
abbrev pub open_order : List ℕ
open_order = 13 ∷ 15 to 18

-- "Close 13, 14."
abbrev pub close_order : List ℕ
close_order = 13 ∷ 14 ∷ []

-- "Report 13, 14, 25, 26."
abbrev pub report_order : List ℕ
report_order = 13 ∷ 14 ∷ 25 ∷ 26 ∷ []

-- 02, request 6: "Refusals: 24, then 26"
abbrev pub tick_order : List ℕ
tick_order = 24 ∷ 26 ∷ []

-- "Side event 23; the other events are never refused."
abbrev pub side_order : List ℕ
side_order = 23 ∷ []

-- Totals of a seat, as closing: 13, 14.
abbrev pub totals_order : List ℕ
totals_order = 13 ∷ 14 ∷ []

-- "Writers 27, 26."
abbrev pub writers_order : List ℕ
writers_order = 27 ∷ 26 ∷ []

-- The writer of reports, below 27.
abbrev pub put_order : List ℕ
put_order = 26 ∷ []

abbrev pub numbers : List Case → List ℕ
numbers cases = map (λ c. c.number) cases

-- on every bench and for every packet, request and buffer
pub record Orders : Type 0 where
  pub of_readers : (d : Direction) (ext : ℕ) (p : List ℕ) → numbers (reader_refusals d ext p) ≡ readers_order
  pub of_packet : (b : Bench) (n : ℕ) (p : List ℕ) → numbers (refusals_of b (packet n p)) ≡ packet_order
  pub of_open : (b : Bench) (n : ℕ) (r : Request) → numbers (refusals_of b (opening n r)) ≡ open_order
  pub of_close : (b : Bench) (n : ℕ) → numbers (refusals_of b (closing n)) ≡ close_order
  pub of_report : (b : Bench) (n timestamp : ℕ) (sound : List ℕ) (room : ℕ) → numbers (refusals_of b (report n timestamp sound room)) ≡ report_order
  pub of_tick : (b : Bench) (ms timestamp room : ℕ) → numbers (refusals_of b (tick ms timestamp room)) ≡ tick_order
  pub of_side : (b : Bench) (standby : Bool) → numbers (refusals_of b (side standby)) ≡ side_order
  pub of_totals : (b : Bench) (n : ℕ) → numbers (refusals_of b (totals n)) ≡ totals_order
  pub of_received : (b : Bench) (signals : ℕ) (level : ℤ) → numbers (refusals_of b (received signals level)) ≡ []
  pub of_transmitter : (b : Bench) (healthy : Bool) → numbers (refusals_of b (transmitter healthy)) ≡ []
  pub of_writers : (ext : ℕ) (m : Message) (sound : List ℕ) (room : ℕ) → numbers (writer_refusals ext m sound room) ≡ writers_order
  pub of_put : (ext : ℕ) (m : Message) (sound : List ℕ) (room : ℕ) → numbers (put_refusals ext m sound room) ≡ put_order

pub record AllExact : Type 0 where
  pub readers : ReadersExact
  pub writers : WritersExact
  pub calls : CallsExact
  pub orders : Orders
  -- each number of 01's table stands in one of them, and each of 02's so far
  pub covered : map (among (packet_order ++ open_order ++ tick_order ++ report_order ++ writers_order)) (1 to 27 ++ 33 ∷ []) ≡ replicate 28 true
