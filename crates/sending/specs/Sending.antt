-- 02, request 6: "One call for a tick and its reports. .. the call takes elapsed ms, a timestamp and a send buffer, and writes the R2S
-- report of each due seat, lowest seat first, each behind its two-byte length as in RFC 4571."
use Rattle.std.specs.Prelude.{ℕ, suc, Bool, false, cond, ◌&&◌, ◌||◌, List, [], ◌∷◌, ◌++◌, ltb, length, replicate}
use Rattle.packet.specs.Refusals.{Case, ◌if◌, Answer, accepted, refused, judged}
use Rattle.framing.specs.Framing.{framed}
use Rattle.writer.specs.Writing.{filled}
use Rattle.record.specs.Record.{with_sequences}
use Rattle.air.specs.Air.{aired}
use Rattle.seats.specs.Ticking.{falls_silent, is_due, ticked_seat, silent_seats, due_seats, ticked_bench}
use Rattle.reporting.specs.Reporting.{report_bytes, next_sequence}
use Rattle.record.specs.declared.seat.Seat.{Seat}
use Rattle.record.specs.declared.whole.Bench.{Bench}
use Rattle.sending.specs.declared.sending.SeatSets.{SeatSets}

-- 01: "24 | elapsed above 1000"
abbrev pub longest_tick : ℕ
longest_tick = 1000

abbrev pub too_long : (ms : ℕ) → Bool
too_long ms = ltb longest_tick ms

-- Eight reports of 24 bytes, each behind two.
abbrev pub most_sent : ℕ
most_sent = 208

-- "Refusals: 24, then 26 exactly if the buffer is under 208 bytes, so that room never depends on who is due."
unfoldable pub tick_refusals : (ms room : ℕ) → List Case
tick_refusals ms room = 24 if too_long ms ∷ 26 if ltb room most_sent ∷ []

-- "Reports show the bench after the tick's closings": this one bench, with its air made right.
abbrev pub after_closings : Bench → (ms : ℕ) → Bench
after_closings b ms = aired (ticked_bench b ms)

-- What is sent to a seat, its record: the report without audio (R2S), and empty if it is not due.
abbrev pub record_for : (shown : Bench) → (timestamp n : ℕ) → (due : Bool) → List ℕ
record_for shown timestamp n due = cond due (report_bytes shown n timestamp []) []

-- One record a seat, from seat n on.
unfoldable pub records_from : (shown : Bench) → (timestamp n : ℕ) → (due : List Bool) → List (List ℕ)
records_from shown timestamp n [] = []
records_from shown timestamp n (d ∷ ds) = record_for shown timestamp n d ∷ records_from shown timestamp (suc n) ds

unfoldable pub records : Bench → (ms timestamp : ℕ) → List (List ℕ)
records b ms timestamp = records_from (after_closings b ms) timestamp 1 (due_seats b ms)

-- ".. lowest seat first, each behind its two-byte length as in RFC 4571": nothing where there is no report.
abbrev pub sent_as : List ℕ → List ℕ
sent_as [] = []
sent_as (x ∷ report) = framed (x ∷ report)

unfoldable pub in_order : List (List ℕ) → List ℕ
in_order [] = []
in_order (r ∷ rs) = sent_as r ++ in_order rs

unfoldable pub sent_bytes : Bench → (ms timestamp : ℕ) → List ℕ
sent_bytes b ms timestamp = in_order (records b ms timestamp)

-- 01: "Its sequence goes up by one, wrapping, with each report written." So for each seat that has one.
unfoldable pub one_further : (reported : List Bool) → (sequences : List ℕ) → List ℕ
one_further [] qs = qs
one_further (r ∷ rs) [] = []
one_further (r ∷ rs) (q ∷ qs) = cond r (next_sequence q) q ∷ one_further rs qs

abbrev pub reported_to : (seats : List Bool) → Bench → Bench
reported_to seats b = with_sequences b (one_further seats b.sequences)

-- The bench after the call, but for its air.
unfoldable pub sent_bench : Bench → (ms : ℕ) → Bench
sent_bench b ms = reported_to (due_seats b ms) (ticked_bench b ms)

-- "It answers the closed seats, the due seats and the bytes used; bytes past those stay." Refused, it names no seat.
unfoldable pub tick_said : Bench → (ms timestamp room : ℕ) → Answer ℕ
tick_said b ms timestamp room = judged (tick_refusals ms room) (length (sent_bytes b ms timestamp))

abbrev pub no_seats : SeatSets
no_seats = record { closed = replicate 8 false; due = replicate 8 false }

abbrev pub named_in : Answer ℕ → (named : SeatSets) → SeatSets
named_in (accepted used) named = named
named_in (refused n c) named = no_seats

unfoldable pub tick_sets : Bench → (ms timestamp room : ℕ) → SeatSets
tick_sets b ms timestamp room = named_in (tick_said b ms timestamp room) (record { closed = silent_seats b ms; due = due_seats b ms })

unfoldable pub tick_buffer : Bench → (ms timestamp : ℕ) → (buffer : List ℕ) → List ℕ
tick_buffer b ms timestamp buffer = filled (tick_said b ms timestamp (length buffer)) (sent_bytes b ms timestamp) buffer

-- "Request 4 then holds for all but the report sequence numbers, which may run further after two ticks": those of the seats that were due
-- in the first, and due or closed in the second.
abbrev pub runs_further : (first second : ℕ) → Seat → Bool
runs_further first second s = is_due first s && (is_due second (ticked_seat first s) || falls_silent second (ticked_seat first s))
