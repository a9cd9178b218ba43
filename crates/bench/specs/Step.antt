-- Every call of 01 as one type, with 02's tick and totals, and what each does as one definition: the answer, and the bench after it.
use Rattle.std.specs.Prelude.{ℕ, Bool, true, false, cond, List, [], ◌∷◌, ℤ}
use Rattle.packet.specs.Refusals.{Answer, accepted, refused, mapped}
use Rattle.record.specs.Record.{settled, with_signals, with_health, with_side}
use Rattle.air.specs.Air.{aired}
use Rattle.seats.specs.Opening.{open_said, opened_bench, close_said, closed_bench}
use Rattle.seats.specs.Ticking.{silent_seats, due_seats}
use Rattle.seats.specs.Radio.{side_said}
use Rattle.hearing.specs.Account.{totals_said}
use Rattle.hearing.specs.Hearing.{packet_said, heard_bench, message_in, audio_in}
use Rattle.reporting.specs.Reporting.{report_said, report_bytes, reported_bench}
use Rattle.sending.specs.Sending.{records, sent_bench, tick_said}
use Rattle.record.specs.declared.seat.Totals.{Totals}
use Rattle.record.specs.declared.whole.Bench.{Bench}
use Rattle.seats.specs.declared.opening.Request.{Request}
use Rattle.hearing.specs.declared.hearing.Hearing.{Hearing}

pub data Call : Type 0 where
  opening : (n : ℕ) → Request → Call
  closing : (n : ℕ) → Call
  packet : (n : ℕ) → (bytes : List ℕ) → Call
  tick : (ms timestamp room : ℕ) → Call
  report : (n timestamp : ℕ) → (audio : List ℕ) → (room : ℕ) → Call
  received : (signals : ℕ) → (level : ℤ) → Call
  transmitter : (healthy : Bool) → Call
  side : (standby : Bool) → Call
  totals : (n : ℕ) → Call

-- What a call tells when it is not refused. Of a tick the bytes used are not here: they are those of the records (StepOfCode).
pub data Said : Type 0 where
  done : Said
  own : (id : ℕ) → Said
  heard : Hearing → (audio : List ℕ) → Said
  ticked : (closed due : List Bool) (records : List (List ℕ)) → Said
  written : (bytes : List ℕ) → Said
  totalled : (heard missing : ℕ) → Said

pub record Outcome : Type 0 where
  pub answer : Answer Said
  pub bench : Bench

abbrev pub outcome : {A : Type 0} → Answer A → (A → Said) → (before after : Bench) → Outcome
outcome answer tell before after = record { answer = mapped tell answer; bench = settled answer before after }

-- all of what a packet answers, and its audio
abbrev pub told : (bytes : List ℕ) → Hearing → Said
told p h = heard h (audio_in (accepted h) p)

abbrev pub counts : Totals → Said
counts t = totalled t.heard t.missing

-- What answers calls.
abbrev pub Machine : Type 0
Machine = Bench → Call → Outcome

-- What each call does, where a report reads the bench as `shown` has it, totals leave it as it is, and every other accepted call leaves it
-- as `kept` has it. (A tick's own reports read the bench that it closed seats of, with its air made right, in every machine.)
unfoldable pub does : (shown kept : Bench → Bench) → Machine
does shown kept b (opening n r) = outcome (open_said b n r) own b (kept (opened_bench b n r))
does shown kept b (closing n) = outcome (close_said b n) (λ u. done) b (kept (closed_bench b n))
does shown kept b (packet n p) = outcome (packet_said b n p) (told p) b (kept (heard_bench b n (message_in p)))
does shown kept b (tick ms timestamp room) =
    outcome (tick_said b ms timestamp room) (λ used. ticked (silent_seats b ms) (due_seats b ms) (records b ms timestamp)) b (kept (sent_bench b ms))
does shown kept b (report n timestamp sound room) =
    outcome (report_said (shown b) n timestamp sound room) (λ k. written (report_bytes (shown b) n timestamp sound)) b (reported_bench b n)
does shown kept b (received signals level) = record { answer = accepted done; bench = kept (with_signals b signals level) }
does shown kept b (transmitter healthy) = record { answer = accepted done; bench = kept (with_health b healthy) }
does shown kept b (side standby) = outcome (side_said b) (λ u. done) b (kept (with_side b standby))
does shown kept b (totals n) = outcome (totals_said b n) counts b b

-- The meaning: a report works out afresh who is on the air, and nothing of it is kept. So document 01.
abbrev pub step : Machine
step = does aired (λ b. b)

-- The code: every accepted call but a report and totals leaves the air right in the record, and a report reads it there. 02, request 5: "Keep the
-- on_air seats and the top type in the bench record, right after every call, and let reports read them."
abbrev pub keeping : Machine
keeping = does (λ b. b) aired

-- The bench after a run of calls.
unfoldable pub after : Machine → Bench → List Call → Bench
after machine b [] = b
after machine b (c ∷ cs) = after machine (machine b c).bench cs

-- The accepted calls of a run.
abbrev pub was_accepted : {A : Type 0} → Answer A → Bool
was_accepted (accepted a) = true
was_accepted (refused n c) = false

unfoldable pub accepted_calls : Machine → Bench → List Call → List Call
accepted_calls machine b [] = []
accepted_calls machine b (c ∷ cs) =
    let rest = accepted_calls machine (machine b c).bench cs in
    cond (was_accepted (machine b c).answer) (c ∷ rest) rest
