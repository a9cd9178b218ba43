-- 01: "Try these against the promises: a bench that refuses everything, one that reports the same bytes always, one that
-- ignores every call, one that handles the first packet and then only nods, one that invents the missing count. Several
-- would satisfy demand 3 taken alone, so it is stated over demand 2's definitions. Demand 2 shuts out each: refusals are
-- exact, reports follow the history, every call moves the state, and missing is distance minus 1."
use Rattle.std.specs.Prelude.{ℕ, ◌≡◌, Bool, true, false, cond, List, [], ◌∷◌, map}
use Rattle.packet.specs.Packet.{off, normal}
use Rattle.packet.specs.Refusals.{Answer, accepted, refused, mapped}
use Rattle.record.specs.Record.{seat_of, fresh_bench}
use Rattle.bench.specs.Step.{Call, opening, closing, packet, tick, report, received, transmitter, side, totals, Said, done, own, heard, ticked, written, totalled, Outcome, Machine, keeping, after}
use Rattle.record.specs.declared.setup.Setup.{Setup}
use Rattle.record.specs.declared.whole.Bench.{Bench}
use Rattle.demands.specs.Apart.{without_lessons, ptt_of, Apart}
use Rattle.demands.specs.LessonsSeen.{lab, enters, keys, asked, quiet_report, sounds, silent, answer}

-- "For every input each public function's promise leaves one possible answer, one next state": those of keeping.
abbrev pub Obeys : Machine → Type 0
Obeys machine = (b : Bench) (c : Call) → machine b c ≡ keeping b c

-- The same of one call after a run: the promise on the answer, and the promise on the next state.
abbrev pub lab_after : List Call → Bench
lab_after run = after keeping (fresh_bench lab) run

abbrev pub Answers : Machine → List Call → Call → Type 0
Answers machine run c = (machine (lab_after run) c).answer ≡ answer run c

abbrev pub Leaves : Machine → List Call → Call → Type 0
Leaves machine run c = (machine (lab_after run) c).bench ≡ (keeping (lab_after run) c).bench

-- The five, whatever numbers, bytes, answers or count they take; each else as right as it can be.
pub data WrongBench : Type 0 where
  refusing : (number cause : Bench → Call → ℕ) → WrongBench
  repeating : (bytes : List ℕ) → WrongBench
  ignoring : (says : Bench → Call → Answer Said) → WrongBench
  nodding : WrongBench
  inventing : (count : ℕ) → WrongBench

abbrev pub with_bytes : List ℕ → Said → Said
with_bytes other done = done
with_bytes other (own id) = own id
with_bytes other (heard h sound) = heard h sound
with_bytes other (ticked closed due records) = ticked closed due (map (λ d. cond d other []) due)
with_bytes other (written bytes) = written other
with_bytes other (totalled packets missing) = totalled packets missing

abbrev pub with_count : ℕ → Said → Said
with_count count done = done
with_count count (own id) = own id
with_count count (heard h sound) = heard (record { missing = count; reply = h.reply; standby = h.standby; sent = h.sent }) sound
with_count count (ticked closed due records) = ticked closed due records
with_count count (written bytes) = written bytes
with_count count (totalled packets missing) = totalled packets missing

-- keeping, but for what it says
abbrev pub retold : (Said → Said) → Machine
retold tell b c = record { answer = mapped tell (keeping b c).answer; bench = (keeping b c).bench }

-- a packet that is not its seat's first
abbrev pub is_later : Bench → Call → Bool
is_later b (packet n p) = (seat_of b.seats n).heard.any
is_later b (opening n r) = false
is_later b (closing n) = false
is_later b (tick ms timestamp room) = false
is_later b (report n timestamp sound room) = false
is_later b (received signals level) = false
is_later b (transmitter healthy) = false
is_later b (side standby) = false
is_later b (totals n) = false

-- nothing missing, no reply, no audio, and nothing changes
abbrev pub nod : Bench → Outcome
nod b = record { answer = accepted (heard (record { missing = 0; reply = false; standby = b.standby; sent = false }) []); bench = b }

abbrev pub wrong : WrongBench → Machine
wrong (refusing number cause) b c = record { answer = refused (number b c) (cause b c); bench = b }
wrong (repeating bytes) b c = retold (with_bytes bytes) b c
wrong (ignoring says) b c = record { answer = says b c; bench = b }
wrong nodding b c = cond (is_later b c) (nod b) (keeping b c)
wrong (inventing count) b c = retold (with_count count) b c

-- Demand 3 taken alone, of a machine's own runs.
abbrev pub ApartAlone : Machine → Type 0
ApartAlone machine = (setup : Setup) (xs ys : List Call) → without_lessons setup xs ≡ without_lessons setup ys
    → Apart machine setup (after machine (fresh_bench setup) xs) (after machine (fresh_bench setup) ys)

-- The runs before the calls that are tried.
abbrev pub entered : List Call
entered = enters 1 ∷ []

abbrev pub reported : List Call
reported = enters 1 ∷ asked 1 ∷ []

abbrev pub spoken : List Call
spoken = enters 1 ∷ keys 1 normal 1 ∷ []

-- What is promised of these calls, and what a bench that never changes and one that nods do.
pub record Tried : Type 0 where
  pub opens : answer [] (enters 1) ≡ accepted (own 1)
  pub first_report : answer entered (asked 1) ≡ accepted (written (quiet_report 1))
  pub second_report : answer reported (asked 1) ≡ accepted (written (quiet_report 2))
  pub was_closed : (seat_of (lab_after []).seats 1).opened ≡ false
  pub is_open : (seat_of (keeping (lab_after []) (enters 1)).bench.seats 1).opened ≡ true
  pub releases : ptt_of (keeping (lab_after spoken) (keys 1 off 2)).bench 1 ≡ off
  pub nod_releases_not : ptt_of (wrong nodding (lab_after spoken) (keys 1 off 2)).bench 1 ≡ normal
  pub not_twice : answer spoken (keys 1 normal 1) ≡ refused 20 0
  pub nod_twice : (wrong nodding (lab_after spoken) (keys 1 normal 1)).answer ≡ silent 0 false
  pub none_missing : answer entered (keys 1 normal 1) ≡ sounds 0 true
  pub one_missing : answer spoken (keys 1 normal 3) ≡ sounds 1 false

pub record WrongBenches : Type 0 where
  pub tried : Tried
  -- "refusals are exact": at the start seat 1 may be opened
  pub not_refusing : (number cause : Bench → Call → ℕ) → Answers (wrong (refusing number cause)) [] (enters 1) → ⊥
  -- "reports follow the history": the first report and the second are not the same bytes
  pub not_repeating : (bytes : List ℕ) → Answers (wrong (repeating bytes)) entered (asked 1) → Answers (wrong (repeating bytes)) reported (asked 1) → ⊥
  -- "every call moves the state": a seat opened is open, a keying ended has ended
  pub not_ignoring : (says : Bench → Call → Answer Said) → Leaves (wrong (ignoring says)) [] (enters 1) → ⊥
  pub not_nodding : Leaves (wrong nodding) spoken (keys 1 off 2) → ⊥
  -- and "refusals are exact": the same packet again is refused
  pub not_nodding_twice : Answers (wrong nodding) spoken (keys 1 normal 1) → ⊥
  -- "missing is distance minus 1": none before the first packet, one between 1 and 3
  pub not_inventing : (count : ℕ) → Answers (wrong (inventing count)) entered (keys 1 normal 1) → Answers (wrong (inventing count)) spoken (keys 1 normal 3) → ⊥
  -- "Demand 2 shuts out each"
  pub shut_out : (w : WrongBench) → Obeys (wrong w) → ⊥
  -- "Several would satisfy demand 3 taken alone": each does
  pub apart_alone : (w : WrongBench) → ApartAlone (wrong w)
