-- Second witness of `seats`, `hearing`: 01, Silence, from the calls themselves: which seats are open, which a tick closes and which are
-- due. Neither the times that a seat keeps nor the definitions of crate `seats` are cited.
use Rattle.std.specs.Prelude.{ℕ, ◌+◌, ◌*◌, ◌%◌, ◌≤◌, ◌<◌, ◌≡◌, Bool, true, false, cond, List, [], ◌∷◌, ◌↔◌, leb, eqb, length}
use Rattle.packet.specs.Refusals.{accepted}
use Rattle.record.specs.Record.{entry_of, seat_of, fresh_bench}
use Rattle.seats.specs.InWords.{AsAsked, JustOpened}
use Rattle.bench.specs.Step.{Call, opening, closing, packet, tick, report, received, transmitter, side, totals, own, ticked, keeping, after, accepted_calls}
use Rattle.record.specs.declared.setup.Setup.{Setup}
use Rattle.record.specs.declared.whole.Bench.{Bench}
use Rattle.seats.specs.declared.opening.CallType.TheVariants.{Idle}
use Rattle.seats.specs.declared.opening.Request.{Request}

-- What a listener would note of a seat: whether it is open, what it was opened with, the ms ticked since opening or its last accepted packet
-- (quiet), and those since opening (age).
pub record Clock : Type 0 where
  pub runs : Bool
  pub asked : Request
  pub quiet : ℕ
  pub age : ℕ

abbrev pub stopped : Clock
stopped = record { runs = false; asked = record { call = Idle; period = 0; multiplier = 0; ssrc = 0; sequence = 0 }; quiet = 0; age = 0 }

abbrev pub started : Request → Clock
started r = record { runs = true; asked = r; quiet = 0; age = 0 }

abbrev pub clock_with : Clock → (quiet age : ℕ) → Clock
clock_with k quiet age = record { runs = k.runs; asked = k.asked; quiet = quiet; age = age }

-- "period times multiplier ms"
abbrev pub lasts : Clock → ℕ
lasts k = k.asked.period * k.asked.multiplier

-- One accepted call further. "Opening and each accepted packet set a seat's time left to period times multiplier ms. A tick takes its ms
-- from that; the seat is closed if nothing is left."
abbrev pub clock_after : (n : ℕ) → Clock → Call → Clock
clock_after n k (opening m r) = cond (eqb n m) (started r) k
clock_after n k (closing m) = cond (eqb n m) stopped k
clock_after n k (packet m p) = cond (eqb n m) (clock_with k 0 k.age) k
clock_after n k (tick ms timestamp room) = cond (leb (lasts k) (k.quiet + ms)) stopped (clock_with k (k.quiet + ms) (k.age + ms))
clock_after n k (report m timestamp sound room) = k
clock_after n k (received signals level) = k
clock_after n k (transmitter healthy) = k
clock_after n k (side standby) = k
clock_after n k (totals m) = k

unfoldable pub clock_through : (n : ℕ) → Clock → List Call → Clock
clock_through n k [] = k
clock_through n k (c ∷ cs) = clock_through n (clock_after n k c) cs

abbrev pub clock_of : (n : ℕ) → Setup → (run : List Call) → Clock
clock_of n setup run = clock_through n stopped (accepted_calls keeping (fresh_bench setup) run)

-- What a tick tells of a seat with that clock.
pub record TickTells (k : Clock) (ms : ℕ) (closed due : Bool) : Type 0 where
  pub closes : (closed ≡ true) ↔ ((k.runs ≡ true) × (lasts k ≤ k.quiet + ms))
  -- "A seat is due when its period, counted from opening, runs out; several in one tick count once and the phase is kept. A closed seat
  -- isn't due."
  pub is_due_lem : (due ≡ true) ↔ ((k.runs ≡ true) × (k.quiet + ms < lasts k) × (k.asked.period ≤ k.age % k.asked.period + ms))

pub record SilenceAndDue : Type 0 where
  -- "A seat just opened has heard nothing"
  pub just_opened : (b : Bench) (n : ℕ) (r : Request) (id : ℕ) → length b.seats ≡ 8 → (keeping b (opening n r)).answer ≡ accepted (own id)
      → JustOpened r (seat_of (keeping b (opening n r)).bench.seats n)
  -- and keeps what it was opened with, as long as it is open
  pub as_asked : (setup : Setup) (run : List Call) (n : ℕ) → let k = clock_of n setup run in k.runs ≡ true → AsAsked k.asked (seat_of (after keeping (fresh_bench setup) run).seats n)
  pub which_open : (setup : Setup) (run : List Call) (n : ℕ) → (seat_of (after keeping (fresh_bench setup) run).seats n).opened ≡ (clock_of n setup run).runs
  pub tick_tells : (setup : Setup) (run : List Call) (ms timestamp room : ℕ) (closed due : List Bool) (records : List (List ℕ))
      → (keeping (after keeping (fresh_bench setup) run) (tick ms timestamp room)).answer ≡ accepted (ticked closed due records)
      → (n : ℕ) → TickTells (clock_of n setup run) ms (entry_of false closed n) (entry_of false due n)
