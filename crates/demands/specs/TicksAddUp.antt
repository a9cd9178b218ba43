-- 02, request 4: "The timer card sometimes merges two ticks. Prove it does no harm: for a + b at most 1000, ticking a then b leaves
-- the same bench as ticking a + b. The closed seats are the same taken together, and so are the due seats among those still open.
-- A tick of 0 changes nothing. A seat that was due in the first and closed in the second is the one difference; say so." And request 6:
-- "Request 4 then holds for all but the report sequence numbers, which may run further after two ticks."
use Rattle.std.specs.Prelude.{ℕ, ◌+◌, ◌≤◌, ◌<◌, ◌≡◌, Bool, true, false, not, ◌&&◌, ◌||◌, List, [], ◌∷◌, map, ◌↔◌, length, replicate}
use Rattle.packet.specs.Refusals.{NoCase, accepted}
use Rattle.record.specs.Record.{entry_of, seat_of, with_sequences}
use Rattle.seats.specs.Ticking.{silent_seats, due_seats}
use Rattle.sending.specs.Sending.{most_sent, tick_refusals, records, reported_to, no_seats, tick_buffer, runs_further}
use Rattle.bench.specs.Step.{Call, tick, ticked, keeping, after}
use Rattle.record.specs.declared.whole.Bench.{Bench}
use Rattle.demands.specs.Kept.{Kept}
use Rattle.demands.specs.AirKept.{AirRight}

-- A tick as it is called; and ticks of which none is refused, which no bench decides.
pub record Tick : Type 0 where
  pub ms : ℕ
  pub timestamp : ℕ
  pub room : ℕ

abbrev pub called : Tick → Call
called t = tick t.ms t.timestamp t.room

abbrev pub NotRefused : Tick → Type 0
NotRefused t = NoCase (tick_refusals t.ms t.room)

abbrev pub NoneRefused : List Tick → Type 0
NoneRefused [] = Unit {0}
NoneRefused (t ∷ ts) = NotRefused t × NoneRefused ts

-- What is told of one seat, by the first tick (₁), by the second (₂) and by the merged one; and whether it is open afterwards.
pub record ToldAlike (closed₁ closed₂ closed due₁ due₂ due isOpen : Bool) : Type 0 where
  -- "The closed seats are the same taken together, and so are the due seats among those still open."
  pub together : closed₁ || closed₂ ≡ closed
  pub among_open : isOpen ≡ true → due₁ || due₂ ≡ due
  -- The one difference: due in one of the two and not in the merged one, exactly if due in the first and closed in the second;
  -- and none is due in the merged one alone.
  pub one_difference : (due₁ || due₂) && not due ≡ due₁ && closed₂
  pub none_alone : due && not (due₁ || due₂) ≡ false

-- Is seat n in the set? (A tick answers sets of seats as flags, seat 1 first.)
unfoldable pub is_in : (set : List Bool) (n : ℕ) → Bool
is_in set n = entry_of false set n

-- Two ticks, and the merged one: the same bench in every field but the report sequence numbers, of which those that run further
-- (runs_further) are one further, as if one report more had been written; and the same told but for the one difference.
pub record MayMerge (b : Bench) (first second merged : Tick) : Type 0 where
  pub bench : after keeping b (called first ∷ called second ∷ [])
      ≡ reported_to (map (runs_further first.ms second.ms) b.seats) (after keeping b (called merged ∷ []))
  pub seats : (n : ℕ) →
      let then = after keeping b (called first ∷ []) in
      ToldAlike (is_in (silent_seats b first.ms) n) (is_in (silent_seats then second.ms) n) (is_in (silent_seats b merged.ms) n)
      (is_in (due_seats b first.ms) n) (is_in (due_seats then second.ms) n) (is_in (due_seats b merged.ms) n)
      (seat_of (after keeping b (called merged ∷ [])).seats n).opened

unfoldable pub time : List Tick → ℕ
time [] = 0
time (t ∷ more) = t.ms + time more

abbrev pub but_numbers : Bench → Bench
but_numbers b = with_sequences b []

-- Nobody is named, nothing is sent, and the bench is as it was, its numbers too.
pub record ZeroChangesNothing (b : Bench) (timestamp : ℕ) (buffer : List ℕ) : Type 0 where
  pub outcome : keeping b (tick 0 timestamp (length buffer))
      ≡ record { answer = accepted (ticked no_seats.closed no_seats.due (replicate 8 [])); bench = b }
  pub bytes : tick_buffer b 0 timestamp buffer ≡ buffer

pub record TicksAddUp : Type 0 where
  -- Of any bench, whatever it holds: what a tick answers that is not refused, and that two of them may be merged.
  pub tick_names : (b : Bench) (t : Tick) → NotRefused t
      → (keeping b (called t)).answer ≡ accepted (ticked (silent_seats b t.ms) (due_seats b t.ms) (records b t.ms t.timestamp))
  pub two_ticks : (b : Bench) (first second merged : Tick) → NoneRefused (first ∷ second ∷ merged ∷ [])
      → first.ms + second.ms ≡ merged.ms → MayMerge b first second merged
  -- Runs of ticks that take the same time, each of some ticks and none refused, leave the same bench but for those numbers: merge at will.
  pub same_time : (b : Bench) (x y : Tick) (xs ys : List Tick) → NoneRefused (x ∷ xs) → NoneRefused (y ∷ ys)
      → time (x ∷ xs) ≡ time (y ∷ ys) → but_numbers (after keeping b (map called (x ∷ xs))) ≡ but_numbers (after keeping b (map called (y ∷ ys)))
  -- Of every bench that calls lead to (Kept, AirKept). Of any other, with eight seats, exactly if the air in the record is right and each
  -- open seat has time left and a phase below its period.
  pub zero : (b : Bench) → Kept b → AirRight b → (timestamp : ℕ) (buffer : List ℕ) → most_sent ≤ length buffer → ZeroChangesNothing b timestamp buffer
  pub zero_exactly : (b : Bench) → length b.seats ≡ 8 → (timestamp : ℕ) (buffer : List ℕ) → most_sent ≤ length buffer
      → ZeroChangesNothing b timestamp buffer
      ↔ (AirRight b × ((n : ℕ) → let s = seat_of b.seats n in s.opened ≡ true → (1 ≤ s.left) × (s.phase < s.period)))
