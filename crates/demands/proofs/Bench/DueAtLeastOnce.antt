-- While a seat stays open and is not due, its phase and the time that passes stay below its period.
use Prim.Native.Nat.{ℕ, ◌+◌, ◌≤◌, ◌<◌}
use mathlib.Core.Path.{◌≡◌, refl, sym, ap, subst, ◌∙◌}
use mathlib.Core.Bool.{Bool, true, false, cond, false≢true}
use mathlib.Core.List.{List, [], ◌∷◌}
use native.Mathlib.Omega.{arith}
use native.Mathlib.Nat.{add-zero}
use lib.Dec.{eqb}
use lib.ListN.{length}
use Rattle.base.proofs.Truths.{or_left, or_right}
use Rattle.packet.specs.Refusals.{NoCase, Answer, accepted, refused}
use Rattle.record.specs.Record.{closed_seat, opened_seat, seat_of, fresh_bench}
use Rattle.record.proofs.Seats.{seat_of_eight_closed}
use Rattle.seats.specs.Opening.{call_code}
use Rattle.seats.specs.Ticking.{is_due, ticked_seat}
use Rattle.seats.proofs.Accepted.{open_accepted}
use Rattle.seats.proofs.TickingLaws.{ticked_cases}
use Rattle.seats.proofs.TwoTicks.{phase_goes_on}
use Rattle.hearing.specs.Hearing.{heard_seat, message_in}
use Rattle.bench.specs.Step.{Call, opening, closing, packet, tick, report, received, transmitter, side, totals, Said, keeping, after, was_accepted, accepted_calls}
use Rattle.bench.proofs.Keeping.{refused_keeps}
use Rattle.record.specs.declared.setup.Setup.{Setup}
use Rattle.record.specs.declared.seat.Seat.{Seat}
use Rattle.record.specs.declared.whole.Bench.{Bench}
use Rattle.demands.specs.ExactCalls.{refusals_of}
use Rattle.demands.specs.SeatAfter.{seat_after}
use Rattle.demands.specs.DueAtLeastOnce.{IsOpen, StaysOpen, elapsed, summed, names_due, ever_due, DueAtLeastOnce}
use Rattle.demands.proofs.Demand1.Calls.{said_by, was_accepted_lem, after_call}
use Rattle.demands.proofs.Bench.Runs.{after_run}
use Rattle.demands.proofs.Bench.SeatAfter.{as_many_seats, seat_made, seat_after_lem, eight_seats}
use Rattle.demands.proofs.Bench.KeptSeats.{phase_after_below}
use Rattle.demands.proofs.Bench.TicksAddUp.{due_flag}

-- ---- one seat

-- t is s when ms more have passed, and its period has not run out
record Waits (ms : ℕ) (s t : Seat) : Type 0 where
  below : s.phase + ms < s.period
  phase : t.phase ≡ s.phase + ms
  period : t.period ≡ s.period

stands : (s : Seat) → s.phase < s.period → Waits 0 s s
stands s below = record { below = omega arith; phase = sym (add-zero s.phase); period = refl }

-- a tick that leaves it open and finds it not due
ticked_waits : (ms : ℕ) (s : Seat) → s.opened ≡ true → (ticked_seat ms s).opened ≡ true → is_due ms s ≡ false → Waits ms s (ticked_seat ms s)
unfolding ticked_seat is_due
ticked_waits ms s is_open up not_due = grind (arith, phase_goes_on)

-- ---- one call

module _ (n : ℕ) (b : Bench) (eight : length b.seats ≡ 8) (below : (seat_of b.seats n).phase < (seat_of b.seats n).period) (is_open : IsOpen n b) where
  abbrev s : Seat
  s = seat_of b.seats n

  -- the seat that a call names, or another
  named : (m : ℕ) (next : Seat) → (n ≡ m → Waits 0 s next) → Waits 0 s (cond (eqb n m) next s)
  named m next its = grind arith

  waits_accepted : (c : Call) → NoCase (refusals_of b c) → (seat_after c n s).opened ≡ true → names_due n (accepted (said_by b c)) ≡ false
      → Waits (elapsed c) s (seat_after c n s)
  waits_accepted (opening m r) none up not_due = named m _ (λ e. absurd (false≢true (sym (was_closed e) ∙ is_open)))
    where
      was_closed : n ≡ m → s.opened ≡ false
      was_closed e = subst (λ (k : ℕ). (seat_of b.seats k).opened ≡ false) (sym e) (open_accepted b.setup m b.seats r none).was_closed
  waits_accepted (closing m) none up not_due = by_name (eqb n m) up
    where
      by_name : (t : Bool) → (cond t closed_seat s).opened ≡ true → Waits 0 s (cond t closed_seat s)
      by_name true e = absurd (false≢true e)
      by_name false e = stands s below
  waits_accepted (packet m p) none up not_due =
      let old = stands s below in
      named m (heard_seat s (message_in p)) (λ e. unfold heard_seat in record { below = old.below; phase = old.phase; period = old.period })
  waits_accepted (tick ms timestamp room) none up not_due = ticked_waits ms s is_open up (sym (due_flag b ms n) ∙ (unfold names_due in not_due))
  waits_accepted (report m timestamp sound room) none up not_due = stands s below
  waits_accepted (received signals level) none up not_due = stands s below
  waits_accepted (transmitter healthy) none up not_due = stands s below
  waits_accepted (side standby) none up not_due = stands s below
  waits_accepted (totals m) none up not_due = stands s below

  -- a call is accepted, and takes its time, or leaves the bench as it was
  waits_call : (c : Call) → IsOpen n (keeping b c).bench → names_due n (keeping b c).answer ≡ false
      → Waits (cond (was_accepted (keeping b c).answer) (elapsed c) 0) s (seat_of (keeping b c).bench.seats n)
  waits_call c up not_due = by_answer (keeping b c).answer refl
    where
      by_answer : (a : Answer Said) → (keeping b c).answer ≡ a → Waits (cond (was_accepted a) (elapsed c) 0) s (seat_of (keeping b c).bench.seats n)
      by_answer (accepted said) e =
          let was = was_accepted_lem b c said e in
          let seat = seat_after_lem b c eight was.0 n in
          subst (Waits (elapsed c) s) (sym seat)
          (waits_accepted c was.0 (sym (ap (λ (t : Seat). t.opened) seat) ∙ up)
          (ap (λ (t : Said). names_due n (accepted t)) was.1 ∙ sym (ap (names_due n) e) ∙ not_due))
      by_answer (refused k cause) e = subst (λ (x : Bench). Waits 0 s (seat_of x.seats n)) (sym (refused_keeps b c k cause e)) (stands s below)

-- ---- a run

opens : (n : ℕ) (b : Bench) (cs : List Call) → StaysOpen n b cs → IsOpen n b
unfolding StaysOpen
opens n b [] stays = stays
opens n b (c ∷ cs) stays = stays.0

abbrev PhaseBelow : (n : ℕ) → Bench → Type 0
PhaseBelow n b = (seat_of b.seats n).phase < (seat_of b.seats n).period

summed_first : (c : Call) (rest : List Call) (t : Bool) → summed (cond t (c ∷ rest) rest) ≡ cond t (elapsed c) 0 + summed rest
unfolding summed
summed_first c rest t = grind arith

waiting : (n : ℕ) (cs : List Call) (b : Bench) → length b.seats ≡ 8 → PhaseBelow n b → StaysOpen n b cs → ever_due n b cs ≡ false
    → (seat_of b.seats n).phase + summed (accepted_calls keeping b cs) < (seat_of b.seats n).period
unfolding StaysOpen ever_due accepted_calls
waiting n [] b eight below stays none_due = unfold summed in omega arith
waiting n (c ∷ cs) b eight below stays none_due =
    let next = (keeping b c).bench in
    let rest = accepted_calls keeping next cs in
    let now-due = names_due n (keeping b c).answer in
    let ms = cond (was_accepted (keeping b c).answer) (elapsed c) 0 in
    let waits = waits_call n b eight below stays.0 c (opens n next cs stays.1) (or_left now-due (ever_due n next cs) none_due) in
    let goes_on : (seat_of b.seats n).phase + ms < (seat_of b.seats n).period = waits.below in
    let phase : (seat_of next.seats n).phase ≡ (seat_of b.seats n).phase + ms = waits.phase in
    let period : (seat_of next.seats n).period ≡ (seat_of b.seats n).period = waits.period in
    let later : (seat_of next.seats n).phase + summed rest < (seat_of next.seats n).period
    = waiting n cs next (eight_seats b c ∙ eight) (omega arith) stays.1 (or_right now-due (ever_due n next cs) none_due) in
    rw (summed_first c rest (was_accepted (keeping b c).answer)) (omega arith)

from_any : (b : Bench) (cs : List Call) (n : ℕ) → length b.seats ≡ 8 → PhaseBelow n b → StaysOpen n b cs
    → (seat_of b.seats n).period ≤ summed (accepted_calls keeping b cs) → ever_due n b cs ≡ true
from_any b cs n eight below stays enough = grind (arith, waiting)

-- ---- the benches that calls lead to

-- an open seat has a phase below its period
abbrev Timely : Seat → Type 0
Timely s = s.opened ≡ true → s.phase < s.period

record InTime (b : Bench) : Type 0 where
  eight : length b.seats ≡ 8
  timely : (n : ℕ) → Timely (seat_of b.seats n)

timely_closed : Timely closed_seat
timely_closed up = absurd (false≢true up)

module _ (b : Bench) (n : ℕ) (old : Timely (seat_of b.seats n)) where
  timely_made : (c : Call) → NoCase (refusals_of b c) → Timely (seat_after c n (seat_of b.seats n))
  timely_made (opening m r) none = by_name (eqb n m)
    where
      by_name : (t : Bool) → Timely (cond t (opened_seat (call_code r.call) r.period r.multiplier r.ssrc) (seat_of b.seats n))
      by_name true = unfold opened_seat in λ up. omega (arith, (open_accepted b.setup m b.seats r none).period_least)
      by_name false = old
  timely_made (closing m) none = by_name (eqb n m)
    where
      by_name : (t : Bool) → Timely (cond t closed_seat (seat_of b.seats n))
      by_name true = timely_closed
      by_name false = old
  timely_made (packet m p) none = by_name (eqb n m)
    where
      by_name : (t : Bool) → Timely (cond t (heard_seat (seat_of b.seats n) (message_in p)) (seat_of b.seats n))
      by_name true = unfold heard_seat in old
      by_name false = old
  timely_made (tick ms timestamp room) none =
      let s = seat_of b.seats n in
      ticked_cases Timely ms s timely_closed (λ is_open younger up. phase_after_below ms s.period s.phase (omega (arith, old is_open))) old
  timely_made (report m timestamp sound room) none = old
  timely_made (received signals level) none = old
  timely_made (transmitter healthy) none = old
  timely_made (side standby) none = old
  timely_made (totals m) none = old

in_time_call : (b : Bench) (c : Call) → InTime b → InTime (keeping b c).bench
in_time_call b c old =
    after_call InTime b c old
    (λ none. record {
      eight = as_many_seats b c ∙ old.eight;
      timely = λ n. subst Timely (sym (seat_made b c old.eight none n)) (timely_made b n (old.timely n) c none);
    })

in_time_fresh : (setup : Setup) → InTime (fresh_bench setup)
unfolding fresh_bench
in_time_fresh setup = record { eight = refl; timely = λ n. subst Timely (sym (seat_of_eight_closed n)) timely_closed }

pub due_at_least_once : DueAtLeastOnce
due_at_least_once =
    record {
      in_every_run = λ setup before cs n stays enough.
          let b = after keeping (fresh_bench setup) before in
          let reached = after_run InTime in_time_call (fresh_bench setup) before (in_time_fresh setup) in
          from_any b cs n reached.eight (reached.timely n (opens n b cs stays)) stays enough;
      from_any = from_any;
    }
