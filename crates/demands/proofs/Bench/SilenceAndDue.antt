-- Which seats are open, closed by a tick and due, from the calls themselves.
use Prim.Native.Nat.{ℕ, ◌+◌, ◌*◌, ◌-◌, ◌%◌, ◌≤◌, ◌<◌}
use mathlib.Core.Path.{◌≡◌, refl, sym, ap, subst, ◌∙◌}
use mathlib.Core.Bool.{Bool, true, false, cond, false≢true}
use mathlib.Core.List.{List, [], ◌∷◌}
use mathlib.Core.Logic.{◌↔◌}
use native.Mathlib.Nat.{zero-mod, mod-add-mod}
use native.Mathlib.Omega.{arith}
use lib.Dec.{leb, eqb}
use lib.ListN.{length}
use borrow.Author.Tests.{leb-false, eq-eqb}
use Rattle.base.proofs.Truths.{either_way}
use Rattle.packet.specs.Refusals.{accepted}
use Rattle.record.specs.Record.{closed_seat, opened_seat, entry_of, seat_of, fresh_bench}
use Rattle.record.proofs.Seats.{entry_changed, seat_of_eight_closed}
use Rattle.packet.specs.declared.message.Tx.{Tx}
use Rattle.seats.specs.Opening.{call_code}
use Rattle.seats.specs.Ticking.{nothing_left, falls_silent, is_due, aged, ticked_seat, silent_seats, due_seats}
use Rattle.hearing.specs.Hearing.{heard_seat, message_in}
use Rattle.bench.specs.Step.{Call, opening, closing, packet, tick, report, received, transmitter, side, totals, own, ticked, keeping, after, accepted_calls}
use Rattle.record.specs.declared.setup.Setup.{Setup}
use Rattle.record.specs.declared.seat.Seat.{Seat}
use Rattle.record.specs.declared.whole.Bench.{Bench}
use Rattle.seats.specs.declared.opening.Request.{Request}
use Rattle.demands.specs.SeatAfter.{seat_after, seat_through}
use Rattle.seats.specs.InWords.{AsAsked, JustOpened}
use Rattle.seats.proofs.InWords as opening-in-words
use Rattle.demands.specs.SilenceAndDue.{Clock, stopped, started, clock_with, lasts, clock_after, clock_through, clock_of, TickTells, SilenceAndDue}
use Rattle.demands.proofs.Demand1.Calls.{was_accepted_lem}
use Rattle.demands.proofs.Bench.SeatAfter.{seat_after_lem, seat_story}

-- ---- a seat and its clock

-- what an open seat keeps, against what its clock notes
record Timed (s : Seat) (k : Clock) : Type 0 where
  as_asked : AsAsked k.asked s
  left : s.left + k.quiet ≡ lasts k
  phase : s.phase ≡ cond (eqb k.asked.period 0) 0 (k.age % k.asked.period)

record Times (s : Seat) (k : Clock) : Type 0 where
  runs : s.opened ≡ k.runs
  timed : k.runs ≡ true → Timed s k

shut_times : Times closed_seat stopped
shut_times = record { runs = refl; timed = λ up. absurd (false≢true up) }

further : (period ms phase age : ℕ) → phase ≡ cond (eqb period 0) 0 (age % period)
    → cond (eqb period 0) 0 ((phase + ms) % period) ≡ cond (eqb period 0) 0 ((age + ms) % period)
further period ms phase age e = grind (arith, mod-add-mod)

opened_times : (r : Request) → Times (opened_seat (call_code r.call) r.period r.multiplier r.ssrc) (started r)
unfolding opened_seat
opened_times r =
    record {
      runs = refl;
      timed = λ up. record {
        as_asked = opening-in-words.as_asked r;
        left = nothing_passed (r.period * r.multiplier);
        phase = sym (ap (cond (eqb r.period 0) 0) (zero-mod r.period) ∙ either_way (eqb r.period 0) 0);
      };
    }
  where
    nothing_passed : (k : ℕ) → k + 0 ≡ k
    nothing_passed k = omega arith

heard_times : (s : Seat) (m : Tx) (k : Clock) → Times s k → Times (heard_seat s m) (clock_with k 0 k.age)
unfolding heard_seat
heard_times s m k old = grind arith

-- nothing is left exactly if the quiet lasted for all of it
same_end : (left quiet ms whole : ℕ) → left + quiet ≡ whole → leb left ms ≡ leb whole (quiet + ms)
same_end left quiet ms whole e = grind arith

ticked_times : (ms : ℕ) (s : Seat) (k : Clock) → Times s k → Times (ticked_seat ms s) (cond (leb (lasts k) (k.quiet + ms)) stopped (clock_with k (k.quiet + ms) (k.age + ms)))
unfolding ticked_seat
ticked_times ms s k old = by_tests s.opened (leb (lasts k) (k.quiet + ms)) refl refl
  where
    younger : (left quiet whole : ℕ) → ms < left → left + quiet ≡ whole → left - ms + (quiet + ms) ≡ whole
    younger left quiet whole h e = omega arith

    by_tests : (opened over : Bool) → s.opened ≡ opened → leb (lasts k) (k.quiet + ms) ≡ over
        → Times (cond opened (cond (nothing_left ms s) closed_seat (aged ms s)) s) (cond over stopped (clock_with k (k.quiet + ms) (k.age + ms)))
    by_tests true true e h =
        let t = old.timed (sym old.runs ∙ e) in
        rw (same_end s.left k.quiet ms (lasts k) t.left ∙ h) shut_times
    by_tests true false e h =
        let t = old.timed (sym old.runs ∙ e) in
        let some = same_end s.left k.quiet ms (lasts k) t.left ∙ h in
        rw some (record {
          runs = old.runs;
          timed = λ up. record {
            as_asked = record { call = t.as_asked.call; period = t.as_asked.period; multiplier = t.as_asked.multiplier; ssrc = t.as_asked.ssrc };
            left = younger s.left k.quiet _ (leb-false s.left ms some) t.left;
            phase = ap (λ (q : ℕ). cond (eqb q 0) 0 ((s.phase + ms) % q)) t.as_asked.period ∙ further k.asked.period ms s.phase k.age t.phase;
          };
        })
    by_tests false true e h = record { runs = e; timed = λ up. absurd (false≢true up) }
    by_tests false false e h = record { runs = old.runs; timed = λ up. absurd (false≢true (sym e ∙ old.runs ∙ up)) }

call_times : (c : Call) (n : ℕ) (s : Seat) (k : Clock) → Times s k → Times (seat_after c n s) (clock_after n k c)
call_times (opening m r) n s k old = by_seat (eqb n m)
  where
    by_seat : (t : Bool) → Times (cond t (opened_seat (call_code r.call) r.period r.multiplier r.ssrc) s) (cond t (started r) k)
    by_seat true = opened_times r
    by_seat false = old
call_times (closing m) n s k old = by_seat (eqb n m)
  where
    by_seat : (t : Bool) → Times (cond t closed_seat s) (cond t stopped k)
    by_seat true = shut_times
    by_seat false = old
call_times (packet m p) n s k old = by_seat (eqb n m)
  where
    by_seat : (t : Bool) → Times (cond t (heard_seat s (message_in p)) s) (cond t (clock_with k 0 k.age) k)
    by_seat true = heard_times s (message_in p) k old
    by_seat false = old
call_times (tick ms timestamp room) n s k old = ticked_times ms s k old
call_times (report m timestamp sound room) n s k old = old
call_times (received signals level) n s k old = old
call_times (transmitter healthy) n s k old = old
call_times (side standby) n s k old = old
call_times (totals m) n s k old = old

through_times : (cs : List Call) (n : ℕ) (s : Seat) (k : Clock) → Times s k → Times (seat_through cs n s) (clock_through n k cs)
unfolding seat_through clock_through
through_times [] n s k old = old
through_times (c ∷ cs) n s k old = through_times cs n (seat_after c n s) (clock_after n k c) (call_times c n s k old)

run_times : (setup : Setup) (run : List Call) (n : ℕ) → Times (seat_of (after keeping (fresh_bench setup) run).seats n) (clock_of n setup run)
unfolding fresh_bench
run_times setup run n =
    subst (λ (s : Seat). Times s (clock_of n setup run)) (sym (seat_story (fresh_bench setup) run refl n))
    (through_times (accepted_calls keeping (fresh_bench setup) run) n (seat_of (fresh_bench setup).seats n) stopped
    (subst (λ (s : Seat). Times s stopped) (sym (seat_of_eight_closed n)) shut_times))

-- ---- what a tick names

-- (a period of 0 runs out at once, whatever the phase)
runs_out : (ms age period phase : ℕ) → phase ≡ cond (eqb period 0) 0 (age % period) → (period ≤ phase + ms) ↔ (period ≤ age % period + ms)
runs_out ms age period phase e = grind arith

module _ (ms : ℕ) (s : Seat) (k : Clock) (times : Times s k) where
  over : k.runs ≡ true → nothing_left ms s ≡ leb (lasts k) (k.quiet + ms)
  over up = same_end s.left k.quiet ms (lasts k) (times.timed up).left

  out : k.runs ≡ true → (s.period ≤ s.phase + ms) ↔ (k.asked.period ≤ k.age % k.asked.period + ms)
  out up = subst (λ (q : ℕ). (q ≤ s.phase + ms) ↔ (k.asked.period ≤ k.age % k.asked.period + ms)) (sym (times.timed up).as_asked.period) (runs_out ms k.age k.asked.period s.phase (times.timed up).phase)

  closes : (falls_silent ms s ≡ true) ↔ ((k.runs ≡ true) × (lasts k ≤ k.quiet + ms))
  unfolding falls_silent
  closes = grind arith

  is_due_lem : (is_due ms s ≡ true) ↔ ((k.runs ≡ true) × (k.quiet + ms < lasts k) × (k.asked.period ≤ k.age % k.asked.period + ms))
  unfolding is_due
  is_due_lem = grind arith

module _ (setup : Setup) (run : List Call) (ms timestamp room : ℕ) (closed due : List Bool) (records : List (List ℕ)) where
  abbrev now : Bench
  now = after keeping (fresh_bench setup) run

  module _ (e : (keeping now (tick ms timestamp room)).answer ≡ accepted (ticked closed due records)) (n : ℕ) where
    abbrev s : Seat
    s = seat_of now.seats n

    closed_are : entry_of false closed n ≡ falls_silent ms s
    unfolding seat_of falls_silent
    closed_are =
        let is : silent_seats now ms ≡ closed = cc (was_accepted_lem now (tick ms timestamp room) (ticked closed due records) e).1 in
        ap (λ (l : List Bool). entry_of false l n) (sym is) ∙ entry_changed (falls_silent ms) closed_seat refl now.seats n

    due_are : entry_of false due n ≡ is_due ms s
    unfolding seat_of is_due
    due_are =
        let is : due_seats now ms ≡ due = cc (was_accepted_lem now (tick ms timestamp room) (ticked closed due records) e).1 in
        ap (λ (l : List Bool). entry_of false l n) (sym is) ∙ entry_changed (is_due ms) closed_seat refl now.seats n

    tick_tells : TickTells (clock_of n setup run) ms (entry_of false closed n) (entry_of false due n)
    tick_tells = rw (closed_are, due_are) (record { closes = closes ms s (clock_of n setup run) (run_times setup run n); is_due_lem = is_due_lem ms s (clock_of n setup run) (run_times setup run n) })

just_opened : (b : Bench) (n : ℕ) (r : Request) (id : ℕ) → length b.seats ≡ 8 → (keeping b (opening n r)).answer ≡ accepted (own id)
    → JustOpened r (seat_of (keeping b (opening n r)).bench.seats n)
just_opened b n r id eight e =
    let is : seat_of (keeping b (opening n r)).bench.seats n ≡ opened_seat (call_code r.call) r.period r.multiplier r.ssrc =
    seat_after_lem b (opening n r) eight (was_accepted_lem b (opening n r) (own id) e).0 n ∙ rw (eq-eqb n n refl) in
    subst (JustOpened r) (sym is) (opening-in-words.just_opened r)

pub silence_and_due : SilenceAndDue
silence_and_due = record { just_opened = just_opened; as_asked = λ setup run n up. ((run_times setup run n).timed up).as_asked; which_open = λ setup run n. (run_times setup run n).runs; tick_tells = tick_tells }
