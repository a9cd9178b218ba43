-- What one call does to one seat, and what a run of calls made of it.
use native.Mathlib.Omega.{arith}
use Prim.Native.Nat.{ℕ}
use mathlib.Core.Path.{◌≡◌, refl, ap, sym, ◌∙◌}
use mathlib.Core.Bool.{Bool, cond}
use mathlib.Core.List.{List, [], ◌∷◌}
use lib.Dec.{eqb}
use lib.ListN.{length, length-map}
use Rattle.packet.specs.Refusals.{NoCase, Answer, accepted, refused}
use Rattle.record.specs.Record.{seat_of}
use Rattle.seats.specs.Opening.{opened_bench, closed_bench}
use Rattle.seats.specs.Ticking.{ticked_seat, ticked_bench}
use Rattle.hearing.specs.Hearing.{heard_bench}
use Rattle.reporting.specs.Reporting.{reported_bench}
use Rattle.sending.specs.Sending.{sent_bench}
use Rattle.bench.specs.Step.{Call, Said, keeping, after, was_accepted, accepted_calls}
use Rattle.record.specs.declared.seat.Seat.{Seat}
use Rattle.record.specs.declared.whole.Bench.{Bench}
use Rattle.demands.specs.ExactCalls.{refusals_of}
use Rattle.demands.specs.SeatAfter.{seat_after, seat_through, SeatsByCalls}
use Rattle.demands.proofs.Demand1.Exact.{exact_judged}
use Rattle.demands.proofs.Demand1.Calls.{said_by, bench_after, call_answer, accepted_bench, after_call}
use Rattle.bench.proofs.Keeping.{refused_keeps}
use Rattle.seats.proofs.Accepted.{open_accepted, seat_accepted}
use Rattle.hearing.proofs.Accepted.{packet_accepted}
use Rattle.record.proofs.Seats.{as_many_entries, seat_put, seat_changed}

-- ---- the set-up, and how many seats

pub same_setup : (b : Bench) (c : Call) → (bench_after b c).setup ≡ b.setup
unfolding opened_bench closed_bench heard_bench ticked_bench sent_bench reported_bench
same_setup b c = grind arith

pub setup_kept : (b : Bench) (c : Call) → (keeping b c).bench.setup ≡ b.setup
setup_kept b c = after_call (λ (x : Bench). x.setup ≡ b.setup) b c refl (λ none. same_setup b c)

pub as_many_seats : (b : Bench) (c : Call) → length (bench_after b c).seats ≡ length b.seats
unfolding opened_bench closed_bench heard_bench ticked_bench sent_bench reported_bench
as_many_seats b c = grind (arith, as_many_entries, length-map)

pub eight_seats : (b : Bench) (c : Call) → length (keeping b c).bench.seats ≡ length b.seats
eight_seats b c = after_call (λ (x : Bench). length x.seats ≡ length b.seats) b c refl (λ none. as_many_seats b c)

-- ---- one seat

-- the seat that is named is the seat that is asked about
named : (change : Seat → Seat) (ss : List Seat) (m n : ℕ) (t : Bool) → eqb n m ≡ t
    → cond t (change (seat_of ss m)) (seat_of ss n) ≡ cond t (change (seat_of ss n)) (seat_of ss n)
named change ss m n t e = grind arith

pub seat_made : (b : Bench) (c : Call) → length b.seats ≡ 8 → NoCase (refusals_of b c) → (n : ℕ)
    → seat_of (bench_after b c).seats n ≡ seat_after c n (seat_of b.seats n)
unfolding opened_bench closed_bench heard_bench ticked_bench sent_bench reported_bench ticked_seat
seat_made b c eight none n = grind (arith, open_accepted, packet_accepted, seat_accepted, seat_changed, seat_put)

pub seat_after_lem : (b : Bench) (c : Call) → length b.seats ≡ 8 → NoCase (refusals_of b c) → (n : ℕ)
    → seat_of (keeping b c).bench.seats n ≡ seat_after c n (seat_of b.seats n)
seat_after_lem b c eight none n = ap (λ (x : Bench). seat_of x.seats n) (accepted_bench b c none) ∙ seat_made b c eight none n

-- ---- a run

pub none_held : (b : Bench) (c : Call) (s : Said) → (keeping b c).answer ≡ accepted s → NoCase (refusals_of b c)
none_held b c s e = (exact_judged (said_by b c) (refusals_of b c)).meets_none s (sym (call_answer b c) ∙ e)

pub seat_story : (b : Bench) (cs : List Call) → length b.seats ≡ 8 → (n : ℕ)
    → seat_of (after keeping b cs).seats n ≡ seat_through (accepted_calls keeping b cs) n (seat_of b.seats n)
unfolding after accepted_calls seat_through
seat_story b [] eight n = refl
seat_story b (c ∷ cs) eight n =
    seat_story (keeping b c).bench cs (eight_seats b c ∙ eight) n ∙ by_answer (keeping b c).answer refl
  where
    rest : List Call
    rest = accepted_calls keeping (keeping b c).bench cs

    by_answer : (a : Answer Said) → (keeping b c).answer ≡ a
        → seat_through rest n (seat_of (keeping b c).bench.seats n) ≡ seat_through (cond (was_accepted a) (c ∷ rest) rest) n (seat_of b.seats n)
    by_answer (accepted s) e = ap (seat_through rest n) (seat_after_lem b c eight (none_held b c s e) n)
    by_answer (refused k cause) e = ap (λ (x : Bench). seat_through rest n (seat_of x.seats n)) (refused_keeps b c k cause e)

pub accepted_alone : (b : Bench) (cs : List Call) → after keeping b cs ≡ after keeping b (accepted_calls keeping b cs)
unfolding after accepted_calls
accepted_alone b [] = refl
accepted_alone b (c ∷ cs) = accepted_alone (keeping b c).bench cs ∙ by_answer (keeping b c).answer refl
  where
    rest : List Call
    rest = accepted_calls keeping (keeping b c).bench cs

    by_answer : (a : Answer Said) → (keeping b c).answer ≡ a → after keeping (keeping b c).bench rest ≡ after keeping b (cond (was_accepted a) (c ∷ rest) rest)
    by_answer (accepted s) e = refl
    by_answer (refused k cause) e = ap (λ (x : Bench). after keeping x rest) (refused_keeps b c k cause e)

pub seats_by_calls : SeatsByCalls
seats_by_calls = record { seat_after_lem = seat_after_lem; seat_story = seat_story; accepted_alone = accepted_alone; eight_seats = eight_seats; setup_kept = setup_kept }
