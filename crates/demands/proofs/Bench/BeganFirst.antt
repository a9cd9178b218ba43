-- Who began earlier stands earlier: the ledger of keyings, through every run.
use Prim.Native.Nat.{ℕ, suc, ◌≤◌, ◌<◌}
use mathlib.Core.Path.{◌≡◌, refl, sym, ap, subst, ◌∙◌}
use mathlib.Core.Bool.{Bool, true, false, cond, false≢true}
use mathlib.Core.List.{List, [], ◌∷◌}
use mathlib.Core.Logic.{◌↔◌}
use native.Mathlib.Omega.{arith}
use lib.Dec.{ltb, eqb}
use lib.ListN.{length}
use borrow.Author.Tests.{ltb-true, ltb-false}
use Rattle.packet.specs.Refusals.{NoCase, Answer, accepted, refused}
use Rattle.record.specs.Record.{closed_seat, fresh_bench, seat_of}
use Rattle.record.proofs.Seats.{open_is_seat, seat_of_eight_closed}
use Rattle.seats.specs.Opening.{closed_bench}
use Rattle.seats.specs.Ticking.{ticked_seat, ticked_bench}
use Rattle.bench.specs.Step.{Call, opening, closing, packet, tick, report, received, transmitter, side, totals, Said, keeping, after, was_accepted, accepted_calls}
use Rattle.record.specs.declared.setup.Setup.{Setup}
use Rattle.record.specs.declared.seat.Seat.{Seat}
use Rattle.record.specs.declared.whole.Bench.{Bench}
use Rattle.demands.specs.ExactCalls.{refusals_of}
use Rattle.demands.specs.SeatAfter.{seat_after}
use Rattle.air.specs.InWords.{last_field, TakesPart, place_of, Leads, all_of_them, the_first_one}
use Rattle.demands.specs.BeganFirst.{Spell, spell_after, spell_through, spell_of, BeganFirst}
use Rattle.demands.proofs.Demand1.Calls.{bench_after}
use Rattle.demands.proofs.Demand1.ExactCalls.{calls_exact}
use Rattle.demands.proofs.Bench.SeatAfter.{setup_kept, eight_seats, none_held}
use Rattle.demands.proofs.Bench.Runs.{after_run}
use Rattle.demands.proofs.Bench.KeyingsInOrder.{Counted, counted_call, counted_fresh}
use Rattle.reporting.specs.Reporting.{reported_bench}
use Rattle.sending.specs.Sending.{sent_bench}
use Rattle.demands.proofs.Bench.EventsSet.{stays}
use Rattle.demands.proofs.Bench.Spells.{no_spell, Ledger, left_alone, opened_ledger, packet_ledger}

-- ---- calls, and runs

tick_field : (ms : ℕ) (s : Seat) → (ticked_seat ms s).opened ≡ true → (s.opened ≡ true) × ((ticked_seat ms s).heard.field ≡ s.heard.field)
unfolding ticked_seat
tick_field ms s = grind arith

close_field : (t : Bool) (s : Seat) → (cond t closed_seat s).opened ≡ true → (s.opened ≡ true) × ((cond t closed_seat s).heard.field ≡ s.heard.field)
close_field t s up = grind arith

call_ledger : (b : Bench) (c : Call) (i : ℕ) (spells : ℕ → Spell) → length b.seats ≡ 8 → Counted b → Ledger b i spells → (said : Said) → (keeping b c).answer ≡ accepted said
    → Ledger (keeping b c).bench (suc i) (λ n. spell_after n i (spells n) c)
unfolding closed_bench ticked_bench sent_bench reported_bench
call_ledger b c i spells eight counted old said e = by_call c (none_held b c said e) e
  where
    alone : (c : Call) → NoCase (refusals_of b c) → (bench_after b c).order ≡ b.order
        → ((n : ℕ) (s : Seat) → (seat_after c n s).opened ≡ true → (s.opened ≡ true) × ((seat_after c n s).heard.field ≡ s.heard.field)) → Ledger (keeping b c).bench (suc i) spells
    alone c clear unmoved same = left_alone b c i spells eight clear old (stays (λ (x : Bench). x.order) b c unmoved) same

    by_call : (c : Call) → NoCase (refusals_of b c) → (keeping b c).answer ≡ accepted said → Ledger (keeping b c).bench (suc i) (λ n. spell_after n i (spells n) c)
    by_call (opening m r) clear e = opened_ledger b i spells eight counted old m r clear
    by_call (packet m p) clear e = packet_ledger b i spells eight counted old m p said e
    by_call (closing m) clear e = alone (closing m) clear refl (λ n s. close_field (eqb n m) s)
    by_call (tick ms timestamp room) clear e = alone (tick ms timestamp room) clear refl (λ n s. tick_field ms s)
    by_call (report m timestamp sound room) clear e = alone (report m timestamp sound room) clear refl (λ n s up. (up, refl))
    by_call (received signals level) clear e = alone (received signals level) clear refl (λ n s up. (up, refl))
    by_call (transmitter healthy) clear e = alone (transmitter healthy) clear refl (λ n s up. (up, refl))
    by_call (side standby) clear e = alone (side standby) clear refl (λ n s up. (up, refl))
    by_call (totals m) clear e = alone (totals m) clear refl (λ n s up. (up, refl))

run_ledger : (b : Bench) (cs : List Call) (i : ℕ) (spells : ℕ → Spell) → length b.seats ≡ 8 → Counted b → Ledger b i spells
    → (k : ℕ) × Ledger (after keeping b cs) k (λ n. spell_through n i (spells n) (accepted_calls keeping b cs))
unfolding after accepted_calls spell_through
run_ledger b [] i spells eight counted old = (i, old)
run_ledger b (c ∷ cs) i spells eight counted old =
    by_answer (keeping b c).answer refl (λ j spells'. run_ledger (keeping b c).bench cs j spells' (eight_seats b c ∙ eight) (counted_call b c counted))
  where
    by_answer : (a : Answer Said) → (keeping b c).answer ≡ a
        → ((j : ℕ) (spells' : ℕ → Spell) → Ledger (keeping b c).bench j spells'
        → (k : ℕ) × Ledger (after keeping (keeping b c).bench cs) k (λ n. spell_through n j (spells' n) (accepted_calls keeping (keeping b c).bench cs)))
        → (k : ℕ) × Ledger (after keeping (keeping b c).bench cs) k
        (λ n. spell_through n i (spells n) (cond (was_accepted a) (c ∷ accepted_calls keeping (keeping b c).bench cs) (accepted_calls keeping (keeping b c).bench cs)))
    by_answer (accepted said) e rest = rest (suc i) (λ n. spell_after n i (spells n) c) (call_ledger b c i spells eight counted old said e)
    by_answer (refused number cause) e rest = rest i spells (subst (λ (x : Bench). Ledger x i spells) (sym (calls_exact.refused_keeps b c number cause e)) old)

start_ledger : (setup : Setup) → Ledger (fresh_bench setup) 1 (λ n. no_spell 0)
unfolding fresh_bench
start_ledger setup = grind (arith, seat_of_eight_closed)

module _ (setup : Setup) (run : List Call) where
  abbrev now : Bench
  now = after keeping (fresh_bench setup) run

  ledger : (k : ℕ) × Ledger now k (λ n. spell_of n setup run)
  ledger = run_ledger (fresh_bench setup) run 1 (λ n. no_spell 0) (unfold fresh_bench in refl) (counted_fresh setup) (start_ledger setup)

  is_keyed : (n : ℕ) → TakesPart now n → (spell_of n setup run).type ≡ (last_field now n).ptt
  is_keyed n p = grind (arith, ledger)

  takes_part_lem : (n : ℕ) → TakesPart now n ↔ ((now.healthy ≡ true) × ((seat_of now.seats n).opened ≡ true) × (1 ≤ (spell_of n setup run).type))
  takes_part_lem n = grind (arith, ledger)

  is_earlier : (m n : ℕ) → TakesPart now m → TakesPart now n → (spell_of m setup run).since < (spell_of n setup run).since → place_of m now.order < place_of n now.order
  is_earlier m n p q l = grind (arith, ledger, open_is_seat)

  is_first : (n : ℕ) → setup.equal_summation ≡ false → Leads now n → (m : ℕ) → TakesPart now m → (last_field now m).ptt ≡ (last_field now n).ptt
      → (spell_of n setup run).since ≤ (spell_of m setup run).since
  is_first n lockout (all_of_them t mode) m q same =
      let kept : now.setup ≡ setup = after_run (λ (x : Bench). x.setup ≡ setup) (λ x c e. setup_kept x c ∙ e) (fresh_bench setup) run (unfold fresh_bench in refl) in
      absurd (false≢true (sym (ap (λ (x : Setup). x.equal_summation) kept ∙ lockout) ∙ mode))
  is_first n lockout (the_first_one t mode least) m q same = by_case (ltb (spell_of m setup run).since (spell_of n setup run).since) refl
    where
      by_case : (u : Bool) → ltb (spell_of m setup run).since (spell_of n setup run).since ≡ u → (spell_of n setup run).since ≤ (spell_of m setup run).since
      by_case true e = absurd (let l = is_earlier m n q t.part (ltb-true (spell_of m setup run).since (spell_of n setup run).since e) in let g = least m q same in omega arith)
      by_case false e = ltb-false (spell_of m setup run).since (spell_of n setup run).since e

pub began_first : BeganFirst
began_first = record { takes_part = takes_part_lem; keyed = is_keyed; earlier = is_earlier; first = is_first }
