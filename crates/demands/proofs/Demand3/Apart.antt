-- Demand 3: live seats see of a run what they would see of it without its lesson calls.
use native.Mathlib.Omega.{arith}
use Prim.Native.Nat.{ℕ}
use mathlib.Core.Path.{◌≡◌, refl, sym, ap, subst₂, ◌∙◌}
use mathlib.Core.Bool.{Bool, true, false, cond, ◌&&◌}
use mathlib.Core.List.{List, [], ◌∷◌}
use lib.Dec.{eqb}
use Rattle.packet.specs.Packet.{test}
use Rattle.packet.specs.Refusals.{mapped}
use Rattle.record.specs.Record.{seat_numbers, lesson, fresh_bench, with_health, with_signals}
use Rattle.record.proofs.Seats.{same_lessons}
use Rattle.air.specs.Air.{takes_part, bench_air, aired}
use Rattle.bench.specs.Step.{Call, opening, closing, packet, tick, report, received, transmitter, side, totals, done, does, step, keeping, after}
use Rattle.record.specs.declared.setup.Setup.{Setup}
use Rattle.record.specs.declared.seat.Seat.{Seat}
use Rattle.record.specs.declared.whole.Bench.{Bench}
use Rattle.demands.specs.AirKept.{AirRight}
use Rattle.demands.specs.Apart.{named, without_lessons, keys_test, is_testing, live_above_test, fixed, compared, SameOnAir, LessonsApart}
use Rattle.demands.proofs.Bench.Runs.{after_run}
use Rattle.demands.proofs.Bench.AirKept.{air_at_start, air_by_call}
use Rattle.demands.proofs.Demand3.WithoutLessons.{low, seat_low}
use Rattle.demands.proofs.Bench.SeatAfter.{setup_kept}
use Rattle.demands.proofs.Demand3.LessonSeats.{Held, held_call, held_fresh}
use Rattle.demands.proofs.Demand3.BenchAir.{above_test_low}
use Rattle.demands.proofs.Demand3.LiveOnAir.{same_air, live_on_air}
use Rattle.demands.proofs.Demand3.LessonCalls.{unseen}
use Rattle.demands.proofs.Demand3.LiveCalls.{Match, match_plain, match_opening, match_closing, match_side, match_totals}
use Rattle.demands.proofs.Demand3.LiveReports.{match_report}
use Rattle.demands.proofs.Demand3.LiveTicks.{match_tick}
use Rattle.demands.proofs.Demand3.LivePackets.{match_packet, no_lesson_audio}

-- ---- what the benches of a run have

pub record Reached (b : Bench) : Type 0 where
  pub held : Held b
  pub right : AirRight b

pub reached_call : (b : Bench) (c : Call) → Reached b → Reached (keeping b c).bench
reached_call b c i = record { held = held_call b c i.held; right = air_by_call b c i.right }

pub reached_fresh : (setup : Setup) → Reached (fresh_bench setup)
reached_fresh setup = record { held = held_fresh setup; right = air_at_start setup }

-- ---- one call: on the bench without its lesson seats as 01 has it, where nothing of the air is kept

pub matched : (b : Bench) (c : Call) → Reached b → lesson b.setup (named c) ≡ false → Match b.setup c (keeping b c) (step (low b) c)
unfolding named
matched b (opening n r) i live = match_opening b n r i.held live
matched b (closing n) i live = match_closing b n live
matched b (packet n p) i live = match_packet b n p i.held live
matched b (tick ms timestamp room) i live = match_tick b ms timestamp room i.held
matched b (report n timestamp sound room) i live = match_report b i.right n timestamp sound room i.held live
matched b (received signals level) i live =
    unfold does in match_plain b.setup (received signals level) (aired (with_signals b signals level)) _ done (unfold low in refl)
matched b (transmitter healthy) i live =
    unfold does in match_plain b.setup (transmitter healthy) (aired (with_health b healthy)) _ done (unfold low in refl)
matched b (side standby) i live = match_side b standby
matched b (totals n) i live = match_totals b n live

-- so "While .." holds after it in both or in neither,
above_same : (b : Bench) (c : Call) → Reached b → lesson b.setup (named c) ≡ false
    → live_above_test (step (low b) c).bench seat_numbers ≡ live_above_test (keeping b c).bench seat_numbers
above_same b c i live = ap (λ (x : Bench). live_above_test x seat_numbers) (matched b c i live).bench ∙ above_test_low (keeping b c).bench

-- and its answer is the same in all that is compared
compared_low : (b : Bench) (c : Call) → Reached b → lesson b.setup (named c) ≡ false
    → compared b.setup c (step (low b) c) ≡ compared b.setup c (keeping b c)
unfolding compared
compared_low b c i live =
    ap (λ (up : Bool). mapped (fixed b.setup up (keys_test c)) (step (low b) c).answer) (above_same b c i live) ∙ (matched b c i live).answer

-- ---- whole runs

-- without its lesson seats the bench goes on as one that gets no lesson calls
low_after : (setup : Setup) (b : Bench) (cs : List Call) → b.setup ≡ setup → Reached b → low (after keeping b cs) ≡ after step (low b) (without_lessons setup cs)
unfolding after without_lessons
low_after setup b [] e i = refl
low_after setup b (c ∷ cs) e i =
    by_seat (lesson setup (named c)) refl (low_after setup (keeping b c).bench cs (setup_kept b c ∙ e) (reached_call b c i))
  where
    by_seat : (t : Bool) → lesson setup (named c) ≡ t → low (after keeping (keeping b c).bench cs) ≡ after step (low (keeping b c).bench) (without_lessons setup cs)
        → low (after keeping b (c ∷ cs)) ≡ after step (low b) (cond t (without_lessons setup cs) (c ∷ without_lessons setup cs))
    by_seat true q rest = rest ∙ ap (λ (x : Bench). after step x (without_lessons setup cs)) (unseen b c (same_lessons e (named c) q))
    by_seat false q rest = rest ∙ ap (λ (x : Bench). after step x (without_lessons setup cs)) (sym (matched b c i (same_lessons e (named c) q)).bench)

-- ---- two runs

-- the bench after a run
abbrev pub ran : Setup → List Call → Bench
ran setup run = after keeping (fresh_bench setup) run

module _ (setup : Setup) where
  fresh_setup : (fresh_bench setup).setup ≡ setup
  unfolding fresh_bench
  fresh_setup = refl

  pub reached : (run : List Call) → Reached (ran setup run)
  reached run = after_run Reached reached_call (fresh_bench setup) run (reached_fresh setup)

  its_setup : (run : List Call) → (ran setup run).setup ≡ setup
  its_setup run = after_run (λ (b : Bench). b.setup ≡ setup) (λ b c e. setup_kept b c ∙ e) (fresh_bench setup) run fresh_setup

  -- whether a seat is a lesson seat, by the set-up that the bench holds
  pub its_lesson : (run : List Call) (n : ℕ) {t : Bool} → lesson setup n ≡ t → lesson (ran setup run).setup n ≡ t
  its_lesson run n e = same_lessons (its_setup run) n e

  pub low_alike : (xs ys : List Call) → without_lessons setup xs ≡ without_lessons setup ys
      → low (ran setup xs) ≡ low (ran setup ys)
  low_alike xs ys e =
      low_after setup (fresh_bench setup) xs fresh_setup (reached_fresh setup)
      ∙ ap (after step (low (fresh_bench setup))) e
      ∙ sym (low_after setup (fresh_bench setup) ys fresh_setup (reached_fresh setup))

  compared_run : (run : List Call) (c : Call) → lesson setup (named c) ≡ false
      → compared setup c (step (low (ran setup run)) c) ≡ compared setup c (keeping (ran setup run) c)
  compared_run run c live = grind (arith, compared_low, its_setup, reached)

-- ---- who is on the air

module _ (setup : Setup) (xs ys : List Call) (e : without_lessons setup xs ≡ without_lessons setup ys) (n : ℕ) (live : lesson setup n ≡ false)
    (other : is_testing (ran setup xs) n ≡ false) where
  -- what a seat keys is seen without lesson seats too
  low_tests : (run : List Call) → is_testing (low (ran setup run)) n ≡ is_testing (ran setup run) n
  unfolding low
  low_tests run = ap (λ (s : Seat). takes_part (ran setup run).healthy s && eqb s.heard.field.ptt test) (seat_low (ran setup run) n (its_lesson setup run n live))

  other_too : is_testing (ran setup ys) n ≡ false
  other_too = sym (low_tests ys) ∙ ap (λ (x : Bench). is_testing x n) (sym (low_alike setup xs ys e)) ∙ low_tests xs ∙ other

  on_air : SameOnAir n (bench_air (ran setup xs)) (bench_air (ran setup ys))
  on_air =
      let x = live_on_air (ran setup xs) (reached setup xs).held n (its_lesson setup xs n live) other in
      let y = live_on_air (ran setup ys) (reached setup ys).held n (its_lesson setup ys n live) other_too in
      let alike : SameOnAir n (bench_air (low (ran setup xs))) (bench_air (low (ran setup ys))) = same_air n (ap bench_air (low_alike setup xs ys e)) in
      record { on = sym x.on ∙ alike.on ∙ y.on; leads = sym x.leads ∙ alike.leads ∙ y.leads }

  on_record : SameOnAir n (ran setup xs).air (ran setup ys).air
  on_record = subst₂ (SameOnAir n) (sym (reached setup xs).right) (sym (reached setup ys).right) on_air

pub lessons_apart : LessonsApart
lessons_apart setup xs ys e =
    record {
      together =
          sym (above_test_low (ran setup xs))
          ∙ ap (λ (x : Bench). live_above_test x seat_numbers) (low_alike setup xs ys e)
          ∙ above_test_low (ran setup ys);
      together_after = λ c live.
          sym (above_same (ran setup xs) c (reached setup xs) (its_lesson setup xs (named c) live))
          ∙ ap (λ (x : Bench). live_above_test (step x c).bench seat_numbers) (low_alike setup xs ys e)
          ∙ above_same (ran setup ys) c (reached setup ys) (its_lesson setup ys (named c) live);
      same = λ c live.
          sym (compared_run setup xs c live) ∙ ap (λ (x : Bench). compared setup c (step x c)) (low_alike setup xs ys e) ∙ compared_run setup ys c live;
      no_lesson_audio = λ n p hidden up. no_lesson_audio (ran setup xs) n p (reached setup xs).held (its_lesson setup xs n hidden) up;
      on_air = on_air setup xs ys e;
      on_record = on_record setup xs ys e;
    }
