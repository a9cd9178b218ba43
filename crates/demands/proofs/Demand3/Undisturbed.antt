-- While a live keying above Test is up the bench is, to live seats, one without lesson seats: a corollary of demand 3.
use native.Mathlib.Omega.{arith}
use Prim.Native.Nat.{ℕ}
use mathlib.Core.Path.{◌≡◌, refl, sym, ap, ◌∙◌}
use mathlib.Core.Bool.{Bool, true, false, cond}
use mathlib.Core.List.{List, [], ◌∷◌, ◌++◌}
use Rattle.packet.specs.Refusals.{Answer, mapped}
use Rattle.air.specs.Air.{bench_air}
use Rattle.record.specs.Record.{seat_numbers, no_such_seat, entry_of, lesson, fresh_bench}
use Rattle.hearing.specs.Hearing.{packet_said}
use Rattle.reporting.specs.Reporting.{report_said}
use Rattle.bench.specs.Step.{Call, packet, tick, report, Said, Outcome, told, does, keeping, after}
use Rattle.record.specs.declared.setup.Setup.{Setup}
use Rattle.record.specs.declared.whole.Bench.{Bench}
use Rattle.demands.specs.Apart.{named, without_lessons, keys_test, live_above_test, records_seen, fixed, compared, audio_sent, Apart}
use Rattle.demands.specs.Undisturbed.{record_to, Undisturbed}
use Rattle.demands.proofs.Demand3.WithoutLessons.{low, none_is_lesson}
use Rattle.demands.proofs.Demand3.BenchAir.{up_is, air_low}
use Rattle.demands.proofs.Demand3.Apart.{ran, reached, low_alike, lessons_apart}
use Rattle.demands.proofs.Demand3.LiveReports.{above_reported}
use Rattle.demands.proofs.Demand3.LiveTicks.{record_compared}

-- ---- runs

-- leaving out twice is leaving out once
out_twice : (setup : Setup) (run : List Call) → without_lessons setup (without_lessons setup run) ≡ without_lessons setup run
unfolding without_lessons
out_twice setup [] = refl
out_twice setup (c ∷ cs) = by_seat (lesson setup (named c)) refl (out_twice setup cs)
  where
    by_seat : (t : Bool) → lesson setup (named c) ≡ t → without_lessons setup (without_lessons setup cs) ≡ without_lessons setup cs
        → without_lessons setup (cond t (without_lessons setup cs) (c ∷ without_lessons setup cs)) ≡ cond t (without_lessons setup cs) (c ∷ without_lessons setup cs)
    by_seat true e rest = rest
    by_seat false e rest = simp (e, rest)

out_of_both : (setup : Setup) (xs ys : List Call) → without_lessons setup (xs ++ ys) ≡ without_lessons setup xs ++ without_lessons setup ys
unfolding without_lessons
out_of_both setup [] ys = refl
out_of_both setup (c ∷ xs) ys = by_seat (lesson setup (named c)) (out_of_both setup xs ys)
  where
    by_seat : (t : Bool) → without_lessons setup (xs ++ ys) ≡ without_lessons setup xs ++ without_lessons setup ys
        → cond t (without_lessons setup (xs ++ ys)) (c ∷ without_lessons setup (xs ++ ys))
        ≡ cond t (without_lessons setup xs) (c ∷ without_lessons setup xs) ++ without_lessons setup ys
    by_seat true rest = rest
    by_seat false rest = ap (λ (r : List Call). c ∷ r) rest

after_one_more : (b : Bench) (run : List Call) (c : Call) → after keeping b (run ++ (c ∷ [])) ≡ (keeping (after keeping b run) c).bench
unfolding after
after_one_more b [] c = refl
after_one_more b (d ∷ run) c = after_one_more (keeping b d).bench run c

-- ---- while the condition is met answers are compared whole

whole : {A : Type 0} (setup : Setup) (is_test : Bool) (tell : A → Said) → ((x : A) → fixed setup true is_test (tell x) ≡ tell x)
    → (a : Answer A) → mapped (fixed setup true is_test) (mapped tell a) ≡ mapped tell a
whole setup is_test tell h a = grind arith

packet_whole : (setup : Setup) (b : Bench) (n : ℕ) (p : List ℕ) → live_above_test (keeping b (packet n p)).bench seat_numbers ≡ true
    → compared setup (packet n p) (keeping b (packet n p)) ≡ (keeping b (packet n p)).answer
unfolding compared does packet_said
packet_whole setup b n p up = rw up (by_keying (keys_test (packet n p)))
  where
    by_keying : (is_test : Bool) → mapped (fixed setup true is_test) (keeping b (packet n p)).answer ≡ (keeping b (packet n p)).answer
    by_keying true = whole setup true (told p) (λ x. unfold fixed in refl) (packet_said b n p)
    by_keying false = whole setup false (told p) (λ x. unfold fixed in refl) (packet_said b n p)

above_after_report : (b : Bench) (n timestamp : ℕ) (sound : List ℕ) (room : ℕ)
    → live_above_test (keeping b (report n timestamp sound room)).bench seat_numbers ≡ live_above_test b seat_numbers
unfolding does report_said
above_after_report b n timestamp sound room = grind (arith, above_reported)

report_whole : (setup : Setup) (b : Bench) (n timestamp : ℕ) (sound : List ℕ) (room : ℕ) → live_above_test b seat_numbers ≡ true
    → compared setup (report n timestamp sound room) (keeping b (report n timestamp sound room)) ≡ (keeping b (report n timestamp sound room)).answer
unfolding compared does report_said fixed
report_whole setup b n timestamp sound room up = grind (arith, above_after_report)

-- of a tick, the record of a live seat
record_whole : (setup : Setup) (c : Call) (n : ℕ) → lesson setup n ≡ false → (o : Outcome) → live_above_test o.bench seat_numbers ≡ true
    → record_to n (compared setup c o) ≡ record_to n o.answer
unfolding compared fixed record_to
record_whole setup c n live o up = rw up (by_answer _ o.answer)
  where
    by_seat : (records : List (List ℕ)) (t : Bool) → no_such_seat n ≡ t
        → entry_of [] (records_seen setup true records) n ≡ entry_of [] records n
    by_seat records t none = grind (arith, record_compared)

    by_answer : (is_test : Bool) (a : Answer Said) → record_to n (mapped (fixed setup true is_test) a) ≡ record_to n a
    by_answer is_test a = grind (arith, by_seat)

-- ---- the corollary

module _ (setup : Setup) (run : List Call) where
  apart : Apart keeping setup (ran setup run) (ran setup (without_lessons setup run))
  apart = lessons_apart setup run (without_lessons setup run) (sym (out_twice setup run))

  -- the condition after one more call, whoever makes it
  together_then : (c : Call) → live_above_test (keeping (ran setup run) c).bench seat_numbers
      ≡ live_above_test (keeping (ran setup (without_lessons setup run)) c).bench seat_numbers
  together_then c =
      ap (λ (x : Bench). live_above_test x seat_numbers) (sym (after_one_more (fresh_bench setup) run c))
      ∙ (lessons_apart setup (run ++ (c ∷ [])) (without_lessons setup run ++ (c ∷ [])) still_alike).together
      ∙ ap (λ (x : Bench). live_above_test x seat_numbers) (after_one_more (fresh_bench setup) (without_lessons setup run) c)
    where
      still_alike : without_lessons setup (run ++ (c ∷ [])) ≡ without_lessons setup (without_lessons setup run ++ (c ∷ []))
      still_alike =
          out_of_both setup run (c ∷ [])
          ∙ ap (λ (r : List Call). r ++ without_lessons setup (c ∷ [])) (sym (out_twice setup run))
          ∙ sym (out_of_both setup (without_lessons setup run) (c ∷ []))

pub undisturbed : Undisturbed
undisturbed setup run =
    record {
      air = λ up. sym (air_alone run up) ∙ ap bench_air (low_alike setup run alone (sym (out_twice setup run))) ∙ air_alone alone (sym (apart setup run).together ∙ up);
      audio = λ n p up. by_seat n p up (lesson setup n) refl;
      reports = λ n timestamp sound room live up.
          sym (report_whole setup (ran setup run) n timestamp sound room up)
          ∙ (apart setup run).same (report n timestamp sound room) (unfold named in live)
          ∙ report_whole setup (ran setup (without_lessons setup run)) n timestamp sound room (sym (apart setup run).together ∙ up);
      records = λ ms timestamp room n live up. let c = tick ms timestamp room in
          sym (record_whole setup c n live (keeping (ran setup run) c) up)
          ∙ ap (record_to n) ((apart setup run).same c (unfold named in none_is_lesson setup))
          ∙ record_whole setup c n live (keeping (ran setup alone) c) (sym (together_then setup run c) ∙ up);
    }
  where
    alone : List Call
    alone = without_lessons setup run

    air_alone : (cs : List Call) → live_above_test (ran setup cs) seat_numbers ≡ true → bench_air (low (ran setup cs)) ≡ bench_air (ran setup cs)
    air_alone cs up = air_low (ran setup cs) (reached setup cs).held (up_is (ran setup cs) (reached setup cs).held up)

    up_alone : (n : ℕ) (p : List ℕ) → live_above_test (keeping (ran setup run) (packet n p)).bench seat_numbers ≡ true
        → live_above_test (keeping (ran setup (without_lessons setup run)) (packet n p)).bench seat_numbers ≡ true
    up_alone n p up = sym (together_then setup run (packet n p)) ∙ up

    by_seat : (n : ℕ) (p : List ℕ) → live_above_test (keeping (ran setup run) (packet n p)).bench seat_numbers ≡ true → (t : Bool) → lesson setup n ≡ t
        → audio_sent (keeping (ran setup run) (packet n p)).answer ≡ audio_sent (keeping (ran setup (without_lessons setup run)) (packet n p)).answer
    by_seat n p up true hidden =
        (apart setup run).no_lesson_audio n p hidden up
        ∙ sym ((lessons_apart setup (without_lessons setup run) run (out_twice setup run)).no_lesson_audio n p hidden (up_alone n p up))
    by_seat n p up false live =
        ap audio_sent
        (sym (packet_whole setup (ran setup run) n p up)
        ∙ (apart setup run).same (packet n p) (unfold named in live)
        ∙ packet_whole setup (ran setup (without_lessons setup run)) n p (up_alone n p up))
