-- Demand 3 alone would let pass a bench that handles a seat's first packet and then only nods: it runs as the true one does
-- without the packets that it nods at, and lesson seats do not move which of the live ones these are.
use native.Mathlib.Omega.{arith}
use Prim.Native.Nat.{ℕ}
use mathlib.Core.Path.{◌≡◌, refl, sym, ap, ◌∙◌}
use mathlib.Core.Bool.{Bool, true, false, cond}
use mathlib.Core.List.{List, [], ◌∷◌}
use Rattle.base.proofs.Truths.{and_none, either_way}
use Rattle.record.specs.Record.{seat_numbers, lesson, fresh_bench}
use Rattle.record.proofs.Seats.{same_lessons}
use Rattle.bench.specs.Step.{Call, packet, Machine, step, keeping, after}
use Rattle.record.specs.declared.setup.Setup.{Setup}
use Rattle.record.specs.declared.whole.Bench.{Bench}
use Rattle.demands.specs.Apart.{named, without_lessons, live_above_test, fixed, compared, audio_sent}
use Rattle.demands.specs.WrongBenches.{nodding, is_later, nod, wrong, ApartAlone}
use Rattle.demands.proofs.Demand3.WithoutLessons.{low, seat_low}
use Rattle.demands.proofs.Bench.SeatAfter.{setup_kept}
use Rattle.demands.proofs.Demand3.LessonCalls.{unseen}
use Rattle.demands.proofs.Demand3.Apart.{Reached, reached_call, reached_fresh, ran, matched, its_lesson, low_alike, lessons_apart}

-- a run without the packets that are nodded at
unfoldable handled : Machine → Bench → List Call → List Call
handled machine b [] = []
handled machine b (c ∷ cs) = cond (is_later b c) (handled machine b cs) (c ∷ handled machine (machine b c).bench cs)

after_handled : (b : Bench) (cs : List Call) → after (wrong nodding) b cs ≡ after keeping b (handled keeping b cs)
unfolding after handled
after_handled b [] = refl
after_handled b (c ∷ cs) = by_call (is_later b c) (after_handled b cs) (after_handled (keeping b c).bench cs)
  where
    by_call : (t : Bool) → after (wrong nodding) b cs ≡ after keeping b (handled keeping b cs)
        → after (wrong nodding) (keeping b c).bench cs ≡ after keeping (keeping b c).bench (handled keeping (keeping b c).bench cs)
        → after (wrong nodding) (cond t (nod b) (keeping b c)).bench cs ≡ after keeping b (cond t (handled keeping b cs) (c ∷ handled keeping (keeping b c).bench cs))
    by_call true nodded stepped = nodded
    by_call false nodded stepped = stepped

later_low : (b : Bench) (c : Call) → lesson b.setup (named c) ≡ false → is_later (low b) c ≡ is_later b c
unfolding named
later_low b c live = grind (arith, seat_low)

handled_low : (setup : Setup) (b : Bench) (cs : List Call) → b.setup ≡ setup → Reached b
    → without_lessons setup (handled keeping b cs) ≡ handled step (low b) (without_lessons setup cs)
unfolding without_lessons handled
handled_low setup b [] e i = refl
handled_low setup b (c ∷ cs) e i =
    by_seat (lesson setup (named c)) (is_later b c) refl refl (handled_low setup b cs e i)
    (handled_low setup (keeping b c).bench cs (setup_kept b c ∙ e) (reached_call b c i))
  where
    by_seat : (t later : Bool) → lesson setup (named c) ≡ t → is_later b c ≡ later
        → without_lessons setup (handled keeping b cs) ≡ handled step (low b) (without_lessons setup cs)
        → without_lessons setup (handled keeping (keeping b c).bench cs) ≡ handled step (low (keeping b c).bench) (without_lessons setup cs)
        → without_lessons setup (cond later (handled keeping b cs) (c ∷ handled keeping (keeping b c).bench cs))
        ≡ handled step (low b) (cond t (without_lessons setup cs) (c ∷ without_lessons setup cs))
    by_seat true true q l nodded stepped = nodded
    by_seat true false q l nodded stepped =
        simp q (stepped ∙ ap (λ (x : Bench). handled step x (without_lessons setup cs)) (unseen b c (same_lessons e (named c) q)))
    by_seat false true q l nodded stepped = simp (later_low b c (same_lessons e (named c) q), l) nodded
    by_seat false false q l nodded stepped =
        simp (q, later_low b c (same_lessons e (named c) q), l)
        (ap (c ∷◌) (stepped ∙ ap (λ (x : Bench). handled step x (without_lessons setup cs)) (sym (matched b c i (same_lessons e (named c) q)).bench)))

module _ (setup : Setup) (xs ys : List Call) (e : without_lessons setup xs ≡ without_lessons setup ys) where
  abbrev handled_xs : List Call
  handled_xs = handled keeping (fresh_bench setup) xs

  abbrev handled_ys : List Call
  handled_ys = handled keeping (fresh_bench setup) ys

  handled_alike : without_lessons setup handled_xs ≡ without_lessons setup handled_ys
  unfolding fresh_bench
  handled_alike = grind (arith, handled_low, reached_fresh)

  low_same : low (ran setup handled_xs) ≡ low (ran setup handled_ys)
  low_same = low_alike setup handled_xs handled_ys handled_alike

  later_same : (c : Call) → lesson setup (named c) ≡ false → is_later (ran setup handled_xs) c ≡ is_later (ran setup handled_ys) c
  later_same c live =
      sym (later_low (ran setup handled_xs) c (its_lesson setup handled_xs (named c) live))
      ∙ ap (λ (b : Bench). is_later b c) low_same
      ∙ later_low (ran setup handled_ys) c (its_lesson setup handled_ys (named c) live)

  standby_same : (ran setup handled_xs).standby ≡ (ran setup handled_ys).standby
  unfolding low
  standby_same = ap (λ (b : Bench). b.standby) low_same

  -- a nod is the same in all that is compared
  nods_same : (c : Call) → compared setup c (nod (ran setup handled_xs)) ≡ compared setup c (nod (ran setup handled_ys))
  unfolding compared fixed
  nods_same c = simp (either_way, and_none, standby_same)

  same : (c : Call) → lesson setup (named c) ≡ false
      → compared setup c (wrong nodding (ran setup handled_xs) c) ≡ compared setup c (wrong nodding (ran setup handled_ys) c)
  same c live = simp (later_same c live) (by_call (is_later (ran setup handled_ys) c))
    where
      by_call : (t : Bool) → compared setup c (cond t (nod (ran setup handled_xs)) (keeping (ran setup handled_xs) c))
          ≡ compared setup c (cond t (nod (ran setup handled_ys)) (keeping (ran setup handled_ys) c))
      by_call true = nods_same c
      by_call false = (lessons_apart setup handled_xs handled_ys handled_alike).same c live

  together_after : (c : Call) → lesson setup (named c) ≡ false
      → live_above_test (wrong nodding (ran setup handled_xs) c).bench seat_numbers ≡ live_above_test (wrong nodding (ran setup handled_ys) c).bench seat_numbers
  together_after c live = simp (later_same c live) (by_call (is_later (ran setup handled_ys) c))
    where
      by_call : (t : Bool) → live_above_test (cond t (nod (ran setup handled_xs)) (keeping (ran setup handled_xs) c)).bench seat_numbers
          ≡ live_above_test (cond t (nod (ran setup handled_ys)) (keeping (ran setup handled_ys) c)).bench seat_numbers
      by_call true = (lessons_apart setup handled_xs handled_ys handled_alike).together
      by_call false = (lessons_apart setup handled_xs handled_ys handled_alike).together_after c live

  no_lesson_audio : (n : ℕ) (p : List ℕ) → lesson setup n ≡ true → live_above_test (wrong nodding (ran setup handled_xs) (packet n p)).bench seat_numbers ≡ true
      → audio_sent (wrong nodding (ran setup handled_xs) (packet n p)).answer ≡ (false, [])
  unfolding audio_sent
  no_lesson_audio n p hidden up = by_call (is_later (ran setup handled_xs) (packet n p)) up
    where
      by_call : (t : Bool) → live_above_test (cond t (nod (ran setup handled_xs)) (keeping (ran setup handled_xs) (packet n p))).bench seat_numbers ≡ true
          → audio_sent (cond t (nod (ran setup handled_xs)) (keeping (ran setup handled_xs) (packet n p))).answer ≡ (false, [])
      by_call true u = refl
      by_call false u = (lessons_apart setup handled_xs handled_ys handled_alike).no_lesson_audio n p hidden u

pub nodding_apart : ApartAlone (wrong nodding)
nodding_apart setup xs ys e = rw (after_handled (fresh_bench setup) xs, after_handled (fresh_bench setup) ys)
    (record {
      together = (lessons_apart setup (handled_xs setup xs ys e) (handled_ys setup xs ys e) (handled_alike setup xs ys e)).together;
      together_after = together_after setup xs ys e;
      same = same setup xs ys e;
      no_lesson_audio = no_lesson_audio setup xs ys e;
      on_air = (lessons_apart setup (handled_xs setup xs ys e) (handled_ys setup xs ys e) (handled_alike setup xs ys e)).on_air;
      on_record = (lessons_apart setup (handled_xs setup xs ys e) (handled_ys setup xs ys e) (handled_alike setup xs ys e)).on_record;
    })
