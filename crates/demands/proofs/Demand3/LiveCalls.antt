-- A call that names no lesson seat does to the bench without its lesson seats what it does to the bench.
use native.Mathlib.Omega.{arith}
use Prim.Native.Nat.{ℕ, suc}
use mathlib.Core.Path.{◌≡◌, refl, sym, subst}
use mathlib.Core.Bool.{Bool, true, false}
use mathlib.Core.List.{List, [], ◌∷◌}
use lib.ListN.{get_or}
use Rattle.packet.specs.Refusals.{Case, NoCase, accepted, judged, mapped}
use Rattle.record.specs.Record.{seat_of, seat_numbers, no_such_seat, closed_seat, lesson, with_side}
use Rattle.air.specs.Air.{aired}
use Rattle.seats.specs.Opening.{any_coupling, open_refusals, open_said, opened_bench, seat_refusals, close_said, closed_bench, seat_verdict}
use Rattle.seats.specs.Radio.{side_refusals, side_said}
use Rattle.hearing.specs.Account.{totals_said}
use Rattle.bench.specs.Step.{Call, opening, closing, side, totals, Said, done, own, Outcome, outcome, does, step, keeping}
use Rattle.record.specs.declared.setup.Setup.{Setup}
use Rattle.record.specs.declared.seat.Seat.{Seat}
use Rattle.record.specs.declared.whole.Bench.{Bench}
use Rattle.seats.specs.declared.opening.Request.{Request}
use Rattle.demands.specs.Apart.{keys_test, live_above_test, fixed}
use Rattle.demands.proofs.Demand3.Blanking.{blank, set_elsewhere}
use Rattle.packet.proofs.Judged.{judged_both}
use Rattle.record.proofs.Seats.{lesson_flag}
use Rattle.demands.proofs.Demand3.WithoutLessons.{low, live_seat, seat_low}
use Rattle.demands.proofs.Demand3.LessonSeats.{Meek, Held}

-- what of the answer to a call is compared
abbrev pub extent : Setup → Call → Outcome → Said → Said
extent setup c o = fixed setup (live_above_test o.bench seat_numbers) (keys_test c)

-- l is what the bench without its lesson seats comes to where the bench comes to o
pub record Match (setup : Setup) (c : Call) (o l : Outcome) : Type 0 where
  pub bench : l.bench ≡ low o.bench
  pub answer : mapped (extent setup c o) l.answer ≡ mapped (extent setup c o) o.answer

module _ {A : Type 0} (setup : Setup) (c : Call) (b next low-next : Bench) (cs ds : List Case) (a a' : A) (tell tell' : A → Said) where
  -- refused alike, or accepted alike
  pub match_judged : ds ≡ cs
      → (NoCase cs → Match setup c (record { answer = accepted (tell a); bench = next }) (record { answer = accepted (tell' a'); bench = low-next }))
      → Match setup c (outcome (judged cs a) tell b next) (outcome (judged ds a') tell' (low b) low-next)
  match_judged e met =
      subst (λ (es : List Case). Match setup c (outcome (judged cs a) tell b next) (outcome (judged es a') tell' (low b) low-next)) (sym e)
      (judged_both (λ x y. Match setup c (outcome x tell b next) (outcome y tell' (low b) low-next)) cs a a' (λ n k. record { bench = refl; answer = refl }) met)

-- an answer in which no lesson seat has a part
pub match_plain : (setup : Setup) (c : Call) (next low-next : Bench) (said : Said) → low-next ≡ low next
    → Match setup c (record { answer = accepted said; bench = next }) (record { answer = accepted said; bench = low-next })
match_plain setup c next low-next said e = record { bench = e; answer = refl }

-- ---- open and close

-- no lesson seat is Coupling, so 18 does not depend on them
coupling_live : (flags : List Bool) (seats : List Seat) → ((k : ℕ) → get_or flags k false ≡ true → Meek (get_or seats k closed_seat))
    → any_coupling (blank closed_seat flags seats) ≡ any_coupling seats
unfolding any_coupling blank
coupling_live [] seats h = refl
coupling_live (f ∷ flags) [] h = refl
coupling_live (true ∷ flags) (s ∷ seats) h = simp ((h 0 refl).1, coupling_live flags seats (λ k. h (suc k)))
coupling_live (false ∷ flags) (s ∷ seats) h = simp (coupling_live flags seats (λ k. h (suc k)))

pub match_opening : (b : Bench) (n : ℕ) (r : Request) → Held b → lesson b.setup n ≡ false
    → Match b.setup (opening n r) (keeping b (opening n r)) (step (low b) (opening n r))
unfolding does open_said
match_opening b n r i live =
    match_judged b.setup (opening n r) b (aired (opened_bench b n r)) (opened_bench (low b) n r)
    (open_refusals b.setup n b.seats r) (open_refusals (low b).setup n (low b).seats r) _ _ own own
    (unfold open_refusals low in simp (live_seat b.setup b.seats n live, coupling_live b.setup.lesson b.seats i.meek))
    (λ h. match_plain b.setup (opening n r) (aired (opened_bench b n r)) _ _ (opened_low (unfold open_refusals in h.0)))
  where
    opened_low : no_such_seat n ≡ false → opened_bench (low b) n r ≡ low (aired (opened_bench b n r))
    opened_low real =
        unfold opened_bench low in
        simp (real, set_elsewhere closed_seat, set_elsewhere {A = ℕ} 0, lesson_flag b.setup n real, live)

pub match_closing : (b : Bench) (n : ℕ) → lesson b.setup n ≡ false → Match b.setup (closing n) (keeping b (closing n)) (step (low b) (closing n))
unfolding does close_said seat_verdict
match_closing b n live =
    match_judged b.setup (closing n) b (aired (closed_bench b n)) (closed_bench (low b) n)
    (seat_refusals n (seat_of b.seats n).opened) (seat_refusals n (seat_of (low b).seats n).opened) tt tt (λ u. done) (λ u. done)
    (unfold seat_refusals low in simp (live_seat b.setup b.seats n live))
    (λ h. match_plain b.setup (closing n) (aired (closed_bench b n)) _ done (closed_low (unfold seat_refusals in h.0)))
  where
    closed_low : no_such_seat n ≡ false → closed_bench (low b) n ≡ low (aired (closed_bench b n))
    closed_low real = unfold closed_bench low in simp (real, set_elsewhere closed_seat, lesson_flag b.setup n real, live)

-- ---- totals, which are each seat's own

pub match_totals : (b : Bench) (n : ℕ) → lesson b.setup n ≡ false → Match b.setup (totals n) (keeping b (totals n)) (step (low b) (totals n))
unfolding does totals_said fixed
match_totals b n live = grind (arith, seat_low)

-- ---- the radio's own events

pub match_side : (b : Bench) (standby : Bool) → Match b.setup (side standby) (keeping b (side standby)) (step (low b) (side standby))
unfolding does side_said
match_side b standby =
    match_judged b.setup (side standby) b (aired (with_side b standby)) (with_side (low b) standby)
    (side_refusals b.setup) (side_refusals (low b).setup) tt tt (λ u. done) (λ u. done)
    (unfold low in refl) (λ h. match_plain b.setup (side standby) (aired (with_side b standby)) _ done (unfold low in refl))
