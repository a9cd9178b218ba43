-- What a report tells, when it is turned away, and its next number, held to InWords.
use Prim.Native.Nat.{ℕ, ◌+◌, ◌≤◌, ◌<◌}
use mathlib.Core.Path.{◌≡◌, refl, subst}
use mathlib.Core.Bool.{Bool, true, false, cond, not, ◌&&◌, ◌||◌}
use mathlib.Core.List.{List}
use mathlib.Core.Logic.{◌↔◌, ◌⊎◌, inl, inr}
use native.Mathlib.Omega.{arith}
use Rattle.std.proofs.lemmas.Bool.Decides.{nat_tests}
use lib.Dec.{ltb, leb, eqb}
use lib.ListN.{length}
use borrow.Author.Tests.{ltb-true, leb-true, le-leb, ne_eqb}
use Rattle.base.proofs.Truths.{◌and◌}
use Rattle.packet.specs.Quality.{quality}
use Rattle.packet.proofs.InWords.{MetIf, Agree, met_alike, is_quality}
use Rattle.writer.specs.Writing.{audio_writable}
use Rattle.writer.proofs.InWords.{no_audio}
use Rattle.record.specs.Kind.{kind_of, has_one_side}
use Rattle.record.specs.Record.{no_such_seat, entry_of, seat_of}
use Rattle.record.specs.declared.whole.Bench.{Bench}
use Rattle.air.specs.InWords.{TakesPart, Leads, all_of_them, the_first_one, Shows}
use Rattle.seats.specs.Opening.{own_id, seat_refusals}
use Rattle.seats.specs.InWords.{SeatBarred}
use Rattle.seats.proofs.InWords.{seat_13, seat_14, seat_range, own_is}
use Rattle.reporting.specs.Reporting.{squ_told, report_of, report_bytes, audio_barred, report_refusals, next_sequence}
use Rattle.reporting.specs.InWords.{Tells, ReportBarred, its_seat, no_length, no_signal, under_20, under_24, OneUp, up, wrapping}
use Rattle.reporting.proofs.ReportLength.{two_items, report_long}

-- ---- what it tells, where the record has its air right

told_when : (k n : ℕ) → (leb k n ≡ true) ↔ (k ≤ n)
told_when k n = (leb-true k n, le-leb k n)

module _ (b : Bench) (n timestamp : ℕ) (shown : Shows b b.air) where
  pub tells : Tells b n timestamp (report_of b n timestamp)
  unfolding report_of kind_of
  tells =
      record {
        at = refl;
        ssrc = refl;
        numbered = refl;
        off = λ none. ((shown.nobody none).0, by_flag (entry_of false b.air.leads n) refl none);
        top_type = shown.top_type;
        own_id = λ l. rw ((shown.leads n).1 l) (own_is n (seat_of b.seats n).call);
        other_id = λ none k p. rw (not_flag none) (shown.an_id k p);
        smallest_id = λ none k l. rw (not_flag none) (shown.smallest_id k l);
        pm = refl;
        ptts = shown.ptts;
        squ = told_when 1 b.signals;
        sct = told_when 2 b.signals;
        no_quality = λ e. rw e;
        a_quality = λ h. (quality b.level, rw (le-leb 1 b.signals h), is_quality b.level);
        no_item = λ one two. rw (ne_eqb b.setup.kind 1 one, ne_eqb b.setup.kind 2 two);
        main_told = λ e f. rw (e, f);
        standby_told = λ e f. rw (e, f);
        zero_told = λ e. rw e;
      }
    where
      not_flag : (Leads b n → ⊥) → entry_of false b.air.leads n ≡ false
      not_flag none = by_case (entry_of false b.air.leads n) refl
        where
          by_case : (t : Bool) → entry_of false b.air.leads n ≡ t → t ≡ false
          by_case true e = absurd (none ((shown.leads n).0 e))
          by_case false e = refl

      takes_part : Leads b n → TakesPart b n
      takes_part (all_of_them t mode) = t.part
      takes_part (the_first_one t mode first) = t.part

      by_flag : (t : Bool) → entry_of false b.air.leads n ≡ t → ((k : ℕ) → TakesPart b k → ⊥) → cond t (own_id n (seat_of b.seats n).call) b.air.id ≡ 0
      by_flag true e none = absurd (none n (takes_part ((shown.leads n).0 e)))
      by_flag false e none = (shown.nobody none).1

-- ---- 13, 14, 25, 26

module _ (b : Bench) (n : ℕ) (sound : List ℕ) (room : ℕ) where
  abbrev Barred : (number cause : ℕ) → Type 0
  Barred = ReportBarred b n sound room

  by_13 : MetIf Barred 13 (no_such_seat n)
  by_13 = met_alike (seat_13 b n) (its_seat 13) from
    where
      from : (c : ℕ) → Barred 13 c → SeatBarred b n 13 c
      from c (its_seat _ _ s) = s

  by_14 : MetIf Barred 14 (not (seat_of b.seats n).opened)
  by_14 = met_alike (seat_14 b n) (its_seat 14) from
    where
      from : (c : ℕ) → Barred 14 c → SeatBarred b n 14 c
      from c (its_seat _ _ s) = s

  by_audio : MetIf Barred 25 (audio_barred b.signals (length sound))
  by_audio = record { if_holds = λ e. if_holds (audio_writable (length sound)) refl e; only_if = only_if }
    where
      if_holds : (t : Bool) → audio_writable (length sound) ≡ t → not t || (not (squ_told b.signals) && not (eqb (length sound) 0)) ≡ true → Barred 25 0
      if_holds false q e = let none = no_audio (length sound) q in no_length none.0 none.1 none.2 none.3
      if_holds true q e = no_signal (grind (arith, nat_tests)) (grind (arith, nat_tests))

      only_if : (c : ℕ) → Barred 25 c → (audio_barred b.signals (length sound) ≡ true) × (c ≡ 0)
      only_if c (its_seat _ _ s) = absurd (let r = seat_range b n s in omega arith)
      only_if c (no_length a d e f) = (grind (arith, nat_tests), refl)
      only_if c (no_signal e a) = (grind (arith, nat_tests), refl)

  -- both items, or not
  two_sides : (b.setup.kind ≡ 1) ⊎ (b.setup.kind ≡ 2) → has_one_side (kind_of b.setup.kind) ≡ false
  unfolding kind_of
  two_sides (inl e) = rw e
  two_sides (inr e) = rw e

  which_two : has_one_side (kind_of b.setup.kind) ≡ false → (b.setup.kind ≡ 1) ⊎ (b.setup.kind ≡ 2)
  unfolding kind_of
  which_two e = grind (arith, nat_tests)

  by_room : (timestamp : ℕ) → MetIf Barred 26 (ltb room (length (report_bytes b n timestamp sound)))
  by_room timestamp = record { if_holds = λ e. if_holds (two_items b) refl (ltb-true room (length (report_bytes b n timestamp sound)) e); only_if = only_if }
    where
      if_holds : (t : Bool) → two_items b ≡ t → room < length (report_bytes b n timestamp sound) → Barred 26 0
      if_holds true e h = under_24 (grind (arith, nat_tests)) (which_two (grind (arith, nat_tests))) (grind (arith, report_long))
      if_holds false e h = under_20 (grind (arith, report_long))

      only_if : (c : ℕ) → Barred 26 c → (ltb room (length (report_bytes b n timestamp sound)) ≡ true) × (c ≡ 0)
      only_if c (its_seat _ _ s) = absurd (let r = seat_range b n s in omega arith)
      only_if c (under_20 h) = (grind (arith, nat_tests, report_long), refl)
      only_if c (under_24 some sides h) = let e = two_sides sides in (grind (arith, nat_tests, report_long), refl)

  pub report_agrees : (timestamp : ℕ) → Agree (ReportBarred b n sound room) (report_refusals b n timestamp sound room)
  unfolding report_refusals seat_refusals
  report_agrees timestamp = by_13 and λ _. by_14 and λ _. by_audio and λ _. by_room timestamp and λ _. tt

-- ---- its next number

pub one_up : (last : ℕ) → last < 65536 → OneUp last (next_sequence last)
one_up last fits = by_end (ltb last 65535) refl
  where
    by_end : (t : Bool) → ltb last 65535 ≡ t → OneUp last (next_sequence last)
    by_end true e = let next : last + 1 ≡ next_sequence last = grind (arith, nat_tests) in subst (OneUp last) next (up (grind (arith, nat_tests)))
    by_end false e = let next : 0 ≡ next_sequence last = grind (arith, nat_tests) in subst (OneUp last) next (wrapping (grind (arith, nat_tests)))
