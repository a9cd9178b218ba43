-- The bytes of reports, read back, and the numbers of reports.
use Prim.Native.Nat.{ℕ, suc, ◌-◌, ◌%◌, ◌^◌, ◌<◌}
use mathlib.Core.Path.{◌≡◌, refl, sym, ap, subst, ◌∙◌}
use mathlib.Core.Bool.{Bool, true, false, cond, not}
use mathlib.Core.List.{List, [], ◌∷◌}
use native.Mathlib.Omega.{arith}
use lib.Dec.{leb, eqb}
use lib.ListN.{length, get_or}
use borrow.Author.Tests.{le-ltb, ne_eqb, eq-eqb}
use Rattle.base.proofs.Truths.{and_none, ◌and◌}
use Rattle.packet.specs.Refusals.{NoCase, accepted}
use Rattle.packet.proofs.Judged.{accepts}
use Rattle.reader.specs.Reading.{read_rx}
use Rattle.packet.specs.Packet.{payload}
use Rattle.packet.specs.Messages.{from_rx}
use Rattle.writer.specs.Writing.{head_of, encode}
use Rattle.record.specs.Record.{no_such_seat, entry_of, with_entry, with_sequences, closed_seat, seat_of, fresh_bench, opened_seat}
use Rattle.record.proofs.Seats.{entry_put, entry_changed, flag_is_seat, entry_none, entry_there}
use Rattle.seats.specs.Opening.{opened_bench, closed_bench, seat_refusals}
use Rattle.seats.specs.Ticking.{is_due, due_seats, ticked_bench}
use Rattle.seats.proofs.TickingLaws.{due_open}
use Rattle.air.specs.Air.{keyings, bench_air}
use Rattle.sending.specs.Sending.{after_closings, record_for, records, sent_bench, one_further}
use Rattle.sending.proofs.BySeat.{seat_record}
use Rattle.seats.proofs.Accepted.{open_accepted}
use Rattle.reporting.specs.Reporting.{report_of, report_bytes, report_refusals, report_said, reported_bench, next_sequence}
use Rattle.reporting.proofs.Accepted.{report_accepted}
use Rattle.bench.specs.Step.{Call, opening, closing, packet, tick, report, received, transmitter, side, totals, own, ticked, written, keeping, after}
use Rattle.record.specs.declared.setup.Setup.{Setup}
use Rattle.record.specs.declared.seat.Seat.{Seat}
use Rattle.record.specs.declared.whole.Bench.{Bench}
use Rattle.seats.specs.declared.opening.Request.{Request}
use Rattle.demands.specs.ExactCalls.{refusals_of}
use Rattle.demands.specs.Kept.{Kept, AllInRange}
use Rattle.demands.specs.AirKept.{AirRight}
use Rattle.demands.specs.RoundTrip.{Narrow}
use Rattle.air.specs.InWords.{place_of, Shows, EachPlaced}
use Rattle.air.proofs.InWords.{shows}
use Rattle.reporting.specs.InWords.{OneUp}
use Rattle.reporting.proofs.InWords.{tells, one_up}
use Rattle.sending.specs.InWords.{DueAlone}
use Rattle.sending.proofs.InWords.{due_alone}
use Rattle.demands.specs.ReportTells.{IsReport, MovesNoNumber, OnlyItsNumber, ReportTells}
use Rattle.demands.proofs.Demand1.Calls.{bench_after, was_accepted_lem, accepted_bench}
use Rattle.hearing.specs.Hearing.{heard_bench}
use Rattle.demands.proofs.Bench.EventsSet.{stays}
use Rattle.demands.proofs.Demand2.RoundTrip.{reports_read_back}
use Rattle.demands.proofs.Bench.AirKept.{air_kept}
use Rattle.demands.proofs.Bench.Kept.{kept_throughout}
use Rattle.demands.proofs.Bench.SeatAfter.{seat_after_lem, setup_kept}
use Rattle.demands.proofs.Bench.Runs.{after_run}
use Rattle.demands.proofs.Bench.OnTheAir.{on_the_air}
use Rattle.demands.proofs.Bench.KeyingsInOrder.{other_calls}

-- ---- its bytes

second_byte : (ext : ℕ) (b : Bench) (n timestamp : ℕ) (sound : List ℕ)
    → get_or (encode ext (from_rx (report_of b n timestamp)) sound) 1 0 ≡ cond (eqb (length sound) 0) 123 8 % 256
unfolding encode head_of
second_byte ext b n timestamp sound = refl

some_bytes : (sound : List ℕ) → (sound ≡ [] → ⊥) → cond (eqb (length sound) 0) 123 8 % 256 ≡ 8
some_bytes [] some = absurd (some refl)
some_bytes (x ∷ sound) some = rw (ne_eqb (suc (length sound)) 0 (λ (z : suc (length sound) ≡ 0). omega arith))

is_report : (b : Bench) → AirRight b → Shows b b.air → Kept b → b.setup.ext < 2 ^ 16 → (n timestamp : ℕ) (sound : List ℕ) (room : ℕ) (bytes : List ℕ) → timestamp < 2 ^ 32
    → NoCase (report_refusals b n timestamp sound room) → bytes ≡ encode b.setup.ext (from_rx (report_of b n timestamp)) sound → IsReport b n timestamp sound bytes
unfolding report_said report_bytes report_of
is_report b right shown kept ext-fits n timestamp sound room bytes time-fits none are =
    let narrow : Narrow b.setup.ext (from_rx (report_of b n timestamp)) = record { extension = ext-fits; sequence = number_fits (no_such_seat n) refl; timestamp = time-fits; ssrc = (kept.each_seat n).ssrc_fits } in
    let back = reports_read_back b right n timestamp sound room _ narrow (accepts _ (report_refusals b n timestamp sound room) none) in
    record {
      message = report_of b n timestamp;
      reads = ap (read_rx b.setup.ext) are ∙ back.0;
      tells = tells b n timestamp shown;
      audio = ap payload are ∙ back.1;
      type_r2s = λ q. ap (λ (l : List ℕ). get_or l 1 0) are ∙ second_byte b.setup.ext b n timestamp sound ∙ rw q;
      type_audio = λ q. ap (λ (l : List ℕ). get_or l 1 0) are ∙ second_byte b.setup.ext b n timestamp sound ∙ some_bytes sound q;
    }
  where
    number_fits : (t : Bool) → no_such_seat n ≡ t → entry_of 0 b.sequences n < 2 ^ 16
    number_fits true q = rw (entry_none b.sequences n 0 q) (omega arith)
    number_fits false q = rw (entry_there b.sequences n 0 q) (kept.sequences_fit (n - 1))

-- what is known of a bench that calls lead to, where numbers fit
record Reached (b : Bench) : Type 0 where
  right : AirRight b
  placed : EachPlaced b
  kept : Kept b
  fits : b.setup.ext < 2 ^ 16

one : (b : Bench) → Reached b → (n timestamp : ℕ) (sound : List ℕ) (room : ℕ) (bytes : List ℕ) → timestamp < 2 ^ 32
    → (keeping b (report n timestamp sound room)).answer ≡ accepted (written bytes) → IsReport b n timestamp sound bytes
one b known n timestamp sound room bytes time-fits e =
    is_report b known.right (subst (Shows b) (sym known.right) (shows b known.placed)) known.kept known.fits n timestamp sound room bytes time-fits
    (was_accepted_lem b (report n timestamp sound room) (written bytes) e).0 (air_kept.report_tells b n timestamp sound bytes room e)

-- ---- the reports of a tick

module _ (b : Bench) (ms timestamp room : ℕ) (closed due : List Bool) (sent : List (List ℕ)) (e : (keeping b (tick ms timestamp room)).answer ≡ accepted (ticked closed due sent)) where
  abbrev left : Bench
  left = (keeping b (tick ms timestamp room)).bench

  -- the bench that the reports show
  abbrev shown_bench : Bench
  shown_bench = with_sequences (keeping b (tick ms timestamp room)).bench b.sequences

  clear : NoCase (refusals_of b (tick ms timestamp room))
  clear = (was_accepted_lem b (tick ms timestamp room) (ticked closed due sent) e).0

  is_shown : after_closings b ms ≡ shown_bench
  unfolding sent_bench ticked_bench bench_air keyings
  is_shown = sym (ap (λ (x : Bench). with_sequences x b.sequences) (accepted_bench b (tick ms timestamp room) clear))

  shown_kept : Kept b → Kept shown_bench
  shown_kept kept = grind (arith, kept_throughout)

  shown_right : AirRight b → AirRight shown_bench
  unfolding bench_air keyings
  shown_right right = air_kept.by_each_call b (tick ms timestamp room) right

  shown_placed : EachPlaced b → EachPlaced shown_bench
  shown_placed placed n low high =
      subst (λ (o : List ℕ). place_of n o < length o) (sym (other_calls b (tick ms timestamp room) (λ n p h. let z : ◌≡◌ {A = ℕ} 0 1 = cc in omega arith))) (placed n low high)

  module _ (eight : length b.seats ≡ 8) (n : ℕ) (is_due_lem : entry_of false due n ≡ true) where
    real : no_such_seat n ≡ false
    real = flag_is_seat due n is_due_lem

    due_now : is_due ms (seat_of b.seats n) ≡ true
    unfolding seat_of is_due
    due_now =
        let is : due_seats b ms ≡ due = cc (was_accepted_lem b (tick ms timestamp room) (ticked closed due sent) e).1 in
        sym (entry_changed (is_due ms) closed_seat refl b.seats n) ∙ ap (λ (l : List Bool). entry_of false l n) is ∙ is_due_lem

    is_open : (seat_of shown_bench.seats n).opened ≡ true
    is_open = ap (λ (s : Seat). s.opened) (seat_after_lem b (tick ms timestamp room) eight clear n) ∙ due_open ms (seat_of b.seats n) due_now

    its_record : entry_of [] sent n ≡ report_bytes shown_bench n timestamp []
    unfolding records
    its_record =
        let is : records b ms timestamp ≡ sent = cc (was_accepted_lem b (tick ms timestamp room) (ticked closed due sent) e).1 in
        let are : due_seats b ms ≡ due = cc (was_accepted_lem b (tick ms timestamp room) (ticked closed due sent) e).1 in
        ap (λ (l : List (List ℕ)). entry_of [] l n) (sym is)
        ∙ seat_record (after_closings b ms) timestamp (due_seats b ms) n real
        ∙ ap (record_for (after_closings b ms) timestamp n) (ap (λ (l : List Bool). entry_of false l n) are ∙ is_due_lem)
        ∙ ap (λ (x : Bench). report_bytes x n timestamp []) is_shown

    may_be_asked : NoCase (report_refusals shown_bench n timestamp [] (length (report_bytes shown_bench n timestamp [])))
    unfolding report_refusals seat_refusals
    may_be_asked = real and ap not is_open and and_none (not (leb 1 shown_bench.signals)) and le-ltb (length (report_bytes shown_bench n timestamp [])) (length (report_bytes shown_bench n timestamp [])) (omega arith) and tt

by_tick : (b : Bench) → Reached b → (ms timestamp room : ℕ) (closed due : List Bool) (sent : List (List ℕ)) → timestamp < 2 ^ 32
    → (keeping b (tick ms timestamp room)).answer ≡ accepted (ticked closed due sent) → (n : ℕ) → entry_of false due n ≡ true
    → IsReport (with_sequences (keeping b (tick ms timestamp room)).bench b.sequences) n timestamp [] (entry_of [] sent n)
unfolding report_bytes
by_tick b known ms timestamp room closed due sent time-fits e n is_due_lem =
    let eight = known.kept.eight_seats in
    let right = shown_right b ms timestamp room closed due sent e known.right in
    let placed = shown_placed b ms timestamp room closed due sent e known.placed in
    let x = with_sequences (keeping b (tick ms timestamp room)).bench b.sequences in
    is_report x right (subst (Shows x) (sym right) (shows x placed)) (shown_kept b ms timestamp room closed due sent e known.kept)
    (subst (λ (s : Setup). s.ext < 2 ^ 16) (sym (setup_kept b (tick ms timestamp room))) known.fits) n timestamp [] _ _ time-fits
    (may_be_asked b ms timestamp room closed due sent e eight n is_due_lem) (its_record b ms timestamp room closed due sent e eight n is_due_lem)

-- ---- its number

module _ (b : Bench) (known : Reached b) where
  put_at : {A : Type 0} (none : A) (entries : List A) (m n : ℕ) (entry : A) → length entries ≡ 8 → no_such_seat m ≡ false
      → (t : Bool) → eqb n m ≡ t → entry_of none (with_entry entries m entry) n ≡ cond t entry (entry_of none entries n)
  put_at none entries m n entry eight real t e = entry_put none entries m n entry eight real ∙ rw e

  first_number : (n : ℕ) (r : Request) (id : ℕ) → (keeping b (opening n r)).answer ≡ accepted (own id) → let next = (keeping b (opening n r)).bench in
      (entry_of 0 next.sequences n ≡ r.sequence) × ((seat_of next.seats n).ssrc ≡ r.ssrc) × ((k : ℕ) → (k ≡ n → ⊥) → entry_of 0 next.sequences k ≡ entry_of 0 b.sequences k)
  unfolding opened_bench opened_seat seat_of
  first_number n r id e =
      let none = (was_accepted_lem b (opening n r) (own id) e).0 in
      let next = accepted_bench b (opening n r) none in
      let real = (open_accepted b.setup n b.seats r none).is_seat in (
        ap (λ (x : Bench). entry_of 0 x.sequences n) next ∙ put_at 0 b.sequences n n r.sequence known.kept.eight_sequences real true (eq-eqb n n refl),
        ap (λ (x : Bench). (seat_of x.seats n).ssrc) next ∙ ap (λ (s : Seat). s.ssrc) (put_at closed_seat b.seats n n _ known.kept.eight_seats real true (eq-eqb n n refl)),
        λ k other. ap (λ (x : Bench). entry_of 0 x.sequences k) next ∙ put_at 0 b.sequences n k r.sequence known.kept.eight_sequences real false (ne_eqb k n other),
      )

  number_moved : (n timestamp : ℕ) (sound : List ℕ) (room : ℕ) (bytes : List ℕ)
      → (keeping b (report n timestamp sound room)).answer ≡ accepted (written bytes) → OnlyItsNumber n b.sequences (keeping b (report n timestamp sound room)).bench.sequences
  unfolding reported_bench
  number_moved n timestamp sound room bytes e =
      let none = (was_accepted_lem b (report n timestamp sound room) (written bytes) e).0 in
      let real = (report_accepted b n timestamp sound room none).is_seat in
      let last = entry_of 0 b.sequences n in
      let small : last < 65536 = rw (entry_there b.sequences n 0 real) (known.kept.sequences_fit (n - 1)) in
      let moved = put_at 0 b.sequences n in
      subst (OnlyItsNumber n b.sequences) (sym (ap (λ (x : Bench). x.sequences) (accepted_bench b (report n timestamp sound room) none)))
      (record {
        its_own = subst (OneUp last) (sym (moved n (next_sequence last) known.kept.eight_sequences real true (eq-eqb n n refl))) (one_up last small);
        others = λ k other. moved k (next_sequence last) known.kept.eight_sequences real false (ne_eqb k n other);
      })

  due_moved : (ms timestamp room : ℕ) (closed due : List Bool) (sent : List (List ℕ))
      → (keeping b (tick ms timestamp room)).answer ≡ accepted (ticked closed due sent) → DueAlone due b.sequences (keeping b (tick ms timestamp room)).bench.sequences
  unfolding sent_bench ticked_bench
  due_moved ms timestamp room closed due sent e =
      let passed = was_accepted_lem b (tick ms timestamp room) (ticked closed due sent) e in
      let are : due_seats b ms ≡ due = cc passed.1 in
      subst (DueAlone due b.sequences) (sym (ap (λ (x : Bench). x.sequences) (accepted_bench b (tick ms timestamp room) passed.0) ∙ ap (λ (l : List Bool). one_further l b.sequences) are))
      (due_alone due b.sequences known.kept.eight_sequences known.kept.sequences_fit)

none_moved : (b : Bench) (c : Call) → MovesNoNumber c → (keeping b c).bench.sequences ≡ b.sequences
unfolding closed_bench heard_bench
none_moved b c none = stays (λ (x : Bench). x.sequences) b c (by_call c none)
  where
    by_call : (c : Call) → MovesNoNumber c → (bench_after b c).sequences ≡ b.sequences
    by_call (opening n r) none = absurd (none.no_opening n r refl)
    by_call (closing n) none = refl
    by_call (packet n p) none = refl
    by_call (tick ms timestamp room) none = absurd (none.no_tick ms timestamp room refl)
    by_call (report n timestamp sound room) none = absurd (none.no_report n timestamp sound room refl)
    by_call (received signals level) none = refl
    by_call (transmitter healthy) none = refl
    by_call (side standby) none = refl
    by_call (totals n) none = refl

-- ---- every run

reached : (setup : Setup) (cs : List Call) → setup.ext < 2 ^ 16 → AllInRange cs → Reached (after keeping (fresh_bench setup) cs)
reached setup cs ext-fits fit =
    let same = after_run (λ (x : Bench). x.setup ≡ setup) (λ x c e. setup_kept x c ∙ e) (fresh_bench setup) cs (unfold fresh_bench in refl) in
    record {
      right = air_kept.in_every_run setup cs;
      placed = (on_the_air.in_every_run setup cs).0;
      kept = kept_throughout.in_every_run setup cs fit;
      fits = subst (λ (s : Setup). s.ext < 2 ^ 16) (sym same) ext-fits;
    }

pub report_tells : ReportTells
report_tells setup cs ext-fits fit =
    let b = after keeping (fresh_bench setup) cs in
    let known = reached setup cs ext-fits fit in
    record { one = one b known; by_tick = by_tick b known; number_moved = number_moved b known; due_moved = due_moved b known; first_number = first_number b known; none_moved = none_moved b }
