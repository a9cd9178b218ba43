-- The five wrong benches: where each breaks a promise, and that demand 3 alone would let it pass.
use Prim.Native.Nat.{ℕ}
use mathlib.Core.Path.{◌≡◌, refl, sym, ap, ap₂, ◌∙◌}
use mathlib.Core.Bool.{Bool, false, cond, false≢true}
use mathlib.Core.List.{List, [], ◌∷◌, map}
use native.Mathlib.Omega.{arith}
use Rattle.base.proofs.Truths.{and_none}
use Rattle.packet.specs.Refusals.{Answer, accepted, mapped}
use Rattle.base.specs.Lists.{how_many}
use Rattle.base.specs.Order.{centred, distance, late, missing}
use Rattle.packet.specs.Packet.{payload, payload_allowed, field_allowed, after_field, off, normal}
use Rattle.packet.specs.Items.{all_zero, items_behind, item_allowed, all_allowed, has_type, no_type_twice, run_allowed, items_allowed, items_of, sqi_among, climax_among, side_among, kept}
use Rattle.packet.specs.Quality.{quality}
use Rattle.reader.specs.Reading.{reader_refusals, items_here, message_of}
use Rattle.writer.specs.Writing.{rising_items, item_bytes, words_of, head_of, encode}
use Rattle.record.specs.Kind.{kind_of}
use Rattle.record.specs.Record.{seat_numbers, opened_seat, fresh_bench, seat_of, lesson}
use Rattle.record.proofs.Seats.{entry_changed}
use Rattle.seats.specs.Opening.{any_coupling, open_refusals, open_said, opened_bench, seat_refusals}
use Rattle.air.specs.Air.{takes_part, keyings_of, keyings, top_rank, at_rank, leaders, added, on_air, among, smallest, any_sends, air_of, bench_air}
use Rattle.air.specs.Order.{begins, to_last, order_after}
use Rattle.hearing.specs.Account.{totals_after, total_too_large}
use Rattle.hearing.specs.Hearing.{field_heard, keying_barred, id_allowed, side_barred, message_refusals, packet_refusals, heard_seat, takes_effect, side_after, heard_bench, same_field, is_sent, hearing, packet_said}
use Rattle.reporting.specs.Reporting.{report_of, report_bytes, report_refusals, report_said, reported_bench}
use Rattle.bench.specs.Step.{Call, packet, Said, done, own, heard, ticked, written, totalled, Outcome, Machine, does, keeping, after}
use Rattle.record.specs.declared.setup.Setup.{Setup}
use Rattle.record.specs.declared.whole.Bench.{Bench}
use Rattle.demands.specs.Apart.{ptt_of, live_above_test, as_seen, among_live, records_seen, fixed, compared, audio_sent}
use Rattle.demands.specs.LessonsSeen.{enters, keys, asked}
use Rattle.demands.specs.WrongBenches.{Obeys, lab_after, Answers, Leaves, WrongBench, refusing, repeating, ignoring, nodding, inventing, with_bytes, with_count, retold, wrong, ApartAlone, entered, reported, spoken, Tried, WrongBenches}
use Rattle.packet.proofs.Judged.{never}
use Rattle.demands.proofs.Demand3.LiveTicks.{flag_compared, live_alike}
use Rattle.demands.proofs.Demand3.Apart.{lessons_apart}
use Rattle.demands.proofs.Demand2.Nodding.{nodding_apart}

-- ---- the calls that are tried, computed

tried : Tried
unfolding centred distance late missing payload payload_allowed field_allowed after_field all_zero items_behind item_allowed all_allowed has_type no_type_twice run_allowed items_allowed items_of sqi_among climax_among side_among kept quality reader_refusals items_here message_of rising_items item_bytes words_of head_of encode kind_of opened_seat fresh_bench seat_of lesson any_coupling open_refusals open_said opened_bench takes_part keyings_of keyings top_rank at_rank leaders added on_air among smallest how_many any_sends air_of bench_air field_heard keying_barred id_allowed side_barred seat_refusals totals_after total_too_large message_refusals packet_refusals heard_seat begins to_last order_after takes_effect side_after heard_bench same_field is_sent hearing packet_said report_of report_bytes report_refusals report_said reported_bench does after
tried = grind arith

-- ---- each breaks

not_refusing : (number cause : Bench → Call → ℕ) → Answers (wrong (refusing number cause)) [] (enters 1) → ⊥
not_refusing number cause h = never (own 1) _ _ (sym (h ∙ tried.opens))

not_repeating : (bytes : List ℕ) → Answers (wrong (repeating bytes)) entered (asked 1) → Answers (wrong (repeating bytes)) reported (asked 1) → ⊥
not_repeating bytes first second = grind (arith, tried)

not_ignoring : (says : Bench → Call → Answer Said) → Leaves (wrong (ignoring says)) [] (enters 1) → ⊥
not_ignoring says h =
    false≢true (sym tried.was_closed ∙ ap (λ (b : Bench). (seat_of b.seats 1).opened) h ∙ tried.is_open)

not_nodding : Leaves (wrong nodding) spoken (keys 1 off 2) → ⊥
not_nodding h =
    let same : ◌≡◌ {A = ℕ} normal off = sym tried.nod_releases_not ∙ ap (λ (b : Bench). ptt_of b 1) h ∙ tried.releases in omega arith

not_nodding_twice : Answers (wrong nodding) spoken (keys 1 normal 1) → ⊥
not_nodding_twice h = never _ 20 0 (sym tried.nod_twice ∙ h ∙ tried.not_twice)

not_inventing : (count : ℕ) → Answers (wrong (inventing count)) entered (keys 1 normal 1) → Answers (wrong (inventing count)) spoken (keys 1 normal 3) → ⊥
not_inventing count first third = grind (arith, tried)

shut_out : (w : WrongBench) → Obeys (wrong w) → ⊥
shut_out (refusing number cause) keeps = not_refusing number cause (ap (λ (o : Outcome). o.answer) (keeps (lab_after []) (enters 1)))
shut_out (repeating bytes) keeps =
    not_repeating bytes
    (ap (λ (o : Outcome). o.answer) (keeps (lab_after entered) (asked 1)))
    (ap (λ (o : Outcome). o.answer) (keeps (lab_after reported) (asked 1)))
shut_out (ignoring says) keeps = not_ignoring says (ap (λ (o : Outcome). o.bench) (keeps (lab_after []) (enters 1)))
shut_out nodding keeps = not_nodding (ap (λ (o : Outcome). o.bench) (keeps (lab_after spoken) (keys 1 off 2)))
shut_out (inventing count) keeps =
    not_inventing count
    (ap (λ (o : Outcome). o.answer) (keeps (lab_after entered) (keys 1 normal 1)))
    (ap (λ (o : Outcome). o.answer) (keeps (lab_after spoken) (keys 1 normal 3)))

-- ---- demand 3 alone: a bench that never changes

quiet_start : (setup : Setup) → live_above_test (fresh_bench setup) seat_numbers ≡ false
unfolding live_above_test fresh_bench takes_part seat_of
quiet_start setup = simp and_none

module _ (machine : Machine) (still : (b : Bench) (c : Call) → (machine b c).bench ≡ b) where
  stays : (b : Bench) (cs : List Call) → after machine b cs ≡ b
  unfolding after
  stays b [] = refl
  stays b (c ∷ cs) = stays (machine b c).bench cs ∙ still b c

  still_apart : ApartAlone machine
  still_apart setup xs ys e = grind (arith, quiet_start, stays)

-- ---- demand 3 alone: a bench right but for what it says

-- what is compared of the retold is a retelling of what is compared, and the audio is kept
record Retelling (tell : Said → Said) : Type 0 where
  seen : Setup → (up : Bool) → Said → Said
  follows : (setup : Setup) (up keys_test : Bool) (s : Said) → fixed setup up keys_test (tell s) ≡ seen setup up (fixed setup up keys_test s)
  same_audio : (s : Said) → audio_sent (accepted (tell s)) ≡ audio_sent (accepted s)

module _ (tell : Said → Said) (r : Retelling tell) where
  after_retold : (b : Bench) (cs : List Call) → after (retold tell) b cs ≡ after keeping b cs
  unfolding after
  after_retold b cs = grind arith

  compared_retold : (setup : Setup) (c : Call) (b : Bench)
      → compared setup c (retold tell b c) ≡ mapped (r.seen setup (live_above_test (keeping b c).bench seat_numbers)) (compared setup c (keeping b c))
  unfolding compared
  compared_retold setup c b = grind arith

  audio_retold : (a : Answer Said) → audio_sent (mapped tell a) ≡ audio_sent a
  unfolding audio_sent
  audio_retold a = grind arith

  retold_apart : ApartAlone (retold tell)
  unfolding audio_sent
  retold_apart setup xs ys e = rw (after_retold (fresh_bench setup) xs, after_retold (fresh_bench setup) ys)
      (record {
        together = (lessons_apart setup xs ys e).together;
        together_after = (lessons_apart setup xs ys e).together_after;
        same = λ c live.
            compared_retold setup c (after keeping (fresh_bench setup) xs)
            ∙ ap₂ (λ (up : Bool) (a : Answer Said). mapped (r.seen setup up) a) ((lessons_apart setup xs ys e).together_after c live) ((lessons_apart setup xs ys e).same c live)
            ∙ sym (compared_retold setup c (after keeping (fresh_bench setup) ys));
        no_lesson_audio = λ n p hidden up.
            audio_retold (keeping (after keeping (fresh_bench setup) xs) (packet n p)).answer ∙ (lessons_apart setup xs ys e).no_lesson_audio n p hidden up;
        on_air = (lessons_apart setup xs ys e).on_air;
        on_record = (lessons_apart setup xs ys e).on_record;
      })

-- the same bytes for each due seat; what is seen of them comes from the due live seats alone
abbrev bytes_for : List ℕ → List Bool → List (List ℕ)
bytes_for bytes due = map (λ d. cond d bytes []) due

bytes_seen : (setup : Setup) (up : Bool) (bytes : List ℕ) (due : List Bool)
    → records_seen setup up (bytes_for bytes due) ≡ records_seen setup up (bytes_for bytes (among_live setup due))
unfolding records_seen
bytes_seen setup up bytes due = live_alike setup (λ hidden r. cond hidden [] r) (λ x y. refl) _ _
    (λ n real live. ap (as_seen up)
    (entry_changed (λ d. cond d bytes []) false refl due n
    ∙ ap (λ (d : Bool). cond d bytes []) (sym (flag_compared setup n real live due))
    ∙ sym (entry_changed (λ d. cond d bytes []) false refl (among_live setup due) n)))

bytes_retelling : (bytes : List ℕ) → Retelling (with_bytes bytes)
unfolding fixed audio_sent
bytes_retelling bytes = record { seen = seen; follows = follows; same_audio = same_audio }
  where
    seen : Setup → (up : Bool) → Said → Said
    seen setup up done = done
    seen setup up (own id) = own id
    seen setup up (heard h sound) = heard h sound
    seen setup up (ticked closed due records) = ticked closed due (records_seen setup up (bytes_for bytes due))
    seen setup up (written told) = written (as_seen up bytes)
    seen setup up (totalled packets missing) = totalled packets missing

    follows : (setup : Setup) (up keys_test : Bool) (s : Said) → fixed setup up keys_test (with_bytes bytes s) ≡ seen setup up (fixed setup up keys_test s)
    follows setup up keys_test done = refl
    follows setup up keys_test (own id) = refl
    follows setup up keys_test (heard h sound) = refl
    follows setup up keys_test (ticked closed due records) = ap (ticked (among_live setup closed) (among_live setup due)) (bytes_seen setup up bytes due)
    follows setup up keys_test (written told) = refl
    follows setup up keys_test (totalled packets missing) = refl

    same_audio : (s : Said) → audio_sent (accepted (with_bytes bytes s)) ≡ audio_sent (accepted s)
    same_audio done = refl
    same_audio (own id) = refl
    same_audio (heard h sound) = refl
    same_audio (ticked closed due records) = refl
    same_audio (written told) = refl
    same_audio (totalled packets missing) = refl

count_retelling : (count : ℕ) → Retelling (with_count count)
unfolding fixed audio_sent
count_retelling count = record { seen = λ setup up. with_count count; follows = follows; same_audio = same_audio }
  where
    follows : (setup : Setup) (up keys_test : Bool) (s : Said)
        → fixed setup up keys_test (with_count count s) ≡ with_count count (fixed setup up keys_test s)
    follows setup up keys_test done = refl
    follows setup up keys_test (own id) = refl
    follows setup up keys_test (heard h sound) = refl
    follows setup up keys_test (ticked closed due records) = refl
    follows setup up keys_test (written told) = refl
    follows setup up keys_test (totalled packets missing) = refl

    same_audio : (s : Said) → audio_sent (accepted (with_count count s)) ≡ audio_sent (accepted s)
    same_audio done = refl
    same_audio (own id) = refl
    same_audio (heard h sound) = refl
    same_audio (ticked closed due records) = refl
    same_audio (written told) = refl
    same_audio (totalled packets missing) = refl

apart_alone : (w : WrongBench) → ApartAlone (wrong w)
apart_alone (refusing number cause) = still_apart (wrong (refusing number cause)) (λ b c. refl)
apart_alone (repeating bytes) = retold_apart (with_bytes bytes) (bytes_retelling bytes)
apart_alone (ignoring says) = still_apart (wrong (ignoring says)) (λ b c. refl)
apart_alone nodding = nodding_apart
apart_alone (inventing count) = retold_apart (with_count count) (count_retelling count)

pub wrong_benches : WrongBenches
wrong_benches =
    record {
      tried = tried;
      not_refusing = not_refusing;
      not_repeating = not_repeating;
      not_ignoring = not_ignoring;
      not_nodding = not_nodding;
      not_nodding_twice = not_nodding_twice;
      not_inventing = not_inventing;
      shut_out = shut_out;
      apart_alone = apart_alone;
    }
