-- Main and standby behind one address.
use native.Mathlib.Omega.{arith}
use Prim.Native.Nat.{ℕ}
use mathlib.Core.Path.{◌≡◌, refl, ap, ◌∙◌}
use mathlib.Core.Bool.{Bool, true, false, not}
use mathlib.Core.List.{List, [], ◌∷◌}
use Rattle.std.specs.Prelude.{Some}
use Rattle.base.proofs.Truths.{and_none, or_none}
use Rattle.packet.specs.Refusals.{accepted, refused}
use Rattle.packet.proofs.Judged.{accepts}
use Rattle.reader.specs.Reading.{reader_refusals, read_rx}
use Rattle.packet.specs.declared.message.Rx.{Rx}
use Rattle.packet.specs.declared.message.Tx.{Tx}
use Rattle.packet.specs.Messages.{from_rx}
use Rattle.packet.specs.declared.message.Side.TheVariants.{Main}
use Rattle.record.specs.Kind.{kind_code, kind_of, items_move_side, side_told}
use Rattle.record.specs.Record.{fresh_bench, seat_of, lesson, with_side}
use Rattle.seats.specs.Opening.{opened_bench, closed_bench, seat_refusals}
use Rattle.seats.specs.Ticking.{ticked_bench}
use Rattle.seats.specs.Radio.{side_refusals, side_said}
use Rattle.air.specs.Air.{aired}
use Rattle.hearing.specs.Hearing.{has_side, is_standby, side_barred, field_heard, message_in, message_refusals, packet_refusals, heard_bench, same_field, hearing}
use Rattle.hearing.proofs.Sides.{shared_bars, zero_or_none_shared, no_item_lesson, side_unmoved}
use Rattle.hearing.proofs.Accepted.{PacketAccepted, packet_accepted}
use Rattle.reporting.specs.Reporting.{report_of, report_bytes, report_refusals, report_said, reported_bench}
use Rattle.sending.specs.Sending.{sent_bench}
use Rattle.bench.specs.Step.{Call, opening, closing, packet, tick, report, received, transmitter, side, totals, Said, done, heard, written, does, keeping, after}
use Rattle.record.specs.declared.kind.Kind.{Kind}
use Rattle.record.specs.declared.setup.Setup.{Setup}
use Rattle.record.specs.declared.seat.Field.{Field}
use Rattle.record.specs.declared.whole.Bench.{Bench}
use Rattle.hearing.specs.declared.hearing.Hearing.{Hearing}
use Rattle.demands.specs.ExactCalls.{refusals_of}
use Rattle.demands.specs.AirKept.{AirRight}
use Rattle.demands.specs.RoundTrip.{Narrow}
use Rattle.demands.specs.SharedRadio.{IsShared, side_by, last_side, SharedRadio}
use Rattle.demands.proofs.Demand1.Exact.{holds_for, first_holds}
use Rattle.demands.proofs.Demand1.Calls.{bench_after, was_accepted_lem, after_call}
use Rattle.demands.proofs.Demand1.ExactCalls.{calls_exact}
use Rattle.demands.proofs.Demand2.RoundTrip.{reports_read_back}
use Rattle.demands.proofs.Bench.SeatAfter.{setup_kept}
use Rattle.demands.proofs.Bench.AirKept.{air_kept}

codes : (kind : Kind) → kind_of (kind_code kind) ≡ kind
unfolding kind_of
codes kind = grind arith

-- ---- the side in use

module _ (b : Bench) (shared : IsShared b) where
  packet_unmoved : (n : ℕ) (p : List ℕ) → (heard_bench b n (message_in p)).standby ≡ b.standby
  unfolding heard_bench
  packet_unmoved n p = side_unmoved (kind_of b.setup.kind) _ (field_heard (message_in p)) b.standby (ap items_move_side shared)

  event_accepted : (standby : Bool) → keeping b (side standby) ≡ record { answer = accepted done; bench = aired (with_side b standby) }
  unfolding does side_said side_refusals
  event_accepted standby = simp shared

  -- every other call leaves the side, accepted or refused
  stays : (c : Call) → (bench_after b c).standby ≡ b.standby → (keeping b c).bench.standby ≡ b.standby
  stays c e = after_call (λ (x : Bench). x.standby ≡ b.standby) b c refl (λ none. e)

  by_each_call : (c : Call) → (keeping b c).bench.standby ≡ side_by b.standby c
  by_each_call (opening n r) = stays (opening n r) (unfold opened_bench in refl)
  by_each_call (closing n) = stays (closing n) (unfold closed_bench in refl)
  by_each_call (packet n p) = stays (packet n p) (packet_unmoved n p)
  by_each_call (tick ms timestamp room) = stays (tick ms timestamp room) (unfold sent_bench ticked_bench in refl)
  by_each_call (report n timestamp sound room) = stays (report n timestamp sound room) (unfold reported_bench in refl)
  by_each_call (received signals level) = stays (received signals level) refl
  by_each_call (transmitter healthy) = stays (transmitter healthy) refl
  by_each_call (totals n) = stays (totals n) refl
  by_each_call (side standby) = ap (λ o. o.bench.standby) (event_accepted standby)

run : (b : Bench) (cs : List Call) → IsShared b → (after keeping b cs).standby ≡ last_side b.standby cs
unfolding after last_side
run b [] shared = refl
run b (c ∷ cs) shared =
    run (keeping b c).bench cs (ap (λ (setup : Setup). kind_of setup.kind) (setup_kept b c) ∙ shared)
    ∙ ap (λ (in_use : Bool). last_side in_use cs) (by_each_call b shared c)

side_answered : (b : Bench) (n : ℕ) (p : List ℕ) (h : Hearing) (sound : List ℕ) → IsShared b
    → (keeping b (packet n p)).answer ≡ accepted (heard h sound) → h.standby ≡ b.standby
unfolding hearing
side_answered b n p h sound shared e =
    let said : h.standby ≡ (heard_bench b n (message_in p)).standby = cc (was_accepted_lem b (packet n p) (heard h sound) e).1 in
    said ∙ packet_unmoved b shared n p

differs : (old : Field) (m : Tx) → old.sided ≡ false → has_side m.side ≡ true → same_field old (field_heard m) ≡ false
unfolding same_field field_heard
differs old m none has = simp (none, has, and_none)

zero_differs : (b : Bench) (n : ℕ) (p : List ℕ) (h : Hearing) (sound : List ℕ) → (seat_of b.seats n).heard.field.sided ≡ false
    → has_side (message_in p).side ≡ true → (keeping b (packet n p)).answer ≡ accepted (heard h sound) → h.reply ≡ true
unfolding hearing
zero_differs b n p h sound none has e =
    let old = (seat_of b.seats n).heard.field in
    let said : h.reply ≡ not (same_field old (field_heard (message_in p))) = cc (was_accepted_lem b (packet n p) (heard h sound) e).1 in
    said ∙ ap not (differs old (message_in p) none has)

-- ---- 23

packet_passed : (b : Bench) (n : ℕ) (p : List ℕ) (said : Said) → (keeping b (packet n p)).answer ≡ accepted said
    → PacketAccepted b.setup n (seat_of b.seats n) p
packet_passed b n p said e = packet_accepted b.setup n (seat_of b.seats n) p (was_accepted_lem b (packet n p) said e).0

one_refused : (b : Bench) (n : ℕ) (p : List ℕ) (said : Said) → IsShared b
    → (keeping b (packet n p)).answer ≡ accepted said → is_standby (message_in p).side ≡ false
one_refused b n p said shared e =
    zero_or_none_shared (lesson b.setup n) (kind_of b.setup.kind) (message_in p) (packet_passed b n p said e).may_ask_side shared

lesson_refused : (b : Bench) (n : ℕ) (p : List ℕ) (said : Said) → lesson b.setup n ≡ true
    → (keeping b (packet n p)).answer ≡ accepted said → has_side (message_in p).side ≡ false
lesson_refused b n p said is-lesson e =
    no_item_lesson (lesson b.setup n) (kind_of b.setup.kind) (message_in p) (packet_passed b n p said e).may_ask_side is-lesson

one_alone : (b : Bench) (n : ℕ) (p : List ℕ) → IsShared b → lesson b.setup n ≡ false
    → (keeping b (packet n p)).answer ≡ refused 23 0 → is_standby (message_in p).side ≡ true
unfolding packet_refusals seat_refusals reader_refusals message_refusals holds_for side_barred
one_alone b n p shared live e =
    let barred = first_holds 23 (refusals_of b (packet n p)) ((calls_exact.each_call b (packet n p)).only_then 23 0 e).0 in
    simp (shared, live, or_none, shared_bars) at barred

-- ---- the item that is told

zero_told : (b : Bench) (n timestamp : ℕ) → IsShared b → (report_of b n timestamp).side ≡ Some Main
unfolding report_of
zero_told b n timestamp shared = ap (λ (kind : Kind). side_told kind b.standby) shared

zero_read : (b : Bench) → AirRight b → (n timestamp : ℕ) (sound : List ℕ) (room : ℕ) (bytes : List ℕ) → IsShared b
    → Narrow b.setup.ext (from_rx (report_of b n timestamp)) → (keeping b (report n timestamp sound room)).answer ≡ accepted (written bytes)
    → (m : Rx) × (read_rx b.setup.ext bytes ≡ accepted m) × (m.side ≡ Some Main)
unfolding report_said report_bytes
zero_read b right n timestamp sound room bytes shared narrow e =
    let none = (was_accepted_lem b (report n timestamp sound room) (written bytes) e).0 in
    let back = reports_read_back b right n timestamp sound room _ narrow (accepts _ (report_refusals b n timestamp sound room) none) in
    (report_of b n timestamp, ap (read_rx b.setup.ext) (air_kept.report_tells b n timestamp sound bytes room e) ∙ back.0, zero_told b n timestamp shared)

pub shared_radio : SharedRadio
shared_radio =
    record {
      codes = codes;
      by_each_call = λ b c shared. by_each_call b shared c;
      in_every_run = λ setup cs shared. unfold fresh_bench in run (fresh_bench setup) cs shared;
      event_accepted = λ b standby shared. event_accepted b shared standby;
      side_answered = side_answered;
      zero_differs = zero_differs;
      one_refused = one_refused;
      one_alone = one_alone;
      lesson_refused = lesson_refused;
      zero_told = zero_told;
      zero_read = zero_read;
    }
