-- A seat keeps what Kept says of it: closed, just opened, a packet later, a tick later.
use Prim.Native.Nat.{ℕ, ◌+◌, ◌*◌, ◌≤◌, ◌<◌}
use mathlib.Core.Path.{◌≡◌, refl, ap}
use mathlib.Core.Bool.{Bool, true, false, not, ◌&&◌, ◌||◌}
use mathlib.Core.List.{List}
use mathlib.Core.Logic.{◌⊎◌, inl, inr}
use native.Mathlib.Omega.{arith}
use native.Mathlib.Nat.{mod-lt}
use lib.Dec.{eqb}
use borrow.Author.Tests.{eqb-true, eq-eqb, ne_eqb, not-false, ltb-false}
use Rattle.std.specs.Prelude.{Option}
use Rattle.base.specs.Bytes.{Bytes}
use Rattle.base.proofs.Truths.{and_right, and_rest, or_left, or_right, or_rest}
use Rattle.base.proofs.Numbers.{number16_small}
use Rattle.packet.specs.Packet.{ptt_on}
use Rattle.reader.specs.Reading.{message_of, items_here}
use Rattle.packet.specs.declared.message.Tx.{Tx}
use Rattle.packet.specs.declared.message.Side.{Side}
use Rattle.record.specs.Kind.{kind_of}
use Rattle.record.specs.Record.{closed_seat, opened_seat, seat_of, lesson}
use Rattle.seats.specs.Opening.{call_code, is_tx_rx, is_coupling, shortest, fewest, own_id}
use Rattle.seats.specs.Ticking.{phase_after, aged, ticked_seat}
use Rattle.hearing.specs.Account.{total_too_large}
use Rattle.hearing.specs.Hearing.{has_delay, delay_of, has_side, is_standby, field_heard, keying_barred, id_allowed, side_barred, message_in, heard_seat}
use Rattle.record.specs.declared.kind.Kind.{Kind}
use Rattle.record.specs.declared.setup.Setup.{Setup}
use Rattle.record.specs.declared.seat.Seat.{Seat}
use Rattle.seats.specs.declared.opening.Request.{Request}
use Rattle.demands.specs.Kept.{FieldKept, SeatKept}
use Rattle.seats.proofs.TickingLaws.{ticked_cases}
use Rattle.seats.proofs.Accepted.{OpenAccepted}
use Rattle.hearing.proofs.Sides.{no_item_single, zero_or_none_shared, no_item_lesson}
use Rattle.hearing.proofs.Accepted.{PacketAccepted, type_known}

-- ---- the last field

no_delay : (item : Option ℕ) → has_delay item ≡ false → delay_of item ≡ 0
no_delay item e = grind arith

no_side : (item : Option Side) → has_side item ≡ false → is_standby item ≡ false
no_side item e = grind arith

-- a type is on or off
pub on_or_off : (ptt : ℕ) → ptt ≤ 5 → ptt_on ptt ≡ not (eqb ptt 0)
on_or_off ptt h = grind arith

-- 21 to 23 not met, over their tests
tests_only : (is_lesson on off test : Bool) → on ≡ not off → is_lesson && on && not test ≡ false → is_lesson ≡ true → off || test ≡ true
tests_only is_lesson on off test is e h = grind arith

own_or_off : (own on none : Bool) → own || (not on && none) ≡ true → on ≡ true → own ≡ true
own_or_off own on none e h = grind arith

module _ (is_lesson : Bool) (kind : Kind) (call own : ℕ) (m : Tx) where
  heard_field_kept : m.ptt ≤ 5 → keying_barred is_lesson call m ≡ false → id_allowed own m ≡ true → side_barred is_lesson kind m ≡ false
      → FieldKept is_lesson kind call own (field_heard m)
  unfolding keying_barred id_allowed field_heard
  heard_field_kept small barred allowed sided =
      let on = ptt_on m.ptt in
      let keys = is_tx_rx call || is_coupling call in
      let alone = eqb m.ptt 2 && is_tx_rx call in
      let lessons = is_lesson && on && not (eqb m.ptt 5) in
      let first = or_left (on && not keys || alone) lessons barred in
      let on_keys : on ≡ true → keys ≡ true = λ e. not-false keys (and_rest on (not keys) (or_left (on && not keys) alone first) e) in
      let not_txrx : eqb m.ptt 2 ≡ true → is_tx_rx call ≡ false = and_rest (eqb m.ptt 2) (is_tx_rx call) (or_right (on && not keys) alone first) in
      record {
        type_known = small;
        may_key = on_keys;
        coupling_keys = λ e. or_rest (is_tx_rx call) (is_coupling call) (on_keys (ap ptt_on e)) (not_txrx (eq-eqb m.ptt 2 e));
        lesson_only_tests = tests_only is_lesson on (eqb m.ptt 0) (eqb m.ptt 5) (on_or_off m.ptt small) (or_right (on && not keys || alone) lessons barred);
        own_or_none = by_id (eqb m.id own) refl;
        keyed_own = λ e. eqb-true m.id own (own_or_off (eqb m.id own) on (eqb m.id 0) allowed e);
        no_item_single = no_item_single is_lesson kind m sided;
        zero_or_none_shared = zero_or_none_shared is_lesson kind m sided;
        no_item_lesson = no_item_lesson is_lesson kind m sided;
        no_delay = no_delay m.climax;
        no_side = no_side m.side;
      }
    where
      by_id : (t : Bool) → eqb m.id own ≡ t → (m.id ≡ own) ⊎ (m.id ≡ 0)
      by_id true e = inl (eqb-true m.id own e)
      by_id false e =
          let off = not (ptt_on m.ptt) in
          inr (eqb-true m.id 0 (and_right off (eqb m.id 0) (or_rest (eqb m.id own) (off && eqb m.id 0) allowed e)))

-- ---- the seat

pub closed_seat_kept : (setup : Setup) (n : ℕ) → SeatKept setup n closed_seat
closed_seat_kept setup n = grind arith

some_time : (period multiplier : ℕ) → shortest ≤ period → fewest ≤ multiplier → 1 ≤ period * multiplier
some_time period multiplier h k = grind arith

pub phase_after_below : (ms period phase : ℕ) → 1 ≤ period → phase_after ms period phase < period
phase_after_below ms period phase h = rw (ne_eqb period 0 (λ e. omega arith)) (mod-lt (phase + ms) h)

module _ (setup : Setup) (n : ℕ) (seats : List Seat) where
  pub opened_seat_kept : (r : Request) → OpenAccepted setup n seats r → r.ssrc < 4294967296
      → SeatKept setup n (opened_seat (call_code r.call) r.period r.multiplier r.ssrc)
  unfolding opened_seat
  opened_seat_kept r passed fits = grind arith

  pub heard_seat_kept : (p : List ℕ) → PacketAccepted setup n (seat_of seats n) p → Bytes p → SeatKept setup n (seat_of seats n)
      → SeatKept setup n (heard_seat (seat_of seats n) (message_in p))
  unfolding heard_seat message_of items_here
  heard_seat_kept p passed small kept =
      let s = seat_of seats n in
      record {
        closed = λ e. absurd (let z : ◌≡◌ {A = ℕ} 0 1 = cc in omega arith);
        times = λ e.
            let old = kept.times e in
            record {
              period_least = old.period_least;
              period_most = old.period_most;
              multiplier_least = old.multiplier_least;
              multiplier_most = old.multiplier_most;
              some_left = some_time s.period s.multiplier old.period_least old.multiplier_least;
              left_most = omega arith;
              phase_below = old.phase_below;
            };
        call_known = kept.call_known;
        lesson_not_coupling = kept.lesson_not_coupling;
        nothing_yet = λ e. cc;
        field_kept = heard_field_kept (lesson setup n) (kind_of setup.kind) s.call (own_id n s.call) (message_in p)
            (type_known setup.ext p passed.was_read) passed.may_key_lem passed.id_allowed_lem passed.may_ask_side;
        totals_most = ltb-false _ _ (unfold total_too_large in passed.total_fits);
        sequence_fits = number16_small p small 2;
        heard_ssrc_fits = omega (arith, number16_small p small 8, number16_small p small 10);
        ssrc_fits = kept.ssrc_fits;
      }

aged_seat_kept : (setup : Setup) (n ms : ℕ) (s : Seat) → s.opened ≡ true → ms < s.left → SeatKept setup n s → SeatKept setup n (aged ms s)
aged_seat_kept setup n ms s is_open younger kept = grind arith

pub ticked_seat_kept : (setup : Setup) (n ms : ℕ) (s : Seat) → SeatKept setup n s → SeatKept setup n (ticked_seat ms s)
ticked_seat_kept setup n ms s kept =
    ticked_cases (SeatKept setup n) ms s (closed_seat_kept setup n) (λ is_open younger. aged_seat_kept setup n ms s is_open younger kept) kept
