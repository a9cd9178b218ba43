-- A call that names a lesson seat leaves the bench without its lesson seats as it is.
use Prim.Native.Nat.{ℕ, ◌-◌}
use mathlib.Core.Path.{◌≡◌, refl, sym, ◌∙◌}
use mathlib.Core.Bool.{true, false, false≢true}
use mathlib.Core.List.{List}
use lib.ListN.{get_or}
use Rattle.packet.specs.Refusals.{NoCase}
use Rattle.record.specs.Kind.{kind_of}
use Rattle.record.specs.Record.{no_such_seat, seat_of, lesson}
use Rattle.seats.specs.Opening.{opened_bench, closed_bench}
use Rattle.hearing.specs.Hearing.{message_in, field_heard, heard_bench}
use Rattle.reporting.specs.Reporting.{reported_bench}
use Rattle.bench.specs.Step.{Call, opening, closing, packet, tick, report, received, transmitter, side, totals, keeping}
use Rattle.record.specs.declared.whole.Bench.{Bench}
use Rattle.seats.specs.declared.opening.Request.{Request}
use Rattle.demands.specs.Apart.{named}
use Rattle.demands.proofs.Demand3.Blanking.{set_hidden}
use Rattle.seats.proofs.Accepted.{open_accepted, seat_accepted}
use Rattle.hearing.proofs.Sides.{no_item_lesson, side_stays}
use Rattle.hearing.proofs.Accepted.{PacketAccepted, packet_accepted}
use Rattle.reporting.proofs.Accepted.{report_accepted}
use Rattle.record.proofs.Seats.{lesson_flag}
use Rattle.demands.specs.ExactCalls.{refusals_of}
use Rattle.demands.proofs.Demand1.Calls.{bench_after, after_call}
use Rattle.demands.proofs.Demand3.WithoutLessons.{low, none_is_lesson, order_hidden}

module _ (b : Bench) (n : ℕ) (hidden : lesson b.setup n ≡ true) (real : no_such_seat n ≡ false) where
  flag : get_or b.setup.lesson (n - 1) false ≡ true
  flag = lesson_flag b.setup n real ∙ hidden

  opened_unseen : (r : Request) → low (opened_bench b n r) ≡ low b
  unfolding low opened_bench
  opened_unseen r = simp (real, set_hidden, flag)

  closed_unseen : low (closed_bench b n) ≡ low b
  unfolding low closed_bench
  closed_unseen = simp (real, set_hidden, flag)

  reported_unseen : low (reported_bench b n) ≡ low b
  unfolding low reported_bench
  reported_unseen = simp (real, set_hidden, flag)

  heard_unseen : (p : List ℕ) → PacketAccepted b.setup n (seat_of b.seats n) p → low (heard_bench b n (message_in p)) ≡ low b
  unfolding low heard_bench
  heard_unseen p h =
      let kind = kind_of b.setup.kind in
      let no_item = no_item_lesson (lesson b.setup n) kind (message_in p) h.may_ask_side hidden in
      let unmoved = side_stays kind (seat_of b.seats n).heard.field (field_heard (message_in p)) b.standby (unfold field_heard in no_item) in
      simp (real, set_hidden, flag, order_hidden b.setup n, hidden, unmoved)

pub unseen : (b : Bench) (c : Call) → lesson b.setup (named c) ≡ true → low (keeping b c).bench ≡ low b
unfolding named low
unseen b c hidden = after_call (λ (x : Bench). low x ≡ low b) b c refl (made_unseen c hidden)
  where
    none_named : lesson b.setup 0 ≡ true → ⊥
    none_named e = false≢true (sym (none_is_lesson b.setup) ∙ e)

    made_unseen : (c : Call) → lesson b.setup (named c) ≡ true → NoCase (refusals_of b c) → low (bench_after b c) ≡ low b
    made_unseen (opening n r) hidden none = opened_unseen b n hidden (open_accepted b.setup n b.seats r none).is_seat r
    made_unseen (closing n) hidden none = closed_unseen b n hidden (seat_accepted n (seat_of b.seats n).opened none).is_seat
    made_unseen (packet n p) hidden none = let h = packet_accepted b.setup n (seat_of b.seats n) p none in heard_unseen b n hidden h.is_seat p h
    made_unseen (report n timestamp sound room) hidden none = reported_unseen b n hidden (report_accepted b n timestamp sound room none).is_seat
    made_unseen (totals n) hidden none = refl
    made_unseen (tick ms timestamp room) hidden none = absurd (none_named hidden)
    made_unseen (received signals level) hidden none = absurd (none_named hidden)
    made_unseen (transmitter healthy) hidden none = absurd (none_named hidden)
    made_unseen (side standby) hidden none = absurd (none_named hidden)
