-- The room that a tick asks for.
use Prim.Native.Nat.{ℕ, ◌*◌, ◌≤◌, ◌<◌}
use mathlib.Core.Path.{◌≡◌, refl}
use mathlib.Core.Logic.{inl, inr, ◌↔◌}
use native.Mathlib.Omega.{arith}
use borrow.Author.Tests.{lt-ltb, le-ltb}
use lib.ListN.{length}
use Rattle.base.specs.Lists.{how_many}
use Rattle.base.proofs.Lists.{many_changed}
use Rattle.packet.specs.Refusals.{FirstCase, refused}
use Rattle.record.specs.Kind.{kind_of}
use Rattle.record.specs.Record.{opened_seat, fresh_bench, seat_of, lesson}
use Rattle.seats.specs.Opening.{any_coupling, open_refusals, open_said, opened_bench}
use Rattle.seats.specs.Ticking.{is_due, ticked_bench}
use Rattle.reporting.proofs.ReportLength.{two_items}
use Rattle.sending.specs.Sending.{longest_tick, most_sent, tick_refusals, after_closings, records, sent_bytes}
use Rattle.sending.proofs.Records.{frame_length, records_long, records_fill, sent_most}
use Rattle.bench.specs.Step.{tick, does, keeping, after}
use Rattle.record.specs.declared.whole.Bench.{Bench}
use Rattle.demands.specs.Room.{all_in, Room}
use Rattle.demands.proofs.Demand1.ExactCalls.{calls_exact}

used : (b : Bench) (ms timestamp : ℕ)
    → length (sent_bytes b ms timestamp) ≡ frame_length (two_items b) * how_many (is_due ms) b.seats
unfolding sent_bytes records ticked_bench
used b ms timestamp = grind (arith, many_changed, records_long)

-- in the lab every seat is due, and every report has two items
needed : length (sent_bytes all_in 20 0) ≡ most_sent
unfolding kind_of opened_seat fresh_bench seat_of lesson any_coupling open_refusals open_said opened_bench is_due ticked_bench records sent_bytes does after
needed = records_fill (after_closings all_in 20) 0 1 refl

-- what 26's case is, behind 24's
case_26 : (ms room : ℕ) → FirstCase 26 (tick_refusals ms room) → (ms ≤ longest_tick) × (room < most_sent)
unfolding tick_refusals
case_26 ms room h = grind arith

exactly : (b : Bench) (ms timestamp room : ℕ) → ((keeping b (tick ms timestamp room)).answer ≡ refused 26 0) ↔ ((ms ≤ longest_tick) × (room < most_sent))
unfolding tick_refusals
exactly b ms timestamp room =
    let exact = calls_exact.each_call b (tick ms timestamp room) in (
      (λ e. case_26 ms room (exact.only_then 26 0 e).0),
      (λ h. exact.refuses 26 (inr (le-ltb longest_tick ms h.0, inl (lt-ltb room most_sent h.1, refl)))),
    )

pub room : Room
room = record { used = used; enough = sent_most; needed = needed; exactly = exactly }
