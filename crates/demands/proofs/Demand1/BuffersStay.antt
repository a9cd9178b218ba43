-- What stays of a lent buffer: one law for every call that fills one.
use Prim.Native.Nat.{ℕ, ◌≤◌}
use mathlib.Core.Path.{refl, sym}
use mathlib.Core.List.{List}
use native.Mathlib.Omega.{arith}
use lib.ListN.{length, length-append, length-drop}
use lib.Seq.{drop_at}
use borrow.Author.Tests.{ltb-false}
use Rattle.packet.specs.Refusals.{Case, NoCase, accepted, refused, judged}
use Rattle.packet.proofs.Judged.{never, judged_one}
use Rattle.writer.specs.Writing.{encode, writer_refusals, write, filled, buffered, put_refusals, put, after_put}
use Rattle.reporting.specs.Reporting.{report_bytes, report_refusals, report_said, report_buffer}
use Rattle.reporting.proofs.Accepted.{report_accepted}
use Rattle.sending.specs.Sending.{tick_refusals, sent_bytes, tick_said, tick_buffer}
use Rattle.sending.proofs.Accepted.{tick_accepted}
use Rattle.sending.proofs.Records.{sent_most}
use Rattle.demands.specs.BuffersStay.{Stays, BuffersStay}

module _ (packet buffer : List ℕ) where
  written : length packet ≤ length buffer → Stays (accepted (length packet)) buffer (filled (accepted (length packet)) packet buffer)
  written fits = grind (arith, drop_at, length-append, length-drop)

  turned_away : (n c : ℕ) → Stays (refused n c) buffer buffer
  turned_away n c = record { as_long = refl; past_it = λ k e. absurd (never k n c (sym e)); refused_all = λ _ _ e. refl }

  -- 26 among the cases makes the packet fit
  stays : (cases : List Case) → (NoCase cases → length packet ≤ length buffer)
      → Stays (judged cases (length packet)) buffer (filled (judged cases (length packet)) packet buffer)
  stays cases fits = judged_one (λ answer. Stays answer buffer (filled answer packet buffer)) cases (length packet) turned_away (λ none. written (fits none))

pub buffers_stay : BuffersStay
unfolding report_said report_buffer tick_said tick_buffer writer_refusals write buffered put_refusals put after_put
buffers_stay =
    record {
      of_report = λ b n timestamp sound buffer.
          stays (report_bytes b n timestamp sound) buffer (report_refusals b n timestamp sound (length buffer))
          (λ none. (report_accepted b n timestamp sound (length buffer) none).room_enough);
      of_tick = λ b ms timestamp buffer eight.
          stays (sent_bytes b ms timestamp) buffer (tick_refusals ms (length buffer))
          (λ none. omega (arith, sent_most b ms timestamp eight, (tick_accepted ms (length buffer) none).room_enough));
      of_writers = λ ext m sound buffer.
          stays (encode ext m sound) buffer (writer_refusals ext m sound (length buffer)) (λ none. ltb-false (length buffer) (length (encode ext m sound)) none.1.0);
      of_put = λ ext m sound buffer.
          stays (encode ext m sound) buffer (put_refusals ext m sound (length buffer)) (λ none. ltb-false (length buffer) (length (encode ext m sound)) none.0);
    }
