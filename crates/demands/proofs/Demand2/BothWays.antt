-- What the writers write, the readers read, and the other way round: by the promises, RoundTrip and Rewrite.
use native.Mathlib.Omega.{arith}
use Prim.Native.Nat.{ℕ}
use mathlib.Core.Path.{◌≡◌, ap, ap₂, sym, ◌∙◌}
use mathlib.Core.Bool.{true, false, not}
use mathlib.Core.List.{List, []}
use lib.ListN.{length, take}
use lib.Seq.{take_at}
use Rattle.std.specs.Prelude.{Result, Ok}
use Rattle.packet.specs.Packet.{payload}
use Rattle.packet.specs.Refusals.{Answer, accepted, answer_of}
use Rattle.reader.specs.Reading.{read_tx, read_rx}
use Rattle.writer.specs.Writing.{encode, writable, write, buffered}
use Rattle.record.specs.Record.{no_such_seat, entry_of}
use Rattle.record.proofs.Seats.{flag_is_seat}
use Rattle.seats.specs.Ticking.{silent_seats, due_seats, ticked_bench}
use Rattle.reporting.specs.Reporting.{squ_told, report_of, report_said, report_bytes, report_buffer}
use Rattle.sending.specs.Sending.{after_closings, records, sent_bytes, tick_said, named_in, tick_sets, tick_buffer}
use Rattle.packet.specs.declared.refusal.Refusal.{Refusal}
use Rattle.packet.specs.declared.message.Message.{Message}
use Rattle.packet.specs.declared.message.Tx.{Tx}
use Rattle.packet.specs.declared.message.Rx.{Rx}
use Rattle.record.specs.declared.whole.Bench.{Bench}
use Rattle.sending.specs.declared.sending.SeatSets.{SeatSets}
use Rattle.base.proofs.Truths.{and_none}
use Rattle.packet.proofs.Judged.{meets_none}
use Rattle.packet.specs.Messages.{from_tx, from_rx}
use Rattle.packet.proofs.TellApart.{answer_tells}
use Rattle.air.proofs.Kept.{air_unread}
use Rattle.reporting.proofs.Told.{report_writable}
use Rattle.sending.proofs.BySeat.{seat_record}
use Rattle.demands.specs.RoundTrip.{Narrow}
use Rattle.demands.specs.StepOfCode.{read_back}
use Rattle.demands.specs.BothWays.{ReadsTx, ReadsRx, HandsOut, WritesTx, WritesRx, BothWays}
use Rattle.demands.proofs.Demand2.Written.{written_at_front}
use Rattle.demands.proofs.Demand2.Widths.{narrow_tx, narrow_rx, narrow_report, narrow_tick}
use Rattle.demands.proofs.Demand2.RoundTrip.{round_trip_tx, round_trip_rx, reports_read_back}
use Rattle.demands.proofs.Demand2.Rewrite.{rewrite_tx, rewrite_rx}
use Rattle.demands.proofs.Promises.ReadBack.{read_back_lem as frames-back}

-- ---- from a definition's answer to the function's

reads_tx : (ext : ℕ) (bytes : List ℕ) (m : Tx) → read_tx ext bytes ≡ accepted m → ReadsTx ext bytes m
reads_tx ext bytes m e k a r f h same p = answer_tells r (Ok m) (h ∙ ap₂ read_tx same p ∙ e)

reads_rx : (ext : ℕ) (bytes : List ℕ) (m : Rx) → read_rx ext bytes ≡ accepted m → ReadsRx ext bytes m
reads_rx ext bytes m e k a r f h same p = answer_tells r (Ok m) (h ∙ ap₂ read_rx same p ∙ e)

hands_out : (bytes sound : List ℕ) → payload bytes ≡ sound → HandsOut bytes sound
hands_out bytes sound e k a r f h p = h.0 ∙ ap payload p ∙ e

writes_tx : (ext : ℕ) (m : Tx) (sound buffer : List ℕ) (long : ℕ) (left : List ℕ) → write ext (from_tx m) sound (length buffer) ≡ accepted long
    → buffered ext (from_tx m) sound buffer ≡ left → WritesTx ext m sound buffer long left
writes_tx ext m sound buffer long left p q k a w e h t n s b = (answer_tells w (Ok long) (h.0 ∙ rw (t, n, s, b) p), h.1 ∙ rw (t, n, s, b) q)

writes_rx : (ext : ℕ) (m : Rx) (sound buffer : List ℕ) (long : ℕ) (left : List ℕ) → write ext (from_rx m) sound (length buffer) ≡ accepted long
    → buffered ext (from_rx m) sound buffer ≡ left → WritesRx ext m sound buffer long left
writes_rx ext m sound buffer long left p q k a w e h t n s b = (answer_tells w (Ok long) (h.0 ∙ rw (t, n, s, b) p), h.1 ∙ rw (t, n, s, b) q)

-- ---- what was written is a message that is writable, in front of the buffer

front : (ext : ℕ) (m : Message) (sound out left : List ℕ) (w : Result ℕ Refusal) (long : ℕ) → answer_of w ≡ write ext m sound (length out)
    → left ≡ buffered ext m sound out → w ≡ Ok long → (writable m (length sound) ≡ true) × (take long left ≡ encode ext m sound)
front ext m sound out left w long h l e =
    let z = written_at_front ext m sound out long (sym h ∙ ap answer_of e) in
    (z.0, ap (take long) l ∙ z.1)

-- ---- a report that was written, and each report of a tick, in its buffer

report_front : (b : Bench) (n timestamp : ℕ) (sound out left : List ℕ) (w : Result ℕ Refusal) (long : ℕ)
    → answer_of w ≡ report_said b n timestamp sound (length out) → left ≡ report_buffer b n timestamp sound out → w ≡ Ok long
    → (report_said b n timestamp sound (length out) ≡ accepted long) × (take long left ≡ report_bytes b n timestamp sound)
unfolding report_said report_buffer
report_front b n timestamp sound out left w long h l e = grind (arith, meets_none, take_at)

module _ (b : Bench) (ms timestamp : ℕ) (out left : List ℕ) (sets : SeatSets) (w : Result ℕ Refusal) (used : ℕ)
    (h : answer_of w ≡ tick_said b ms timestamp (length out)) (s : sets ≡ tick_sets b ms timestamp (length out))
    (l : left ≡ tick_buffer b ms timestamp out) (e : w ≡ Ok used) where
  said : tick_said b ms timestamp (length out) ≡ accepted used
  said = sym h ∙ ap answer_of e

  due_named : sets.due ≡ due_seats b ms
  unfolding tick_sets
  due_named = ap (λ (x : SeatSets). x.due) (s ∙ ap (λ (a : Answer ℕ). named_in a (record { closed = silent_seats b ms; due = due_seats b ms })) said)

  tick_front : take used left ≡ sent_bytes b ms timestamp
  unfolding tick_said tick_buffer
  tick_front = grind (arith, meets_none, take_at)

  report_sent : (n : ℕ) → entry_of false sets.due n ≡ true
      → entry_of [] (read_back sets.due (take used left)) n ≡ report_bytes (after_closings b ms) n timestamp []
  unfolding sent_bytes records
  report_sent n is_due_lem = grind (arith, due_named, frames-back, seat_record, tick_front)

-- a tick makes the air right, so that its reports can be read
sent_back : (b : Bench) (ms n timestamp : ℕ) → no_such_seat n ≡ false
    → let shown = after_closings b ms in Narrow b.setup.ext (from_rx (report_of shown n timestamp))
    → (read_rx b.setup.ext (report_bytes shown n timestamp []) ≡ accepted (report_of shown n timestamp)) × (payload (report_bytes shown n timestamp []) ≡ [])
unfolding report_bytes ticked_bench
sent_back b ms n timestamp real narrow =
    let shown = after_closings b ms in
    round_trip_rx b.setup.ext (report_of shown n timestamp) [] narrow
    (report_writable shown (sym (air_unread (ticked_bench b ms))) n timestamp 0 real (and_none (not (squ_told b.signals))))

pub both_ways : BothWays
both_ways = record {
  written_tx = λ k a w e owned h long is.
      let there = front a.0 (from_tx a.1.0) a.1.1.0.now a.1.1.1.0.now e.1.1.1.0.now w long h.0 h.1 is in
      let back = round_trip_tx a.0 a.1.0 a.1.1.0.now (narrow_tx k a owned) there.0 in
      (reads_tx _ _ _ (ap (read_tx a.0) there.1 ∙ back.0), hands_out _ _ (ap payload there.1 ∙ back.1));
  written_rx = λ k a w e owned h long is.
      let there = front a.0 (from_rx a.1.0) a.1.1.0.now a.1.1.1.0.now e.1.1.1.0.now w long h.0 h.1 is in
      let back = round_trip_rx a.0 a.1.0 a.1.1.0.now (narrow_rx k a owned) there.0 in
      (reads_rx _ _ _ (ap (read_rx a.0) there.1 ∙ back.0), hands_out _ _ (ap payload there.1 ∙ back.1));
  written_report = λ k a r e owned h long is right.
      let there = report_front a.0 a.1.0 a.1.1.0 a.1.1.1.0.now a.1.1.1.1.0.now e.1.1.1.1.0.now r.answer long h.0 h.1.0 is in
      let back = reports_read_back a.0 right a.1.0 a.1.1.0 a.1.1.1.0.now (length a.1.1.1.1.0.now) long (narrow_report k a owned) there.0 in
      (reads_rx _ _ _ (ap (read_rx a.0.setup.ext) there.1 ∙ back.0), hands_out _ _ (ap payload there.1 ∙ back.1));
  written_tick = λ k a r e owned h used n is is_due_lem.
      let there = report_sent a.0 a.1.0 a.1.1.0 a.1.1.1.0.now e.1.1.1.0.now r.seats r.answer used h.0 h.1.0 h.1.1.0 is n is_due_lem in
      let back = sent_back a.0 a.1.0 n a.1.1.0 (flag_is_seat r.seats.due n is_due_lem) (narrow_tick k a owned n) in
      (reads_rx _ _ _ (ap (read_rx a.0.setup.ext) there ∙ back.0), hands_out _ _ (ap payload there ∙ back.1));
  read_tx = λ k a r e h m is small plain none buffer room.
      let again = (rewrite_tx a.0 a.1.0.now m small (sym h ∙ ap answer_of is)).stands plain none buffer room in
      writes_tx _ _ _ _ _ _ again.0 again.1;
  read_rx = λ k a r e h m is small plain none buffer room.
      let again = (rewrite_rx a.0 a.1.0.now m small (sym h ∙ ap answer_of is)).stands plain none buffer room in
      writes_rx _ _ _ _ _ _ again.0 again.1;
  only_tx = λ k a r e h m is small j b w f g t n s long wrote same.
      let there = front b.0 (from_tx b.1.0) b.1.1.0.now b.1.1.1.0.now f.1.1.1.0.now w long g.0 g.1 wrote in
      (rewrite_tx a.0 a.1.0.now m small (sym h ∙ ap answer_of is)).same.0 (sym (rw (t, n, s) at there.1) ∙ same);
  only_rx = λ k a r e h m is small j b w f g t n s long wrote same.
      let there = front b.0 (from_rx b.1.0) b.1.1.0.now b.1.1.1.0.now f.1.1.1.0.now w long g.0 g.1 wrote in
      (rewrite_rx a.0 a.1.0.now m small (sym h ∙ ap answer_of is)).same.0 (sym (rw (t, n, s) at there.1) ∙ same);
}
