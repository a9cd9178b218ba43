-- What each call of the code answers and leaves is what `keeping` says: the promises and `keeping` cite the same definitions.
use Prim.Native.Nat.{ℕ}
use mathlib.Core.Path.{◌≡◌, refl, sym, ap, ap₂, ◌∙◌}
use mathlib.Core.List.{List}
use lib.ListN.{length, drop}
use lib.Seq.{take_at}
use Rattle.std.specs.Prelude.{Result}
use Rattle.packet.specs.Refusals.{Answer, accepted, refused, mapped, answer_of}
use Rattle.record.specs.Record.{settled}
use Rattle.writer.specs.Writing.{filled}
use Rattle.seats.specs.Ticking.{silent_seats, due_seats}
use Rattle.hearing.specs.Account.{totals_said}
use Rattle.reporting.specs.Reporting.{report_refusals, report_said, report_bytes, report_buffer}
use Rattle.sending.specs.Sending.{tick_refusals, after_closings, records, sent_bytes, tick_said, no_seats, named_in, tick_sets, tick_buffer}
use Rattle.bench.specs.Step.{Said, own, done, told, ticked, written, totals, counts, does, keeping}
use Rattle.packet.specs.declared.refusal.Refusal.{Refusal}
use Rattle.record.specs.declared.seat.Totals.{Totals}
use Rattle.record.specs.declared.whole.Bench.{Bench}
use Rattle.demands.specs.StepOfCode.{did, was_done, in_front, read_back, sent_in, StepOfCode}
use Rattle.packet.proofs.Judged.{judged_one}
use Rattle.demands.proofs.Promises.ReadBack.{read_back_lem}

-- the report is the front of its buffer
module _ (b : Bench) (n timestamp : ℕ) (sound buffer : List ℕ) where
  abbrev bytes : List ℕ
  bytes = report_bytes b n timestamp sound

  told_in_front : mapped (in_front (report_buffer b n timestamp sound buffer)) (report_said b n timestamp sound (length buffer))
      ≡ mapped (λ long. written bytes) (report_said b n timestamp sound (length buffer))
  unfolding report_said report_buffer
  told_in_front =
      judged_one (λ a. mapped (in_front (filled a bytes buffer)) a ≡ mapped (λ long. written bytes) a)
      (report_refusals b n timestamp sound (length buffer)) (length bytes) (λ number cause. refl)
      (λ none. ap (λ (front : List ℕ). accepted (written front)) (take_at bytes (drop (length bytes) buffer) (length bytes) refl))

-- and the records of a tick, read back, are those that it tells
module _ (b : Bench) (ms timestamp : ℕ) (buffer : List ℕ) where
  abbrev sent : List ℕ
  sent = sent_bytes b ms timestamp

  abbrev tells : ℕ → Said
  tells used = ticked (silent_seats b ms) (due_seats b ms) (records b ms timestamp)

  told_in_records : mapped (sent_in (tick_sets b ms timestamp (length buffer)) (tick_buffer b ms timestamp buffer)) (tick_said b ms timestamp (length buffer))
      ≡ mapped tells (tick_said b ms timestamp (length buffer))
  unfolding tick_said tick_sets tick_buffer sent_bytes records
  told_in_records =
      judged_one (λ a. mapped (sent_in (named_in a (record { closed = silent_seats b ms; due = due_seats b ms })) (filled a sent buffer)) a ≡ mapped tells a)
      (tick_refusals ms (length buffer)) (length sent) (λ number cause. refl)
      (λ none.
      ap (λ (rs : List (List ℕ)). accepted (ticked (silent_seats b ms) (due_seats b ms) rs))
      (ap (read_back (due_seats b ms)) (take_at sent (drop (length sent) buffer) (length sent) refl)
      ∙ read_back_lem (after_closings b ms) timestamp 1 (due_seats b ms)))

-- refused, it names no seat
none_named : (b : Bench) (ms timestamp room number cause : ℕ) → tick_said b ms timestamp room ≡ refused number cause → tick_sets b ms timestamp room ≡ no_seats
unfolding tick_sets
none_named b ms timestamp room number cause said = ap (λ (a : Answer ℕ). named_in a (record { closed = silent_seats b ms; due = due_seats b ms })) said

-- totals leave the bench, refused or not
unmoved : {A : Type 0} (answer : Answer A) (b : Bench) → settled answer b b ≡ b
unmoved (accepted a) b = refl
unmoved (refused n cause) b = refl

counted : (b : Bench) (n : ℕ) (r : Result Totals Refusal) → answer_of r ≡ totals_said b n → did (mapped counts (answer_of r)) b ≡ keeping b (totals n)
unfolding does
counted b n r e = ap₂ did (ap (mapped counts) e) (sym (unmoved (totals_said b n) b))

pub step_of_code : StepOfCode
unfolding does
step_of_code = record {
  reads_tx = λ k a r e p. p;
  reads_rx = λ k a r e p. p;
  pays_out = λ k a r e p. p.0;
  writes_tx = λ k a r e p. p;
  writes_rx = λ k a r e p. p;
  puts_rx = λ k a r e p. p;
  starts = λ k a r e p. p;
  opens = λ k a r e p. ap₂ did (ap (mapped own) p.0) p.1;
  closes = λ k a r e p. ap₂ did (ap (mapped was_done) p.0) p.1;
  hears = λ k a r e p. ap₂ did (ap (mapped (told a.1.1.0.now)) p.0) p.1;
  hands_out = λ k a r e p. p.0;
  ticks = λ k a r e p.
      ap₂ did
      (ap₂ (λ sets left. mapped (sent_in sets left) (answer_of r.answer)) p.1.0 p.1.1.0
      ∙ ap (mapped _) p.0 ∙ told_in_records a.0 a.1.0 a.1.1.0 a.1.1.1.0.now)
      p.1.1.1;
  sends = λ k a r e p. (p.0, p.1.1.0);
  names = λ k a r e p. p.1.0;
  names_none = λ k a r e p number cause said. p.1.0 ∙ none_named a.0 a.1.0 a.1.1.0 _ number cause (sym p.0 ∙ said);
  reports = λ k a r e p.
      ap₂ did (ap₂ (λ left answer. mapped (in_front left) answer) p.1.0 p.0 ∙ told_in_front a.0 a.1.0 a.1.1.0 _ a.1.1.1.1.0.now) p.1.1;
  leaves = λ k a r e p. (p.0, p.1.0);
  receives = λ k a r e p. ap (did (accepted done)) p;
  transmits = λ k a r e p. ap (did (accepted done)) p;
  sides = λ k a r e p. ap₂ did (ap (mapped was_done) p.0) p.1;
  tells_totals = λ k a r e p. counted a.0 a.1.0 r p;
  airs = λ k a r e p. p;
  tells_cause = λ k a r e p. p;
  codes = λ k a r e p. p;
}
