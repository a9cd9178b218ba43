-- The bench that keeps its air: what calls do to a record whatever it holds, and that all answer as document 01 has it where it is right.
use Prim.Native.Nat.{ℕ}
use mathlib.Core.Path.{◌≡◌, refl, ap, ◌∙◌}
use mathlib.Core.List.{List, [], ◌∷◌}
use native.Mathlib.Omega.{arith}
use Rattle.packet.specs.Refusals.{Answer, accepted, refused, mapped}
use Rattle.record.specs.Record.{with_side, with_air}
use Rattle.seats.specs.Opening.{open_said, opened_bench, close_said, closed_bench}
use Rattle.seats.specs.Ticking.{silent_seats, due_seats, ticked_bench}
use Rattle.seats.specs.Radio.{side_said}
use Rattle.air.specs.Air.{keyings, bench_air, aired}
use Rattle.hearing.specs.Account.{totals_said}
use Rattle.hearing.specs.Hearing.{packet_said, heard_bench, is_sent, hearing, message_in}
use Rattle.reporting.specs.Reporting.{report_said, report_bytes, reported_bench}
use Rattle.sending.specs.Sending.{records, sent_bytes, sent_bench, tick_said}
use Rattle.bench.specs.Step.{Call, opening, closing, packet, tick, report, received, transmitter, side, totals, Said, done, own, told, counts, ticked, written, Outcome, outcome, does, step, keeping, after}
use Rattle.record.specs.declared.shown.Air.{Air}
use Rattle.record.specs.declared.whole.Bench.{Bench}

-- ---- of a record whatever it holds

-- a report tells what it says of the air
pub report_reads : (b : Bench) (n timestamp : ℕ) (sound : List ℕ) (room : ℕ)
    → (keeping b (report n timestamp sound room)).answer ≡ mapped (λ (long : ℕ). written (report_bytes b n timestamp sound)) (report_said b n timestamp sound room)
unfolding does
report_reads b n timestamp sound room = refl

-- a refused call leaves it whole
pub was_refused : {A : Type 0} (answer : Answer A) (tell : A → Said) (n cause : ℕ) → mapped tell answer ≡ refused n cause → answer ≡ refused n cause
was_refused answer tell n cause e = grind arith

pub refused_keeps : (b : Bench) (c : Call) (k cause : ℕ) → (keeping b c).answer ≡ refused k cause → (keeping b c).bench ≡ b
unfolding does
refused_keeps b c k cause e = grind arith

-- ---- the same answers

-- an outcome with its bench changed
abbrev pub changed : (Bench → Bench) → Outcome → Outcome
changed f o = record { answer = o.answer; bench = f o.bench }

-- A call on b with another air does what 01 has it do on b, but for the air that it leaves (f), where a report is shown the air of b.
module _ (shown kept f : Bench → Bench) (b : Bench) (air : Air) (sees : shown (with_air b air) ≡ aired b) (stands : with_air b air ≡ f b)
    (reports : (n : ℕ) → with_air (reported_bench b n) air ≡ f (reported_bench b n)) (keeps : (next : Bench) → kept (with_air next air) ≡ f next) where
  settles : {A : Type 0} (answer : Answer A) (tell : A → Said) (next : Bench) {left : Bench} → left ≡ f next
      → outcome answer tell (with_air b air) left ≡ changed f (outcome answer tell b next)
  settles answer tell next e = grind arith

  but_for_air : (c : Call) → does shown kept (with_air b air) c ≡ changed f (step b c)
  unfolding does bench_air keyings
  but_for_air (opening n r) = unfold open_said opened_bench in settles (open_said b n r) own (opened_bench b n r) (keeps _)
  but_for_air (closing n) = unfold close_said closed_bench in settles (close_said b n) (λ u. done) (closed_bench b n) (keeps _)
  but_for_air (packet n p) =
      unfold packet_said heard_bench hearing is_sent in
      settles (packet_said b n p) (told p) (heard_bench b n (message_in p)) (keeps _)
  but_for_air (tick ms timestamp room) =
      unfold tick_said sent_bytes records ticked_bench sent_bench in
      settles (tick_said b ms timestamp room) (λ used. ticked (silent_seats b ms) (due_seats b ms) (records b ms timestamp)) (sent_bench b ms) (keeps _)
  but_for_air (report n timestamp sound room) =
      rw sees
      (unfold reported_bench in
      settles (report_said (aired b) n timestamp sound room) (λ k. written (report_bytes (aired b) n timestamp sound)) (reported_bench b n) (reports n))
  but_for_air (received signals level) = ap (λ (x : Bench). record { answer = accepted done; bench = x }) (keeps _)
  but_for_air (transmitter healthy) = ap (λ (x : Bench). record { answer = accepted done; bench = x }) (keeps _)
  but_for_air (side standby) = unfold side_said in settles (side_said b) (λ u. done) (with_side b standby) (keeps _)
  but_for_air (totals n) = unfold totals_said in settles (totals_said b n) counts b stands

-- So 01 neither reads nor moves what the record keeps of the air;
pub unread : (b : Bench) (air : Air) (c : Call) → step (with_air b air) c ≡ changed (λ x. with_air x air) (step b c)
unfolding bench_air keyings
unread b air = but_for_air aired (λ x. x) (λ x. with_air x air) b air refl refl (λ n. refl) (λ next. refl)

-- and where the air is right, a call answers what 01 has it answer, and leaves the bench that 01 leaves, with its air made right.
pub as_meant : (b : Bench) (c : Call) → keeping (aired b) c ≡ changed aired (step b c)
unfolding bench_air keyings
as_meant b = but_for_air (λ x. x) aired aired b (bench_air b) refl refl (λ n. unfold reported_bench in refl) (λ next. refl)

-- Along every run, too.
pub run_as_meant : (b : Bench) (cs : List Call) → after keeping (aired b) cs ≡ aired (after step b cs)
unfolding after
run_as_meant b [] = refl
run_as_meant b (c ∷ cs) = ap (λ (o : Outcome). after keeping o.bench cs) (as_meant b c) ∙ run_as_meant (step b c).bench cs
