-- The air in the record is right from the start through every call.
use native.Mathlib.Omega.{arith}
use Prim.Native.Nat.{ℕ}
use mathlib.Core.Path.{◌≡◌, refl, sym, subst, ◌∙◌}
use mathlib.Core.List.{List}
use mathlib.Core.Logic.{◌⊎◌, inl, inr}
use Rattle.packet.specs.Refusals.{NoCase, Answer, accepted, mapped}
use Rattle.packet.specs.Messages.{from_rx}
use Rattle.writer.specs.Writing.{encode}
use Rattle.record.specs.Record.{fresh_bench}
use Rattle.air.specs.Air.{keyings, bench_air}
use Rattle.air.proofs.Kept.{air_unread, right_at_start}
use Rattle.reporting.specs.Reporting.{report_of, report_bytes, report_said, reported_bench}
use Rattle.bench.specs.Step.{Call, opening, closing, packet, tick, report, received, transmitter, side, totals, written, keeping}
use Rattle.bench.proofs.Keeping.{report_reads}
use Rattle.record.specs.declared.setup.Setup.{Setup}
use Rattle.record.specs.declared.whole.Bench.{Bench}
use Rattle.demands.specs.ExactCalls.{refusals_of}
use Rattle.demands.specs.AirKept.{AirRight, NoQuestion, AirKept}
use Rattle.demands.proofs.Demand1.Calls.{bench_after, after_call, accepted_bench}
use Rattle.demands.proofs.Bench.Runs.{after_run}

pub air_at_start : (setup : Setup) → AirRight (fresh_bench setup)
air_at_start setup = subst AirRight (right_at_start setup) (sym (air_unread (fresh_bench setup)))

-- a report and totals leave what stands there, every other accepted call makes it right
air_left : (b : Bench) (c : Call) → NoQuestion c ⊎ AirRight b → AirRight (bench_after b c)
air_left b (opening n r) known = sym (air_unread _)
air_left b (closing n) known = sym (air_unread _)
air_left b (packet n p) known = sym (air_unread _)
air_left b (tick ms timestamp room) known = sym (air_unread _)
air_left b (report n timestamp sound room) (inl none) = absurd (none.0 n timestamp sound room refl)
air_left b (report n timestamp sound room) (inr right) = unfold reported_bench bench_air keyings in right
air_left b (received signals level) known = sym (air_unread _)
air_left b (transmitter healthy) known = sym (air_unread _)
air_left b (side standby) known = sym (air_unread _)
air_left b (totals n) (inl none) = absurd (none.1 n refl)
air_left b (totals n) (inr right) = right

pub air_by_call : (b : Bench) (c : Call) → AirRight b → AirRight (keeping b c).bench
air_by_call b c right = after_call AirRight b c right (λ none. air_left b c (inr right))

by_accepted : (b : Bench) (c : Call) → NoCase (refusals_of b c) → NoQuestion c → AirRight (keeping b c).bench
by_accepted b c none no-question = subst AirRight (sym (accepted_bench b c none)) (air_left b c (inl no-question))

by_report : (b : Bench) (n timestamp : ℕ) (sound : List ℕ) (room : ℕ) → (keeping b (report n timestamp sound room)).bench.air ≡ b.air
by_report b n timestamp sound room =
    after_call (λ (x : Bench). x.air ≡ b.air) b (report n timestamp sound room) refl (λ none. unfold reported_bench in refl)

was_written : (answer : Answer ℕ) (sent bytes : List ℕ) → mapped (λ (long : ℕ). written sent) answer ≡ accepted (written bytes) → bytes ≡ sent
was_written answer sent bytes e = grind arith

report_tells : (b : Bench) (n timestamp : ℕ) (sound bytes : List ℕ) (room : ℕ)
    → (keeping b (report n timestamp sound room)).answer ≡ accepted (written bytes) → bytes ≡ encode b.setup.ext (from_rx (report_of b n timestamp)) sound
unfolding report_bytes
report_tells b n timestamp sound bytes room e = was_written (report_said b n timestamp sound room) _ bytes (sym (report_reads b n timestamp sound room) ∙ e)

pub air_kept : AirKept
air_kept =
    record {
      at_the_start = air_at_start;
      by_each_call = air_by_call;
      in_every_run = λ setup cs. after_run AirRight air_by_call (fresh_bench setup) cs (air_at_start setup);
      by_accepted = by_accepted;
      by_report = by_report;
      report_tells = report_tells;
    }
