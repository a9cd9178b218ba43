-- 02, request 5: "Keep the on_air seats and the top type in the bench record, right after every call, and let reports read them." What the
-- record says of the air is what 01's sentences (bench_air) say of its seats.
use Rattle.std.specs.Prelude.{ℕ, ◌≡◌, List}
use Rattle.packet.specs.Refusals.{NoCase, accepted}
use Rattle.packet.specs.Messages.{from_rx}
use Rattle.writer.specs.Writing.{encode}
use Rattle.record.specs.Record.{fresh_bench}
use Rattle.air.specs.Air.{bench_air}
use Rattle.reporting.specs.Reporting.{report_of}
use Rattle.bench.specs.Step.{Call, report, totals, written, keeping, after}
use Rattle.record.specs.declared.setup.Setup.{Setup}
use Rattle.record.specs.declared.whole.Bench.{Bench}
use Rattle.demands.specs.ExactCalls.{refusals_of}

abbrev pub AirRight : Bench → Type 0
AirRight b = b.air ≡ bench_air b

-- neither a report nor totals
abbrev pub NoQuestion : Call → Type 0
NoQuestion c = ((n timestamp : ℕ) (sound : List ℕ) (room : ℕ) → c ≡ report n timestamp sound room → ⊥) × ((n : ℕ) → c ≡ totals n → ⊥)

pub record AirKept : Type 0 where
  pub at_the_start : (setup : Setup) → AirRight (fresh_bench setup)
  pub by_each_call : (b : Bench) (c : Call) → AirRight b → AirRight (keeping b c).bench
  pub in_every_run : (setup : Setup) (cs : List Call) → AirRight (after keeping (fresh_bench setup) cs)
  -- Whatever the record held, also one made by hand: an accepted call makes the air right, but a report leaves it as it was, and totals all
  -- of the bench (Accounts). (So does a call that is refused: ExactCalls, refused_keeps.)
  pub by_accepted : (b : Bench) (c : Call) → NoCase (refusals_of b c) → NoQuestion c → AirRight (keeping b c).bench
  pub by_report : (b : Bench) (n timestamp : ℕ) (sound : List ℕ) (room : ℕ) → (keeping b (report n timestamp sound room)).bench.air ≡ b.air
  -- "and let reports read them": a report that is written tells what the record says (report_of)
  pub report_tells : (b : Bench) (n timestamp : ℕ) (sound bytes : List ℕ) (room : ℕ)
      → (keeping b (report n timestamp sound room)).answer ≡ accepted (written bytes) → bytes ≡ encode b.setup.ext (from_rx (report_of b n timestamp)) sound
