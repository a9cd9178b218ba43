-- For teachers, from demand 3: whatever lesson seats do, while a healthy transmitter has an unmuted live keying above Test,
-- who is on the air, the audio sent and every report to a live seat, asked for or sent with a tick, are those of a bench on which no
-- lesson seat was ever opened.
use Rattle.std.specs.Prelude.{ℕ, ◌≡◌, true, false, List, []}
use Rattle.packet.specs.Refusals.{Answer, accepted, refused}
use Rattle.record.specs.Record.{seat_numbers, entry_of, lesson, fresh_bench}
use Rattle.air.specs.Air.{bench_air}
use Rattle.bench.specs.Step.{Call, packet, tick, report, Said, done, own, heard, ticked, written, totalled, keeping, after}
use Rattle.record.specs.declared.setup.Setup.{Setup}
use Rattle.record.specs.declared.whole.Bench.{Bench}
use Rattle.demands.specs.Apart.{without_lessons, live_above_test, audio_sent}

-- the record of seat n in the answer to a tick
unfoldable pub record_to : (n : ℕ) → Answer Said → List ℕ
record_to n (accepted done) = []
record_to n (accepted (own id)) = []
record_to n (accepted (heard h sound)) = []
record_to n (accepted (ticked closed due records)) = entry_of [] records n
record_to n (accepted (written bytes)) = []
record_to n (accepted (totalled packets missing)) = []
record_to n (refused k cause) = []

-- b after the run, e after the same run without its lesson calls
pub record AsIfAlone (setup : Setup) (b e : Bench) : Type 0 where
  pub air : live_above_test b seat_numbers ≡ true → bench_air b ≡ bench_air e
  pub audio : (n : ℕ) (p : List ℕ) → live_above_test (keeping b (packet n p)).bench seat_numbers ≡ true
      → audio_sent (keeping b (packet n p)).answer ≡ audio_sent (keeping e (packet n p)).answer
  pub reports : (n timestamp : ℕ) (sound : List ℕ) (room : ℕ) → lesson setup n ≡ false → live_above_test b seat_numbers ≡ true
      → (keeping b (report n timestamp sound room)).answer ≡ (keeping e (report n timestamp sound room)).answer
  -- judged on the bench after the tick's closings
  pub records : (ms timestamp room n : ℕ) → lesson setup n ≡ false → live_above_test (keeping b (tick ms timestamp room)).bench seat_numbers ≡ true
      → record_to n (keeping b (tick ms timestamp room)).answer ≡ record_to n (keeping e (tick ms timestamp room)).answer

abbrev pub Undisturbed : Type 0
Undisturbed = (setup : Setup) (run : List Call) → AsIfAlone setup (after keeping (fresh_bench setup) run) (after keeping (fresh_bench setup) (without_lessons setup run))
