-- Second witness of `air`, `demands` (live_above_test): 01, Who is on the air, of every bench that calls lead to. What its record says is
-- what 01's sentences say, in the words and numbers that crate `air` has beside its definitions (InWords). And demand 3's "While", in the
-- same words.
use Rattle.std.specs.Prelude.{ℕ, ◌≤◌, ◌≡◌, true, false, List, ◌↔◌}
use Rattle.record.specs.Record.{seat_numbers, lesson, fresh_bench}
use Rattle.air.specs.InWords.{last_field, TakesPart, EachPlaced, Shows}
use Rattle.bench.specs.Step.{Call, keeping, after}
use Rattle.record.specs.declared.setup.Setup.{Setup}
use Rattle.record.specs.declared.whole.Bench.{Bench}
use Rattle.demands.specs.Apart.{live_above_test}

-- "a healthy transmitter has an unmuted live keying above Test": a live seat takes part with Normal, Coupling, Priority or Emergency (1 to
-- 4)
pub record LiveAbove (b : Bench) : Type 0 where
  pub seat : ℕ
  pub live : lesson b.setup seat ≡ false
  pub part : TakesPart b seat
  pub above_test : (last_field b seat).ptt ≤ 4

pub record OnTheAir : Type 0 where
  pub in_every_run : (setup : Setup) (cs : List Call) → let b = after keeping (fresh_bench setup) cs in EachPlaced b × Shows b b.air
  pub while : (b : Bench) → (live_above_test b seat_numbers ≡ true) ↔ LiveAbove b
