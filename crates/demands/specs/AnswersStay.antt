-- 02, request 5: "Every answer stays as it was": of the bench that keeps its air (keeping) it is the one that 01's definitions
-- give where who is on the air is worked out afresh at each report (step).
use Rattle.std.specs.Prelude.{◌≡◌, List}
use Rattle.record.specs.Record.{fresh_bench, with_air}
use Rattle.air.specs.Air.{aired}
use Rattle.bench.specs.Step.{Call, step, keeping, after}
use Rattle.record.specs.declared.setup.Setup.{Setup}
use Rattle.record.specs.declared.shown.Air.{Air}
use Rattle.record.specs.declared.whole.Bench.{Bench}
use Rattle.demands.specs.AirKept.{AirRight}

pub record AnswersStay : Type 0 where
  -- step is document 01's bench: it neither reads nor moves what the record keeps of the air.
  pub unread : (b : Bench) (air : Air) (c : Call) → step (with_air b air) c ≡ record { answer = (step b c).answer; bench = with_air (step b c).bench air }
  -- After every run of calls, and so of every call in it, for its forerunners are such a run,
  pub each_answer : (setup : Setup) (cs : List Call) (c : Call)
      → (keeping (after keeping (fresh_bench setup) cs) c).answer ≡ (step (after step (fresh_bench setup) cs) c).answer
  -- and the bench is the same in all but its air.
  pub each_bench : (setup : Setup) (cs : List Call) → after keeping (fresh_bench setup) cs ≡ aired (after step (fresh_bench setup) cs)
  -- So from any bench, also one made by hand, where its air is right.
  pub from_right : (b : Bench) (c : Call) → AirRight b → keeping b c ≡ record { answer = (step b c).answer; bench = aired (step b c).bench }
