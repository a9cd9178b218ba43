-- Keeping the air changes no answer: each call as 01 has it, where the air is right, and so along every run.
use mathlib.Core.Path.{◌≡◌, sym, ap, ◌∙◌}
use mathlib.Core.List.{List}
use Rattle.record.specs.Record.{fresh_bench, with_air}
use Rattle.air.specs.Air.{aired}
use Rattle.air.proofs.Kept.{right_at_start}
use Rattle.bench.specs.Step.{Call, Outcome, step, keeping, after}
use Rattle.bench.proofs.Keeping.{unread, as_meant, run_as_meant}
use Rattle.record.specs.declared.setup.Setup.{Setup}
use Rattle.record.specs.declared.whole.Bench.{Bench}
use Rattle.demands.specs.AirKept.{AirRight}
use Rattle.demands.specs.AnswersStay.{AnswersStay}

module _ (setup : Setup) (cs : List Call) where
  each_bench : after keeping (fresh_bench setup) cs ≡ aired (after step (fresh_bench setup) cs)
  each_bench = ap (λ (b : Bench). after keeping b cs) (sym (right_at_start setup)) ∙ run_as_meant (fresh_bench setup) cs

  each_answer : (c : Call) → (keeping (after keeping (fresh_bench setup) cs) c).answer ≡ (step (after step (fresh_bench setup) cs) c).answer
  each_answer c = ap (λ (b : Bench). (keeping b c).answer) each_bench ∙ ap (λ (o : Outcome). o.answer) (as_meant (after step (fresh_bench setup) cs) c)

from_right : (b : Bench) (c : Call) → AirRight b → keeping b c ≡ record { answer = (step b c).answer; bench = aired (step b c).bench }
from_right b c right = ap (λ (x : Bench). keeping x c) (ap (with_air b) right) ∙ as_meant b c

pub answers_stay : AnswersStay
answers_stay = record { unread = unread; each_answer = each_answer; each_bench = each_bench; from_right = from_right }
