-- What holds of `relay`, by its contract: the definitions that `packet` and `audio` promise.
use mathlib.Core.Path.{ap, ap₂}
use Rattle.demands.proofs.Promises.AsksNothing.{nothing}
use Rattle.packet.specs.Refusals.{mapped}
use Rattle.bench.specs.Step.{told, does}
use Rattle.relaying.proofs.Once.{relay_promises, relayed_once}
use Rattle.demands.specs.StepOfCode.{did}
use Rattle.demands.specs.Walked.{Walked}

pub walked : Walked
unfolding does
walked =
    record {
      relay_promises = relay_promises;
      relay_asks = λ k a. nothing;
      relay_once = relayed_once;
      relay_does = λ b n p r e. ap₂ did (ap (mapped (told p.now)) e.answers) e.leaves;
    }
