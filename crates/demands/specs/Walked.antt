-- `relay`, whose result holds a part of what is lent, has no line in Tight, in AsksNothing or in StepOfCode. Here is the same of it, over its
-- contract and the definitions that this cites. (The name is from a Rattle in which such a function was proved by a walk.)
use Rattle.std.specs.Prelude.{ℕ, ◌≡◌, List}
use contract.Lifetimes.{Lfts}
use contract.Monad.{fact}
use Rattle.std.specs.Borrow.{Bor}
use denote.Triple.Clauses.{AtExit}
use denote.Triple.Entry.{Args}
use borrow.Fn.World.{World}
use Rattle.packet.specs.Refusals.{mapped, answer_of}
use Rattle.relaying.specs.Relaying.{Relays}
use Rattle.bench.specs.Step.{packet, told, keeping}
use Rattle.record.specs.declared.whole.Bench.{Bench}
use Rattle.relaying.specs.declared.Relayed.{Relayed}
use Rattle.relaying.specs.contracts.relay as relay
use Rattle.demands.specs.AsksNothing.{NothingAsked}
use Rattle.demands.specs.StepOfCode.{did}

pub record Walked : Type 2 where
  -- the `ensures` of `relay`, in every model of the logic, is `Relays` of what it is passed,
  pub relay_promises : (k : Lfts 1) (a : Args relay.signature k) (r : Relayed) (e : AtExit relay.ended k) (w : World)
      → (relay.clauses w.𝓛 w.𝓜.mem w.𝓡.run k a).ensures tt r e ≡ fact w.𝓤 (Relays a.0 a.1.0 a.1.1.0 r)
  -- and nothing is asked of its caller
  pub relay_asks : NothingAsked (λ k a g w. (relay.clauses w.𝓛 w.𝓜.mem w.𝓡.run k a).requires g)
  -- any two results that satisfy it coincide: the bench, the answer, and of the part its content and where it points
  pub relay_once : (b : Bench) (n : ℕ) (p : Bor (List ℕ)) (r s : Relayed) → Relays b n p r → Relays b n p s
      → (r.bench ≡ s.bench) × (r.answer ≡ s.answer) × (r.audio.now ≡ s.audio.now) × (r.audio.ref_ptr ≡ s.audio.ref_ptr)
  -- and it does what `keeping` says of the packet
  pub relay_does : (b : Bench) (n : ℕ) (p : Bor (List ℕ)) (r : Relayed) → Relays b n p r
      → did (mapped (told p.now) (answer_of r.answer)) r.bench ≡ keeping b (packet n p.now)
