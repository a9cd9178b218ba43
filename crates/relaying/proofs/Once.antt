-- What the one call promises leaves one bench, one answer, and one part of the lent packet: the same bytes at the same place.
use Prim.Native.Nat.{ℕ}
use mathlib.Core.Path.{◌≡◌, refl, ap₂, sym, ◌∙◌}
use mathlib.Core.List.{List}
use contract.Lifetimes.{Lfts}
use contract.Monad.{fact}
use denote.Ref.{Bor}
use denote.Triple.Clauses.{AtExit}
use denote.Triple.Entry.{Args}
use borrow.Fn.World.{World}
use Rattle.record.specs.declared.whole.Bench.{Bench}
use Rattle.relaying.specs.Relaying.{Relays}
use Rattle.relaying.specs.declared.Relayed.{Relayed}
use Rattle.relaying.specs.contracts.relay as relay
use Rattle.packet.proofs.TellApart.{answer_tells}

-- In every model of the logic the `ensures` of the code says `Relays` of what is passed, and nothing else.
pub relay_promises : (k : Lfts 1) (a : Args relay.signature k) (r : Relayed) (e : AtExit relay.ended k) (w : World)
    → (relay.clauses w.𝓛 w.𝓜.mem w.𝓡.run k a).ensures tt r e ≡ fact w.𝓤 (Relays a.0 a.1.0 a.1.1.0 r)
relay_promises k a r e w = refl

pub relayed_once : (b : Bench) (n : ℕ) (p : Bor (List ℕ)) (r s : Relayed) → Relays b n p r → Relays b n p s
    → (r.bench ≡ s.bench) × (r.answer ≡ s.answer) × (r.audio.now ≡ s.audio.now) × (r.audio.ref_ptr ≡ s.audio.ref_ptr)
relayed_once b n p r s one other = (
  one.leaves ∙ sym other.leaves,
  answer_tells r.answer s.answer (one.answers ∙ sym other.answers),
  one.holds ∙ sym other.holds,
  ap₂ (λ block at. (block, at)) (one.lies.0 ∙ sym other.lies.0) (one.lies.1 ∙ sym other.lies.1),
)
