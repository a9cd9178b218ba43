use Rattle.std.proofs.Common.{rules, tests, ◌≡◌, true, false, refl, arith}
use Rattle.std.proofs.lemmas.Iterator.{IsFirst-from_position, index_from_first, YieldsList-from_slice}
use Rattle.std.proofs.lemmas.List.{take_rest}
use Rattle.std.specs.List.{prefix_len}
use Rattle.words.proofs.input.past.Goals as goal

pub returns-clause-place : goal.returns-clause-place
returns-clause-place g c p h =
    let rest = c.part-rest.result.now in
    let first = IsFirst-from_position _ _ c.position.result (λ b. p b ≡ false) (λ b. p b ≡ true) c.position.ensures.ran (YieldsList-from_slice rest cc) (λ x q k. search (rules, tests, h)) (λ x q k. search (rules, tests, h)) in
    let count = index_from_first (prefix_len p) (λ b. p b ≡ false) (λ b. p b ≡ true) refl (λ x xs e. rw e) (λ x xs e. rw e (omega arith)) rest c.position.result first in
    search (rules, count, take_rest)
