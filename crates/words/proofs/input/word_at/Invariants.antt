use Rattle.std.proofs.Common.{◌≡◌, ◌≤◌, length}
use Rattle.words.specs.Input.{word_at}
use Rattle.words.proofs.input.word_at.Given as goal

abbrev pub invariant-loop : goal.invariant-loop
invariant-loop l = (l.at ≡ word_at l.s l.counter) × (l.at ≤ length l.s)
