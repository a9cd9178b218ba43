use Rattle.std.proofs.Common.{◌≡◌, ◌≤◌, ◌-◌, length}
use Rattle.words.specs.Input.{word_at, first_from, is_at, choice_of}
use Rattle.words.proofs.input.choice.Given as goal

abbrev pub invariant-loop-n : goal.invariant-loop-n
invariant-loop-n l =
    (l.at ≡ word_at l.list l.n) × (l.at ≤ length l.list)
    × (first_from (is_at l.w l.list) l.n (length l.list - l.n) ≡ choice_of l.w l.list)
