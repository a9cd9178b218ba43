use Rattle.std.proofs.Common.{◌≡◌, true, ◌+◌, ◌/◌, length}
use Rattle.std.proofs.lemmas.List.Edits.{sets}
use Rattle.std.specs.Iterator.Adapters.{enumerate_count, enumerate_source}
use Rattle.std.specs.Slice.Iter.{chunks_exact_rest, chunks_exact_size}
use Rattle.words.specs.Numbers.{all_digits}
use Rattle.words.specs.Pairs.{pairs}
use Rattle.words.proofs.pairs.put_pairs.Given as goal

-- The bytes of the pairs that are left, put behind those that were, are all of them.
abbrev pub invariant-loop-i : goal.invariant-loop-i
invariant-loop-i l =
    let n = enumerate_count l.i-iterator in
    let rest = chunks_exact_rest (enumerate_source l.i-iterator) in
    (goal.iterator-loop-i).can_next l.i-iterator × (goal.iterator-loop-i).is_finite l.i-iterator
    × (chunks_exact_size (enumerate_source l.i-iterator) ≡ 2)
    × (n + length rest / 2 ≡ length l.w / 2) × (all_digits 16 rest ≡ true)
    × (sets l.out n (pairs rest) ≡ sets l.fn.out 0 (pairs l.w))
