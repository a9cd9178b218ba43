use Rattle.std.proofs.Common.{◌≡◌, ◌^◌, ◌<◌, drop}
use Rattle.words.specs.Numbers.{number_from, number_in}
use Rattle.words.proofs.numbers.number_in.Given as goal

abbrev pub invariant-loop-b : goal.invariant-loop-b
invariant-loop-b l = (l.value < 2 ^ 32) × (number_from l.radix l.value (drop l.b-index l.w) ≡ number_in l.radix l.w)
