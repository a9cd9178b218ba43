-- A part up to the end.
use Prim.Native.Nat.{ℕ, ◌-◌}
use mathlib.Core.Path.{◌≡◌}
use mathlib.Core.List.{List}
use native.Mathlib.Omega.{arith}
use Rattle.std.proofs.lemmas.Grind.{common_steps}
use lib.ListN.{length, take, drop}

pub part_to_end : {A : Type 0} (s : List A) (from : ℕ) → take (length s - from) (drop from s) ≡ drop from s
part_to_end s from = grind (arith, common_steps)
