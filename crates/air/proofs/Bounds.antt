-- What the air shows fits its bits.
use Prim.Native.Nat.{ℕ, ◌≤◌}
use lib.Dec.{lit≤}
use Rattle.base.proofs.Truths.{either_most}
use Rattle.air.specs.Air.{type_of, top_rank, smallest, keyings, air_of, bench_air}
use Rattle.record.specs.declared.whole.Bench.{Bench}

type_most : (rank : ℕ) → type_of rank ≤ 5
type_most rank = search (either_most, lit≤, tt) depth 12

pub ptt_most : (b : Bench) → (bench_air b).ptt ≤ 5
unfolding bench_air air_of
ptt_most b = type_most (top_rank (keyings b))

pub id_most : (b : Bench) → (bench_air b).id ≤ 8
unfolding bench_air air_of smallest
id_most b = search (either_most, lit≤, tt) depth 12
