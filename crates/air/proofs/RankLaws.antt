-- Which PTT types have a rank.
use Prim.Native.Nat.{ℕ}
use mathlib.Core.Path.{◌≡◌}
use native.Mathlib.Omega.{arith}
use lib.Dec.{ltb}
use Rattle.std.proofs.lemmas.Bool.Decides.{nat_tests}
use Rattle.packet.specs.Packet.{ptt_on}
use Rattle.air.specs.Air.{rank}

-- PTT on is to have a rank
pub on_is_ranked : (ptt : ℕ) → ptt_on ptt ≡ ltb 0 (rank ptt)
on_is_ranked ptt = grind (arith, nat_tests)
