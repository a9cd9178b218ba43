-- The frame, held to InWords.
use Prim.Native.Nat.{ℕ, ◌<◌}
use mathlib.Core.Path.{refl}
use mathlib.Core.List.{List}
use native.Mathlib.Omega.{arith}
use lib.ListN.{length}
use Rattle.framing.specs.Framing.{framed}
use Rattle.framing.specs.InWords.{IsFrame}

pub framed_is : (p : List ℕ) → length p < 65536 → IsFrame p (framed p)
unfolding framed
framed_is p short = record { as_long = omega arith; high = omega arith; low = refl; behind = refl }
