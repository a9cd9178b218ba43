-- Where the steps of the quality fall.
use Prim.Native.Nat.{ℕ, ◌≤◌}
use mathlib.Core.Path.{◌≡◌}
use mathlib.Core.Bool.{true}
use mathlib.Core.Logic.{◌↔◌}
use native.Mathlib.Omega.{arith}
use lib.IntN.{ℤ}
use lib.Signed.{le_z}
use Rattle.packet.specs.Quality.{quality}
use Rattle.packet.proofs.QualityLaws.{quality_most}
use Rattle.demands.specs.Steps.{step_at, Steps}

module _ (q : ℕ) (least : 1 ≤ q) (most : q ≤ 15) where
  fall : (level : ℤ) → (q ≤ quality level) ↔ (le_z (step_at q) level ≡ true)
  unfolding quality
  fall level = grind arith

pub steps : Steps
steps = record { fall = λ level q least most. fall q least most level; never_above = quality_most }
