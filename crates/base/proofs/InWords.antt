-- The definitions of Order, held to InWords.
use Prim.Native.Nat.{ℕ, ◌+◌, ◌%◌, ◌≤◌}
use mathlib.Core.Path.{◌≡◌, refl, sym, subst}
use mathlib.Core.Bool.{Bool, true, false, false≢true}
use mathlib.Core.Logic.{◌↔◌}
use native.Mathlib.Omega.{arith}
use Rattle.std.proofs.lemmas.Int.{ints}
use lib.Dec.{le→leb}
use lib.IntN.{ℤ, pos, ◌+ℤ◌}
use Rattle.base.specs.Order.{wrapped, distance, late, missing}
use Rattle.base.specs.InWords.{Missing, first, later}
use Rattle.base.proofs.OrderLaws.{distance_leads, distance_only, missing_most, missing_is}

module _ (last new : ℕ) where
  -- a packet that is not late has so many missing before it
  pub so_many : (heard : Bool) → late heard last new ≡ false → Missing heard last new (missing heard last new)
  unfolding missing
  so_many true in-time =
      later (missing true last new) refl (missing_most true last new)
      (subst (λ (z : ℤ). wrapped (pos last +ℤ z) ≡ new % 65536) (sym (missing_is last new in-time)) (distance_leads last new))
  so_many false in-time = first refl

  leads_on : (k : ℕ) → k ≤ 32766 → (last + (k + 1)) % 65536 ≡ new % 65536 → pos (k + 1) ≡ distance last new
  leads_on k most leads = distance_only last new (pos (k + 1)) (record { le = tt }) (record { le = le→leb (k + 1) 32767 (omega arith) }) leads

  -- and no other number
  pub no_other : (heard : Bool) (k : ℕ) → Missing heard last new k → k ≡ missing heard last new
  unfolding missing
  no_other false _ (first e) = refl
  no_other false k (later _ e most leads) = absurd (false≢true e)
  no_other true _ (first e) = absurd (false≢true (sym e))
  no_other true k (later _ e most leads) = grind (arith, ints, leads_on k most leads)

  -- it is late exactly if no number of packets can be missing before it
  pub late_exactly : (heard : Bool) → (late heard last new ≡ true) ↔ ((k : ℕ) → Missing heard last new k → ⊥)
  unfolding late
  late_exactly heard = (to heard, λ none. by_case (late heard last new) refl none)
    where
      to : (heard : Bool) → late heard last new ≡ true → (k : ℕ) → Missing heard last new k → ⊥
      to false e k m = false≢true e
      to true e _ (first f) = false≢true (sym f)
      to true e k (later _ f most leads) = grind (arith, ints, leads_on k most leads)

      by_case : (t : Bool) → late heard last new ≡ t → ((k : ℕ) → Missing heard last new k → ⊥) → t ≡ true
      by_case true e none = refl
      by_case false e none = absurd (none (missing heard last new) (so_many heard e))
