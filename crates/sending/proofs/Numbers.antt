-- The report sequence numbers after a tick.
use Prim.Native.Nat.{ℕ, zero, suc, ◌<◌}
use mathlib.Core.Path.{◌≡◌, refl, ap}
use mathlib.Core.Bool.{Bool, true, false}
use mathlib.Core.List.{List, [], ◌∷◌}
use native.Mathlib.Omega.{arith}
use lib.ListN.{length, get_or, replicate}
use Rattle.sending.specs.Sending.{one_further}

-- as many as before
pub as_many_numbers : (rs : List Bool) (qs : List ℕ) → length (one_further rs qs) ≡ length qs
unfolding one_further
as_many_numbers [] qs = refl
as_many_numbers (r ∷ rs) [] = refl
as_many_numbers (r ∷ rs) (q ∷ qs) = ap suc (as_many_numbers rs qs)

-- ".. wrapping": where all fit, they still do
pub numbers_fit : (rs : List Bool) (qs : List ℕ) → ((i : ℕ) → get_or qs i 0 < 65536) → (i : ℕ) → get_or (one_further rs qs) i 0 < 65536
unfolding one_further
numbers_fit [] qs fit i = fit i
numbers_fit (r ∷ rs) [] fit i = fit i
numbers_fit (true ∷ rs) (q ∷ qs) fit zero = omega (arith, fit 0)
numbers_fit (false ∷ rs) (q ∷ qs) fit zero = fit 0
numbers_fit (r ∷ rs) (q ∷ qs) fit (suc i) = numbers_fit rs qs (λ j. fit (suc j)) i

-- no report, no number moved
pub none_further : (n : ℕ) (qs : List ℕ) → one_further (replicate n false) qs ≡ qs
unfolding one_further
none_further zero qs = refl
none_further (suc n) [] = refl
none_further (suc n) (q ∷ qs) = ap (λ (rest : List ℕ). q ∷ rest) (none_further n qs)
