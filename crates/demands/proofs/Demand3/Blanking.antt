-- Lists with a default in each place that flags mark.
use Prim.Native.Nat.{ℕ, zero, suc}
use mathlib.Core.Path.{◌≡◌, refl, ap}
use mathlib.Core.Bool.{Bool, true, false, cond, false≢true}
use mathlib.Core.List.{List, [], ◌∷◌, map}
use lib.ListN.{get_or, set}

unfoldable pub blank : {A : Type 0} → A → List Bool → List A → List A
blank d [] xs = xs
blank d (f ∷ fs) [] = []
blank d (f ∷ fs) (x ∷ xs) = cond f d x ∷ blank d fs xs

module _ {A : Type 0} (d : A) where
  -- a place that is not marked is as it was
  pub blank_elsewhere : (fs : List Bool) (l : List A) (k : ℕ) → get_or fs k false ≡ false → get_or (blank d fs l) k d ≡ get_or l k d
  unfolding blank
  blank_elsewhere [] l k e = refl
  blank_elsewhere (f ∷ fs) [] k e = refl
  blank_elsewhere (f ∷ fs) (x ∷ xs) zero e = rw e
  blank_elsewhere (f ∷ fs) (x ∷ xs) (suc k) e = blank_elsewhere fs xs k e

  -- what is put into a marked place is not seen
  pub set_hidden : (fs : List Bool) (l : List A) (k : ℕ) (a : A) → get_or fs k false ≡ true → blank d fs (set l k a) ≡ blank d fs l
  unfolding blank
  set_hidden [] l k a e = absurd (false≢true e)
  set_hidden (f ∷ fs) [] k a e = refl
  set_hidden (f ∷ fs) (x ∷ xs) zero a e = rw e
  set_hidden (f ∷ fs) (x ∷ xs) (suc k) a e = ap (λ (r : List A). cond f d x ∷ r) (set_hidden fs xs k a e)

  -- and what is put elsewhere is put into the rest
  pub set_elsewhere : (fs : List Bool) (l : List A) (k : ℕ) (a : A) → get_or fs k false ≡ false → set (blank d fs l) k a ≡ blank d fs (set l k a)
  unfolding blank
  set_elsewhere [] l k a e = refl
  set_elsewhere (f ∷ fs) [] k a e = refl
  set_elsewhere (f ∷ fs) (x ∷ xs) zero a e = rw e
  set_elsewhere (f ∷ fs) (x ∷ xs) (suc k) a e = ap (λ (r : List A). cond f d x ∷ r) (set_elsewhere fs xs k a e)

  pub map_blank : (f : A → A) → f d ≡ d → (fs : List Bool) (l : List A) → map f (blank d fs l) ≡ blank d fs (map f l)
  unfolding blank
  map_blank f e [] l = refl
  map_blank f e (b ∷ fs) [] = refl
  map_blank f e (true ∷ fs) (x ∷ xs) = simp (e, map_blank f e fs xs)
  map_blank f e (false ∷ fs) (x ∷ xs) = simp (map_blank f e fs xs)
