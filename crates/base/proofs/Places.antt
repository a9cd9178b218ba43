-- An element of a list by its place.
use Prim.Native.Nat.{ℕ, zero, suc}
use mathlib.Core.Path.{◌≡◌, refl, sym, ap, ◌∙◌}
use mathlib.Core.List.{List, [], ◌∷◌, map}
use lib.ListN.{get_or, set, replicate, get_or-map}

module _ {A : Type 0} (d : A) where
  -- a place of a changed list holds the new element or the old one
  pub set_cases : (P : A → Type 0) (l : List A) (k j : ℕ) (a : A) → P (get_or l j d) → (j ≡ k → P a) → P (get_or (set l k a) j d)
  set_cases P [] k j a old new = old
  set_cases P (x ∷ xs) zero zero a old new = new refl
  set_cases P (x ∷ xs) zero (suc j) a old new = old
  set_cases P (x ∷ xs) (suc k) zero a old new = old
  set_cases P (x ∷ xs) (suc k) (suc j) a old new = set_cases P xs k j a old (λ e. new (ap suc e))

  -- of the default alone, inside and past the end
  pub all_alike : (n k : ℕ) → get_or (replicate n d) k d ≡ d
  all_alike zero k = refl
  all_alike (suc n) zero = refl
  all_alike (suc n) (suc k) = all_alike n k

-- of a list whose elements were all changed alike, where the default is changed alike too
pub map_place : {A B : Type 0} (f : A → B) (a : A) {b : B} → f a ≡ b → (l : List A) (k : ℕ) → get_or (map f l) k b ≡ f (get_or l k a)
map_place f a e l k = ap (get_or (map f l) k) (sym e) ∙ get_or-map f l k a
