-- What `map` makes of an array, as one equation.
use Prim.Native.Nat.{ℕ, zero, suc, ◌+◌, ◌≤◌, ◌<◌}
use mathlib.Core.Path.{◌≡◌, sym, subst, ◌∙◌}
use mathlib.Core.List.{List, [], ◌∷◌, map}
use mathlib.Core.Logic.{◌⊎◌, inl, inr}
use native.Mathlib.Omega.{arith}
use lib.ListN.{length, get_or}
use denote.Param.Members.{Mut, Called}
use Rattle.std.specs.Array.{IsMapOf, MapsFrom}
use Rattle.std.proofs.lemmas.Bool.{cases_eq}
use Rattle.std.proofs.lemmas.List.{same_lists, get_or-map, length-map, nil_from_length}

-- Where each call of the closure leaves it as it was and answers h, the array is that of h.
module _ {F A B : Type 0} (g : Mut F (A × Unit {0}) B) (h : A → B) (f : F)
    (calls : (x : A) (y : B) (q : F) → Called g f (x, tt) y q → (q ≡ f) × (y ≡ h x)) where
  each_from : (xs : List A) (ys : List B) (n i : ℕ) → MapsFrom g f xs ys i n → (k : ℕ) (d : A) (e : B) → i ≤ k → k < i + n → get_or ys k e ≡ h (get_or xs k d)
  each_from xs ys zero i made k d e low high = absurd (omega arith)
  each_from xs ys (suc n) i (q, x, y, here, there, call, rest) k d e low high =
      let said = calls x y q call in
      by_place said.1 (cases_eq k i) (each_from xs ys n (i + 1) (subst (λ p. MapsFrom g p xs ys (i + 1) n) said.0 rest) k d e)
    where
      by_place : y ≡ h x → (k ≡ i) ⊎ (k ≡ i → ⊥) → (i + 1 ≤ k → k < i + 1 + n → get_or ys k e ≡ h (get_or xs k d)) → get_or ys k e ≡ h (get_or xs k d)
      by_place is (inl at) further = rw (at, there.1 e, here.1 d) is
      by_place is (inr past) further = further (omega arith) (omega arith)

  pub mapped : (n : ℕ) (xs : List A) (ys : List B) → length xs ≡ n → IsMapOf g f xs ys n → ys ≡ map h xs
  mapped n [] ys long made = nil_from_length ys (made.long ∙ sym long)
  mapped n (x ∷ xs) ys long made =
      same_lists ys (map h (x ∷ xs)) (simp length-map (made.long ∙ sym long)) (λ k e under.
      let inside : k < length (x ∷ xs) = omega (arith, made.long) in
      each_from (x ∷ xs) ys n 0 made.each k x e (omega arith) (omega (arith, long)) ∙ sym (get_or-map h (x ∷ xs) k x e inside))
