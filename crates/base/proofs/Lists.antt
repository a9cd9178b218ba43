-- How many members of a list pass a test: at most all; of two lists joined; and of a list whose members were all changed.
use Prim.Native.Nat.{◌+◌, ◌≤◌}
use mathlib.Core.Path.{◌≡◌, refl}
use mathlib.Core.Bool.{Bool}
use mathlib.Core.List.{List, [], ◌∷◌, ◌++◌, map}
use native.Mathlib.Omega.{arith}
use lib.ListN.{length}
use Rattle.base.specs.Lists.{how_many}
use Rattle.base.proofs.Truths.{bit_most}

module _ {A : Type 0} (test : A → Bool) where
  pub many_joined : (l r : List A) → how_many test (l ++ r) ≡ how_many test l + how_many test r
  unfolding how_many
  many_joined [] r = omega arith
  many_joined (x ∷ l) r = let rest = many_joined l r in omega arith

  pub many_most : (l : List A) → how_many test l ≤ length l
  unfolding how_many
  many_most [] = omega arith
  many_most (x ∷ l) = let rest = many_most l in omega (arith, bit_most (test x))

  pub many_changed : {B : Type 0} (f : B → A) (l : List B) → how_many test (map f l) ≡ how_many (λ x. test (f x)) l
  unfolding how_many
  many_changed f [] = refl
  many_changed f (x ∷ l) = let rest = many_changed f l in omega arith
