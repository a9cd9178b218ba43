-- A keying that begins moves a seat in the order of keyings; each seat stays in it as often as it was.
use Rattle.std.proofs.lemmas.Grind.{common_steps}
use Rattle.std.proofs.lemmas.Bool.Decides.{nat_tests}
use Prim.Native.Nat.{ℕ}
use mathlib.Core.Path.{◌≡◌, refl, ap, sym, ◌∙◌}
use mathlib.Core.Bool.{Bool}
use mathlib.Core.List.{List, [], ◌∷◌}
use native.Mathlib.Omega.{arith}
use lib.Dec.{ltb, eqb}
use lib.ListN.{length}
use Rattle.base.specs.Lists.{how_many}
use Rattle.base.proofs.Lists.{many_joined}
use Rattle.air.specs.Air.{among}
use Rattle.air.specs.Order.{to_last, order_after}
use Rattle.record.specs.declared.seat.Field.{Field}

-- ---- moving a number behind the others

pub many_to_last : (test : ℕ → Bool) (k : ℕ) (l : List ℕ) → how_many test (to_last k l) ≡ how_many test l
unfolding to_last how_many
many_to_last test k [] = refl
many_to_last test k (m ∷ l) = grind (arith, nat_tests, many_joined, many_to_last test k l)

pub length_to_last : (k : ℕ) (l : List ℕ) → length (to_last k l) ≡ length l
unfolding to_last
length_to_last k [] = refl
length_to_last k (m ∷ l) = grind (arith, common_steps, length_to_last k l)

module _ (n : ℕ) (old new : Field) (order : List ℕ) where
  pub many_order_after : (test : ℕ → Bool) → how_many test (order_after n old new order) ≡ how_many test order
  unfolding order_after
  many_order_after test = grind (arith, many_to_last)

  pub length_order_after : length (order_after n old new order) ≡ length order
  unfolding order_after
  length_order_after = grind (arith, length_to_last)

-- ---- what a count says

pub among_counted : (l : List ℕ) (n : ℕ) → among l n ≡ ltb 0 (how_many (λ m. eqb m n) l)
unfolding among how_many
among_counted [] n = refl
among_counted (m ∷ l) n = grind (arith, nat_tests, among_counted l n)

-- so who stands in the order stays in it
pub among_after : (n j : ℕ) (old new : Field) (l : List ℕ) → among (order_after n old new l) j ≡ among l j
among_after n j old new l = among_counted _ j ∙ ap (ltb 0) (many_order_after n old new l (λ m. eqb m j)) ∙ sym (among_counted l j)
