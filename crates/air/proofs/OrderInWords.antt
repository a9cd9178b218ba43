-- The order of keyings, held to InWords.
use Rattle.std.proofs.lemmas.Bool.Decides.{nat_tests}
use Prim.Native.Nat.{ℕ, ◌+◌, ◌-◌, ◌≤◌, ◌<◌}
use mathlib.Core.Path.{◌≡◌, refl, sym, ap, subst, ◌∙◌}
use mathlib.Core.Bool.{Bool, true, false, cond, false≢true}
use mathlib.Core.List.{List, [], ◌∷◌, ◌++◌}
use mathlib.Core.Logic.{◌↔◌}
use native.Mathlib.Omega.{arith}
use lib.Dec.{ltb, eqb}
use lib.ListN.{length}
use borrow.Author.Tests.{ltb-true, ltb-false, eq-eqb}
use Rattle.base.specs.Lists.{how_many}
use Rattle.air.specs.Air.{among}
use Rattle.air.specs.Order.{begins, to_last, order_after}
use Rattle.air.specs.InWords.{place_of, Begins, OnceEach, MovedLast}
use Rattle.record.specs.declared.seat.Field.{Field}
use Rattle.air.proofs.OrderCounts.{among_counted}
use Rattle.air.proofs.Members.{among_placed}

-- ---- a keying begins

module _ (old new : Field) where
  begins_to : begins old new ≡ true → Begins old new
  unfolding begins
  begins_to e = record { on = grind (arith, nat_tests); known = grind (arith, nat_tests); unmuted = grind (arith, nat_tests); from = grind (arith, nat_tests) }

  begins_from : Begins old new → begins old new ≡ true
  unfolding begins
  begins_from g = grind (arith, nat_tests, g.on, g.known, g.unmuted, g.from)

  pub begins_exactly : (begins old new ≡ true) ↔ Begins old new
  begins_exactly = (begins_to, begins_from)

-- ---- places

front : (xs zs : List ℕ) (k : ℕ) → among xs k ≡ true → place_of k (xs ++ zs) ≡ place_of k xs
unfolding among place_of
front [] zs k h = absurd (false≢true h)
front (x ∷ xs) zs k h = grind (arith, front xs zs k)

at_end : (xs : List ℕ) (n : ℕ) → how_many (λ m. eqb m n) xs ≡ 0 → place_of n (xs ++ n ∷ []) ≡ length xs
unfolding how_many place_of
at_end [] n h = rw (eq-eqb n n refl)
at_end (x ∷ xs) n h = grind (arith, at_end xs n)

-- two numbers that stand in a list stand in two places
apart : (l : List ℕ) (j k : ℕ) → among l j ≡ true → among l k ≡ true → place_of j l ≡ place_of k l → j ≡ k
unfolding among place_of
apart [] j k h g e = absurd (false≢true h)
apart (x ∷ l) j k h g e = grind (arith, nat_tests, apart l j k)

-- the seat that moves stands last, and the others move up where they stood behind it
last_place : (l : List ℕ) (n : ℕ) → how_many (λ m. eqb m n) l ≡ 1 → place_of n (to_last n l) + 1 ≡ length l
unfolding how_many place_of to_last
last_place [] n h = absurd (omega arith)
last_place (x ∷ l) n h = grind (arith, nat_tests, last_place l n, at_end l n)

moved_up : (l : List ℕ) (n k : ℕ) → (k ≡ n → ⊥) → among l n ≡ true → among l k ≡ true
    → place_of k (to_last n l) ≡ cond (ltb (place_of n l) (place_of k l)) (place_of k l - 1) (place_of k l)
unfolding among place_of to_last
moved_up [] n k other g h = absurd (false≢true h)
moved_up (x ∷ l) n k other g h = grind (arith, nat_tests, moved_up l n k other, front l (n ∷ []) k)

-- ---- the bench

strictly : (a c : ℕ) → a ≤ c → (a ≡ c → ⊥) → a < c
strictly a c h other = grind arith

module _ (l : List ℕ) (n : ℕ) (once : (k : ℕ) → 1 ≤ k → k ≤ 8 → how_many (λ m. eqb m k) l ≡ 1) (low : 1 ≤ n) (high : n ≤ 8) where
  stands : (k : ℕ) → 1 ≤ k → k ≤ 8 → among l k ≡ true
  stands k a c = among_counted l k ∙ ap (ltb 0) (once k a c)

  -- its place behind the others, by where it stood
  data Stood (k : ℕ) : Type 0 where
    before : place_of k l < place_of n l → place_of k (to_last n l) ≡ place_of k l → Stood k
    after_it : place_of n l < place_of k l → place_of k (to_last n l) + 1 ≡ place_of k l → Stood k

  stood : (k : ℕ) → 1 ≤ k → k ≤ 8 → (k ≡ n → ⊥) → Stood k
  stood k a c other = by_case (ltb (place_of n l) (place_of k l)) refl (moved_up l n k other (stands n low high) (stands k a c))
    where
      by_case : (t : Bool) → ltb (place_of n l) (place_of k l) ≡ t → place_of k (to_last n l) ≡ cond t (place_of k l - 1) (place_of k l) → Stood k
      by_case true e r = let far = ltb-true (place_of n l) (place_of k l) e in after_it far (omega arith)
      by_case false e r =
          before (strictly (place_of k l) (place_of n l) (ltb-false (place_of n l) (place_of k l) e) (λ q. other (apart l k n (stands k a c) (stands n low high) q))) r

  pub behind : (k : ℕ) → 1 ≤ k → k ≤ 8 → (k ≡ n → ⊥) → place_of k (to_last n l) < place_of n (to_last n l)
  behind k a c other = grind (arith, stood k a c other, last_place l n (once n low high), among_placed l n (stands n low high), among_placed l k (stands k a c))

  pub others : (j k : ℕ) → 1 ≤ j → j ≤ 8 → 1 ≤ k → k ≤ 8 → (j ≡ n → ⊥) → (k ≡ n → ⊥)
      → (place_of j (to_last n l) < place_of k (to_last n l)) ↔ (place_of j l < place_of k l)
  others j k a c d e f g = grind (arith, stood j a c f, stood k d e g)

-- ---- the order after a packet

module _ (n : ℕ) (old new : Field) (order : List ℕ) where
  pub moved_last : Begins old new → OnceEach order → 1 ≤ n → n ≤ 8 → MovedLast n order (order_after n old new order)
  unfolding order_after
  moved_last g once low high =
      subst (MovedLast n order) (sym (rw ((begins_exactly old new).1 g)))
      (record { behind = behind order n once low high; others = others order n once low high })

  pub unmoved : (Begins old new → ⊥) → order_after n old new order ≡ order
  unfolding order_after
  unmoved out = grind (arith, begins_to old new, out)
