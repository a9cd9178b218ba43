-- Laws for a loop that changes the elements of a list in place, one by one from the front.
use Prim.Native.Nat.{ℕ, zero, suc, ◌+◌, ◌<◌, ◌≤◌}
use mathlib.Core.Path.{◌≡◌, refl, ap}
use mathlib.Core.List.{List, [], ◌∷◌, ◌++◌, map, append-nil}
use native.Mathlib.Nat.{le_of_suc-le-suc, not-suc-le-zero}
use native.Mathlib.Numerals.{add-one}
use lib.ListN.{length, take, drop, get_or, set, drop_of_length-le}
use lib.Seq.{take_all}

module _ {A : Type 0} (g : A → A) where
  -- what stands in it after i turns
  abbrev pub changed_to : ℕ → List A → List A
  changed_to i l = map g (take i l) ++ drop i l

  change_next : (i : ℕ) (l : List A) (z : A) → i < length l → set (changed_to i l) i (g (get_or (changed_to i l) i z)) ≡ changed_to (suc i) l
  change_next i [] z h = absurd (not-suc-le-zero h)
  change_next zero (a ∷ l) z h = refl
  change_next (suc i) (a ∷ l) z h = ap (g a ∷◌) (change_next i l z (le_of_suc-le-suc h))

  pub change_more : (i : ℕ) (l made : List A) (z b : A) → i < length l → made ≡ changed_to i l → b ≡ g (get_or made i z) → set made i b ≡ changed_to (i + 1) l
  change_more i l made z b h e v = rw (v, e, add-one) (change_next i l z h)

  pub change_done : (i : ℕ) (l made : List A) → length l ≤ i → made ≡ changed_to i l → made ≡ map g l
  change_done i l made h e = rw (e, take_all i l h, drop_of_length-le l h) (append-nil (map g l))
