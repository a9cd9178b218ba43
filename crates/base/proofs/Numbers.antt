-- Bytes at a place are the number read there, written again; and a list cut at a place.
use Prim.Native.Nat.{ℕ, ◌+◌, ◌*◌, ◌%◌, ◌<◌}
use mathlib.Core.Path.{◌≡◌, ap, sym, ◌∙◌}
use mathlib.Core.List.{List, [], ◌∷◌, ◌++◌}
use native.Mathlib.Omega.{arith}
use lib.ListN.{length, take, drop, take-append-drop}
use lib.Seq.{drop-cons, drop-drop, take-add}
use Rattle.base.specs.Bytes.{byte_at, number16, number32, bytes8, bytes16, bytes32, Bytes}

-- what lies behind a place, in two
pub cut : {A : Type 0} (n m : ℕ) (l : List A) → drop n l ≡ take m (drop n l) ++ drop (n + m) l
cut {A} n m l = sym (take-append-drop m (drop n l)) ∙ ap (λ (r : List A). take m (drop n l) ++ r) (drop-drop m n l)

-- the first elements behind a place, in two
pub taken_in_two : {A : Type 0} (n m i : ℕ) (l : List A) → take (n + m) (drop i l) ≡ take n (drop i l) ++ take m (drop (i + n) l)
taken_in_two {A} n m i l = take-add n m (drop i l) ∙ ap (λ (r : List A). take n (drop i l) ++ take m r) (drop-drop n i l)

two_bytes : (a b : ℕ) → a < 256 → b < 256 → bytes8 a ++ bytes8 b ≡ bytes16 (a * 256 + b)
two_bytes a b h k = grind arith

four_bytes : (a b : ℕ) → a < 65536 → b < 65536 → bytes16 a ++ bytes16 b ≡ bytes32 (a * 65536 + b)
four_bytes a b h k = grind arith

module _ (s : List ℕ) (small : Bytes s) where
  pub byte_back : (i : ℕ) → i < length s → take 1 (drop i s) ≡ bytes8 (byte_at s i)
  byte_back i h =
      let same : byte_at s i ≡ byte_at s i % 256 = omega (arith, small i) in
      rw (drop-cons s i 0) (ap (λ (b : ℕ). b ∷ []) same)

  pub number16_small : (i : ℕ) → number16 s i < 65536
  number16_small i = omega (arith, small i, small (i + 1))

  pub number16_back : (i : ℕ) → i + 1 < length s → take 2 (drop i s) ≡ bytes16 (number16 s i)
  number16_back i h =
      taken_in_two 1 1 i s
      ∙ ap (λ (r : List ℕ). r ++ take 1 (drop (i + 1) s)) (byte_back i (omega arith))
      ∙ ap (λ (r : List ℕ). bytes8 (byte_at s i) ++ r) (byte_back (i + 1) h)
      ∙ two_bytes (byte_at s i) (byte_at s (i + 1)) (small i) (small (i + 1))

  pub number32_back : (i : ℕ) → i + 3 < length s → take 4 (drop i s) ≡ bytes32 (number32 s i)
  number32_back i h =
      taken_in_two 2 2 i s
      ∙ ap (λ (r : List ℕ). r ++ take 2 (drop (i + 2) s)) (number16_back i (omega arith))
      ∙ ap (λ (r : List ℕ). bytes16 (number16 s i) ++ r) (number16_back (i + 2) (omega arith))
      ∙ four_bytes (number16 s i) (number16 s (i + 2)) (number16_small i) (number16_small (i + 2))
