-- The steps of `decimal`: a single digit, and one digit more.
use Prim.Native.Nat.{ℕ, zero, suc, ◌/◌, ◌≤◌, ◌<◌}
use mathlib.Core.Path.{◌≡◌, refl, ap}
use mathlib.Core.Bool.{cond}
use mathlib.Core.List.{List, [], ◌∷◌, ◌++◌}
use native.Mathlib.Omega.{arith}
use Rattle.std.proofs.lemmas.Bool.Decides.{nat_tests}
use native.Mathlib.Nat.{not-suc-le-zero}
use borrow.Author.Tests.{lt-ltb}
use lib.Dec.{ltb}
use Rattle.text.specs.Text.{digit, digits, decimal}
use Rattle.text.specs.Lines.{Puts}
use Rattle.text.specs.declared.out.Line.{Line}
use Rattle.text.proofs.Writing.{◌and◌}

-- any bound will do
bounds : (j k n : ℕ) → n ≤ j → n ≤ k → digits j n ≡ digits k n
unfolding digits
bounds zero zero n p q = refl
bounds zero (suc k) n p q = rw (lt-ltb n 10 (omega arith))
bounds (suc j) zero n p q = rw (lt-ltb n 10 (omega arith))
bounds (suc j) (suc k) n p q =
    ap (λ (front : List ℕ). cond (ltb n 10) [] front ++ (digit n ∷ [])) (bounds j k (n / 10) (omega arith) (omega arith))

pub one_digit : (n : ℕ) → n < 10 → digit n ∷ [] ≡ decimal n
unfolding decimal digits
one_digit zero h = refl
one_digit (suc n) h = grind (arith, nat_tests)

pub more_digits : (n : ℕ) → 10 ≤ n → decimal (n / 10) ++ (digit n ∷ []) ≡ decimal n
unfolding decimal digits
more_digits zero h = absurd (not-suc-le-zero h)
more_digits (suc n) h = grind (arith, nat_tests, bounds (suc n / 10) n (suc n / 10) (omega arith) (omega arith))

-- How `put_number` writes them.
pub last_digit : {l m : Line} (n : ℕ) → n < 10 → Puts l m (digit n ∷ []) → Puts l m (decimal n)
last_digit n h p = rw (← one_digit n h) p

pub next_digit : {l m k : Line} (n : ℕ) → 10 ≤ n → Puts l m (decimal (n / 10)) → Puts m k (digit n ∷ []) → Puts l k (decimal n)
next_digit n h p q = rw (← more_digits n h) (p and q)
