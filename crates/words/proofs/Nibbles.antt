-- Pairs of digits, one pair at a time.
use Rattle.std.proofs.Common.{◌≡◌, ℕ, ◌+◌, ◌*◌, ◌/◌, ◌<◌, true, List, [], ◌∷◌, ◌++◌, length, get_or, set, add-one, refl, arith, ltb-true}
use Rattle.std.proofs.lemmas.List.Edits.{sets}
use Rattle.base.proofs.Truths.{and_left, and_right}
use Rattle.words.specs.Numbers.{digit_of, all_digits}
use Rattle.words.specs.Pairs.{pairs}

pub one_pair : (pair rest : List ℕ) → length pair ≡ 2 → pairs (pair ++ rest) ≡ (digit_of (get_or pair 0 0) * 16 + digit_of (get_or pair 1 0)) ∷ pairs rest
unfolding pairs
one_pair [] rest h = absurd (omega arith)
one_pair (a ∷ []) rest h = absurd (omega arith)
one_pair (a ∷ b ∷ []) rest h = refl
one_pair (a ∷ b ∷ c ∷ pair) rest h = absurd (omega arith)

-- the byte of one pair put, the others behind it
pub put_one : (out pair rest : List ℕ) (n d e : ℕ) → length pair ≡ 2 → d ≡ digit_of (get_or pair 0 0) → e ≡ digit_of (get_or pair 1 0)
    → sets (set out n (d * 16 + e)) (n + 1) (pairs rest) ≡ sets out n (pairs (pair ++ rest))
put_one out pair rest n d e h p q = rw (one_pair pair rest h, p, q, add-one)

pub no_pair : (rest : List ℕ) → length rest < 2 → pairs rest ≡ []
unfolding pairs
no_pair [] h = refl
no_pair (a ∷ []) h = refl
no_pair (a ∷ b ∷ rest) h = absurd (omega arith)

pub digits_of_pair : (pair rest : List ℕ) → length pair ≡ 2 → all_digits 16 (pair ++ rest) ≡ true
    → (digit_of (get_or pair 0 0) < 16) × (digit_of (get_or pair 1 0) < 16) × (all_digits 16 rest ≡ true)
unfolding all_digits
digits_of_pair [] rest h e = absurd (omega arith)
digits_of_pair (a ∷ []) rest h e = absurd (omega arith)
digits_of_pair (a ∷ b ∷ []) rest h e =
    let others = and_right _ _ e in (ltb-true _ _ (and_left _ _ e), ltb-true _ _ (and_left _ _ others), and_right _ _ others)
digits_of_pair (a ∷ b ∷ c ∷ pair) rest h e = absurd (omega arith)

pub ruleset pairing = (put_one, no_pair, digits_of_pair)

pub pairs_length : (w : List ℕ) → length (pairs w) ≡ length w / 2
unfolding pairs
pairs_length [] = refl
pairs_length (a ∷ []) = refl
pairs_length (a ∷ b ∷ w) = omega (arith, pairs_length w)
