-- How a loop makes a number of digits.
use Rattle.std.proofs.Common.{◌≡◌, ℕ, ◌+◌, ◌*◌, ◌<◌, ◌≤◌, Bool, true, false, cond, ◌&&◌, List, [], ◌∷◌, length, get_or, drop, Some, None, ltb, leb, refl, arith, drop-cons, drop_of_length-le, add-one, lt-ltb, le-ltb, le-leb, ltb-true}
use Rattle.std.proofs.lemmas.Bool.{lt-leb}
use Rattle.std.proofs.Math.Nat.{le-mul_of_pos_right}
use Rattle.base.proofs.Truths.{and_left, and_right}
use Rattle.words.specs.Numbers.{digit_of, all_digits, value_from, number_from}

-- digits only make a number larger
grows : (radix v : ℕ) (w : List ℕ) → all_digits radix w ≡ true → v ≤ value_from radix v w
unfolding all_digits value_from
grows radix v [] e = omega arith
grows radix v (b ∷ w) e =
    omega (
      arith,
      grows radix (v * radix + digit_of b) w (and_right (ltb (digit_of b) radix) (all_digits radix w) e),
      le-mul_of_pos_right {m = radix} v (omega (arith, ltb-true (digit_of b) radix (and_left (ltb (digit_of b) radix) (all_digits radix w) e))),
    )

pub too_large : (radix v : ℕ) (w : List ℕ) → 4294967295 < v → number_from radix v w ≡ None
unfolding number_from
too_large radix v w h = by (all_digits radix w) refl
  where
    by : (t : Bool) → all_digits radix w ≡ t → cond (t && leb (value_from radix v w) 4294967295) (Some (value_from radix v w)) None ≡ None
    by true e = rw (lt-leb (value_from radix v w) 4294967295 (omega (arith, grows radix v w e)))
    by false e = refl

module _ (radix v : ℕ) (w : List ℕ) (i : ℕ) where
  pub whole_value : length w ≤ i → v < 4294967296 → number_from radix v (drop i w) ≡ Some v
  unfolding number_from all_digits value_from
  whole_value h l = rw (drop_of_length-le, le-leb v 4294967295 (omega arith))

  pub no_digit : i < length w → radix ≤ digit_of (get_or w i 0) → number_from radix v (drop i w) ≡ None
  unfolding number_from all_digits
  no_digit h l = rw (drop-cons w i 0 h, le-ltb (digit_of (get_or w i 0)) radix l)

  pub next_value : i < length w → digit_of (get_or w i 0) < radix → number_from radix v (drop i w) ≡ number_from radix (v * radix + digit_of (get_or w i 0)) (drop (i + 1) w)
  unfolding number_from all_digits value_from
  next_value h l = rw (drop-cons w i 0 h, lt-ltb (digit_of (get_or w i 0)) radix l, add-one)

pub ruleset counting_up = (too_large, whole_value, no_digit, next_value)
