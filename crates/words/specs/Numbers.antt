-- Numbers in words. A number too large for its type is answered as none, never as a wrong value.
use Rattle.std.specs.Prelude.{ℕ, ℤ, ◌+◌, ◌*◌, ◌-◌, ◌≡◌, refl, Bool, cond, ◌&&◌, List, [], ◌∷◌, ltb, leb, eqb, pos, negsuc, neg_ℤ, drop, Option, Some, None}
use Rattle.std.specs.List.{list_all}
use Rattle.base.specs.Bytes.{byte_at}
use Rattle.base.specs.Text.{text}

-- What a digit counts; 16 for what is no digit. (48 is the byte of "0", 65 of "A", 97 of "a".)
abbrev pub within : (first last b : ℕ) → Bool
within first last b = leb first b && leb b last

unfoldable pub digit_of : ℕ → ℕ
digit_of b = cond (within 48 57 b) (b - 48) (cond (within 65 70 b) (b - 65 + 10) (cond (within 97 102 b) (b - 97 + 10) 16))

-- A byte read as a digit: what it counts, if it is one.
abbrev pub digit_in : ℕ → Option ℕ
digit_in b = cond (ltb (digit_of b) 16) (Some (digit_of b)) None

unfoldable pub all_digits : (radix : ℕ) → List ℕ → Bool
all_digits radix w = list_all (λ b. ltb (digit_of b) radix) w

-- The number that digits make behind those that made `value`.
unfoldable pub value_from : (radix value : ℕ) → List ℕ → ℕ
value_from radix value [] = value
value_from radix value (b ∷ w) = value_from radix (value * radix + digit_of b) w

-- Digits that make a number of four bytes.
unfoldable pub number_from : (radix value : ℕ) → List ℕ → Option ℕ
number_from radix value w =
    cond (all_digits radix w && leb (value_from radix value w) 4294967295) (Some (value_from radix value w)) None

-- Numbers are decimal, bytes and extension types hexadecimal: radix 10 or 16. No word is no number.
unfoldable pub number_in : (radix : ℕ) → List ℕ → Option ℕ
number_in radix [] = None
number_in radix (b ∷ w) = number_from radix 0 (b ∷ w)

the_largest : number_in 10 (text "4294967295") ≡ Some 4294967295
unfolding number_in number_from value_from all_digits digit_of
the_largest = refl

one_more_is_none : number_in 10 (text "4294967296") ≡ None
unfolding number_in number_from value_from all_digits digit_of
one_more_is_none = refl

extension_type : number_in 16 (text "0167") ≡ Some 359
unfolding number_in number_from value_from all_digits digit_of
extension_type = refl

-- Numbers of two bytes and of one.
abbrev pub half_of : Option ℕ → Option ℕ
half_of (Some v) = cond (ltb v 65536) (Some v) None
half_of None = None

abbrev pub byte_of : Option ℕ → Option ℕ
byte_of (Some v) = cond (ltb v 256) (Some v) None
byte_of None = None

-- A number of two bytes with its sign, -32768 to 32767: what stands behind a "-", 45, is taken below zero.
abbrev pub above : Option ℕ → Option ℤ
above (Some v) = cond (ltb v 32768) (Some (pos v)) None
above None = None

abbrev pub below : Option ℕ → Option ℤ
below (Some v) = cond (ltb v 32769) (Some (neg_ℤ (pos v))) None
below None = None

unfoldable pub level_of : List ℕ → Option ℤ
level_of w = cond (eqb (byte_at w 0) 45) (below (number_in 10 (drop 1 w))) (above (number_in 10 w))

the_lowest : level_of (text "-32768") ≡ Some (negsuc 32767)
unfolding level_of number_in number_from value_from all_digits digit_of
the_lowest = refl
