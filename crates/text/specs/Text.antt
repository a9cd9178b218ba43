-- What it means to write text into a buffer, and numbers, truths and bytes as text.
use Rattle.std.specs.Prelude.{ℕ, zero, suc, ◌+◌, ◌-◌, ◌/◌, ◌%◌, min, ◌≡◌, refl, Bool, cond, List, [], ◌∷◌, ◌++◌, ltb, length}
use Rattle.std.proofs.lemmas.List.Edits.{sets}
use Rattle.base.specs.Text.{text}

-- Text written into a buffer from a place on, and the place after it: what does not fit is dropped.
pub record Written (before after : List ℕ) (from to : ℕ) (t : List ℕ) : Type 0 where
  pub buffer : after ≡ sets before from t
  pub place : to ≡ min (from + length t) (length before)

abbrev pub bit_text : Bool → List ℕ
bit_text b = cond b (text "1") (text "0")

-- A number in decimal, with no zeros in front: the digits of the quotient by 10, if there are any, and the rest.
-- `most` bounds how many digits stand before the last; the number itself is such a bound.
-- (48 is the byte of "0", 65 that of "A".)
abbrev pub digit : ℕ → ℕ
digit n = n % 10 + 48

unfoldable pub digits : (most n : ℕ) → List ℕ
digits zero n = digit n ∷ []
digits (suc most) n = cond (ltb n 10) [] (digits most (n / 10)) ++ (digit n ∷ [])

unfoldable pub decimal : ℕ → List ℕ
decimal n = digits n n

zero_is : decimal 0 ≡ text "0"
unfolding decimal digits
zero_is = refl

ten_is : decimal 10 ≡ text "10"
unfolding decimal digits
ten_is = refl

sequences_end : decimal 65535 ≡ text "65535"
unfolding decimal digits
sequences_end = refl

-- Bytes in hexadecimal, two digits each.
abbrev pub hex_digit : ℕ → ℕ
hex_digit d = cond (ltb d 10) (d + 48) (d - 10 + 65)

abbrev pub hex_byte : ℕ → List ℕ
hex_byte b = hex_digit (b / 16) ∷ hex_digit (b % 16) ∷ []

unfoldable pub hex : List ℕ → List ℕ
hex [] = []
hex (b ∷ bs) = hex_byte b ++ hex bs

bytes_are : hex (144 ∷ 123 ∷ 0 ∷ []) ≡ text "907B00"
unfolding hex
bytes_are = refl

-- The same where `-` stands for no byte.
abbrev pub bytes_text : List ℕ → List ℕ
bytes_text [] = text "-"
bytes_text (b ∷ bs) = hex (b ∷ bs)
