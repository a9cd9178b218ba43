-- Bytes in words, in hexadecimal; `-` says no bytes.
use Rattle.std.specs.Prelude.{ℕ, ◌+◌, ◌*◌, ◌/◌, ◌%◌, ◌≡◌, refl, Bool, cond, not, ◌&&◌, ◌||◌, List, [], ◌∷◌, leb, eqb, length, Option, Some, None}
use Rattle.std.specs.Str.{bytes_eq}
use Rattle.std.proofs.lemmas.List.Edits.{sets}
use Rattle.base.specs.Text.{text}
use Rattle.words.specs.Numbers.{digit_of, all_digits}

unfoldable pub is_dash : List ℕ → Bool
is_dash w = bytes_eq w (text "-")

-- Two digits a byte, the high one first.
unfoldable pub pairs : List ℕ → List ℕ
pairs [] = []
pairs (a ∷ []) = []
pairs (a ∷ b ∷ w) = (digit_of a * 16 + digit_of b) ∷ pairs w

unfoldable pub is_hex : List ℕ → Bool
is_hex w = not (eqb (length w) 0) && eqb (length w % 2) 0 && all_digits 16 w

-- A word that says bytes for which there is room.
unfoldable pub says_bytes : List ℕ → (room : ℕ) → Bool
says_bytes w room = is_dash w || (leb (length w / 2) room && is_hex w)

unfoldable pub bytes_of : List ℕ → List ℕ
bytes_of w = cond (is_dash w) [] (pairs w)

unfoldable pub bytes_said : List ℕ → (room : ℕ) → Option ℕ
bytes_said w room = cond (says_bytes w room) (Some (length (bytes_of w))) None

-- The buffer afterwards: the bytes in front and every byte behind them as it was; else every byte as it was.
unfoldable pub bytes_laid : List ℕ → (buffer : List ℕ) → List ℕ
bytes_laid w buffer = cond (says_bytes w (length buffer)) (sets buffer 0 (bytes_of w)) buffer

either_case : bytes_laid (text "907b") (0 ∷ 0 ∷ 7 ∷ []) ≡ 144 ∷ 123 ∷ 7 ∷ []
unfolding bytes_laid says_bytes is_dash is_hex all_digits bytes_of pairs digit_of
either_case = refl
