-- The words of a line. Blanks (space, tab, carriage return) stand between words; `#` begins a comment.
use Rattle.std.specs.Prelude.{ℕ, zero, suc, ◌+◌, ◌≡◌, refl, Bool, false, cond, not, ◌||◌, List, [], ◌∷◌, eqb, length, drop, Option, Some, None, position}
use Rattle.std.specs.List.{prefix_len}
use Rattle.std.specs.Str.{bytes_eq}
use Rattle.base.specs.Bytes.{part_of}
use Rattle.base.specs.Text.{text}

-- 32 is the byte of a space, 9 of a tab, 13 of a carriage return, 35 of "#".
abbrev pub is_blank : ℕ → Bool
is_blank b = eqb b 32 || eqb b 9 || eqb b 13

abbrev pub in_word : ℕ → Bool
in_word b = not (eqb b 35 || is_blank b)

-- The place behind the bytes that pass a test, from a place on: `prefix_len` is how many of them stand in front.
abbrev pub past : (ℕ → Bool) → List ℕ → ℕ → ℕ
past p s at = at + prefix_len p (drop at s)

-- Where word n begins, counted from 0: behind each word before it, and behind blanks.
unfoldable pub word_at : List ℕ → ℕ → ℕ
word_at s zero = past is_blank s 0
word_at s (suc n) = past is_blank s (past in_word s (word_at s n))

-- Word n; empty where there are fewer.
unfoldable pub word_of : List ℕ → ℕ → List ℕ
word_of s n = part_of (word_at s n) (past in_word s (word_at s n)) s

the_second : word_of (text " packet\t7 90 # 7B") 1 ≡ text "7"
unfolding word_of word_at
the_second = refl

behind_the_last : word_of (text " packet\t7 90 # 7B") 3 ≡ []
unfolding word_of word_at
behind_the_last = refl

-- Word n where none follows it, else no bytes: what a call's last word has to be.
abbrev pub first_if_none : (word next : List ℕ) → List ℕ
first_if_none word [] = word
first_if_none word (b ∷ next) = []

unfoldable pub last_of : List ℕ → ℕ → List ℕ
last_of s n = first_if_none (word_of s n) (word_of s (suc n))

one_too_many : last_of (text "close 7 8") 1 ≡ []
unfolding last_of word_of word_at
one_too_many = refl

-- A word that is there, and is the same.
abbrev pub is_word : List ℕ → List ℕ → Bool
is_word w [] = false
is_word w (b ∷ s) = bytes_eq w (b ∷ s)

-- The first of `count` numbers from n on that passes a test, if one does.
unfoldable pub first_from : (ℕ → Bool) → (n count : ℕ) → Option ℕ
first_from p n zero = None
first_from p n (suc count) = cond (p n) (Some n) (first_from p (suc n) count)

-- The place of a word among the words of a list, if it is one of them. (A list has fewer words than bytes.)
abbrev pub is_at : List ℕ → (list : List ℕ) (n : ℕ) → Bool
is_at w list n = is_word w (word_of list n)

unfoldable pub choice_of : List ℕ → (list : List ℕ) → Option ℕ
choice_of w list = first_from (is_at w list) 0 (length list)

standby_is : choice_of (text "standby") (text "main standby") ≡ Some 1
unfolding choice_of first_from word_of word_at
standby_is = refl

none_of_them : choice_of (text "reserve") (text "main standby") ≡ None
unfolding choice_of first_from word_of word_at
none_of_them = refl

-- The first place of a byte, if it is there.
abbrev pub place_of : ℕ → List ℕ → Option ℕ
place_of b s = position (λ x. eqb x b) s
