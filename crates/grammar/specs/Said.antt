-- What one word of a line says, by its kind. A word that says nothing of its kind makes the line wrong.
use Rattle.std.specs.Prelude.{ℕ, ◌+◌, ◌≡◌, refl, Bool, true, false, cond, not, ◌&&◌, List, [], ◌∷◌, eqb, ltb, ℤ, length, take, drop, Option, Some, None, slice_get}
use Rattle.std.specs.List.{list_any}
use Rattle.std.specs.Option.{option_and_then}
use Rattle.base.specs.Text.{text}
use Rattle.words.specs.Input.{choice_of, place_of}
use Rattle.words.specs.Numbers.{number_in, half_of, byte_of, level_of, within}
use Rattle.words.specs.Pairs.{is_dash, bytes_said}
use Rattle.packet.specs.declared.message.Direction.{Direction}
use Rattle.packet.specs.declared.message.Direction.TheVariants as direction
use Rattle.packet.specs.declared.message.Side.{Side}
use Rattle.packet.specs.declared.message.Side.TheVariants as side
use Rattle.packet.specs.declared.message.Sqi.{Sqi}
use Rattle.record.specs.declared.kind.Kind.{Kind}
use Rattle.record.specs.declared.kind.Kind.TheVariants as kind
use Rattle.seats.specs.declared.opening.CallType.{CallType}
use Rattle.seats.specs.declared.opening.CallType.TheVariants as type

-- `seat ← what a word says`, and then the next word: a line is read as long as every word says something.
abbrev pub ◌>>=◌ : {A B : Type 0} → Option A → (A → Option B) → Option B
◌>>=◌ said next = option_and_then next said

-- Numbers in decimal, of one byte, of two and of four.
abbrev pub byte_in : List ℕ → Option ℕ
byte_in w = byte_of (number_in 10 w)

abbrev pub half_in : List ℕ → Option ℕ
half_in w = half_of (number_in 10 w)

abbrev pub whole_in : List ℕ → Option ℕ
whole_in w = number_in 10 w

-- A number of two bytes in hexadecimal.
abbrev pub hex_in : List ℕ → Option ℕ
hex_in w = half_of (number_in 16 w)

-- A number of two bytes with its sign.
abbrev pub level_in : List ℕ → Option ℤ
level_in w = level_of w

-- Bytes in hexadecimal: how many they are, if there is room for them.
abbrev pub count_in : List ℕ → (room : ℕ) → Option ℕ
count_in w room = bytes_said w room

-- ROOM: the size of a buffer, at most 512 bytes.
unfoldable pub room_in : List ℕ → Option ℕ
room_in w = do
  n ← half_in w
  cond (ltb 512 n) None (Some n)

-- One of several words, each with its value in the same order.
unfoldable pub one_of : {A : Type 0} → List ℕ → (words : List ℕ) → List A → Option A
one_of w words values = do
  place ← choice_of w words
  slice_get values place

-- A bit: PM, PTTS, SQU, SCT.
abbrev pub flag_in : List ℕ → Option Bool
flag_in w = one_of w (text "0 1") (false ∷ true ∷ [])

abbrev pub kind_in : List ℕ → Option Kind
kind_in w = one_of w (text "single pair shared") (kind.Single ∷ kind.Pair ∷ kind.Shared ∷ [])

abbrev pub call_type_in : List ℕ → Option CallType
call_type_in w = one_of w (text "idle rxonly txrx coupling") (type.Idle ∷ type.RxOnly ∷ type.TxRx ∷ type.Coupling ∷ [])

abbrev pub direction_in : List ℕ → Option Direction
direction_in w = one_of w (text "tx rx") (direction.Tx ∷ direction.Rx ∷ [])

-- MSS: 0 main, 1 standby, or `-`.
abbrev pub side_in : List ℕ → Option (Option Side)
side_in w = one_of w (text "- 0 1") (None ∷ Some side.Main ∷ Some side.Standby ∷ [])

-- CLD: a number, or `-`.
abbrev pub delay_in : List ℕ → Option (Option ℕ)
delay_in w = do
  delay ← byte_in w
  Some (Some delay)

unfoldable pub climax_in : List ℕ → Option (Option ℕ)
climax_in w = cond (is_dash w) (Some None) (delay_in w)

-- SQI: QUALITY/METHOD, or `-`. (47 is the byte of "/".)
abbrev pub quality_in : List ℕ → Option (Option Sqi)
quality_in w = do
  slash ← place_of 47 w
  quality ← byte_in (take slash w)
  method ← byte_in (drop (slash + 1) w)
  Some (Some (record { quality = quality; method = method }))

unfoldable pub sqi_in : List ℕ → Option (Option Sqi)
sqi_in w = cond (is_dash w) (Some None) (quality_in w)

-- SEATS: digits of seats, none twice, or `-`. (49 is the byte of "1", 56 of "8".)
abbrev pub has : ℕ → List ℕ → Bool
has b w = list_any (λ x. eqb x b) w

abbrev pub free_digit : ℕ → (behind : List ℕ) → Bool
free_digit b behind = within 49 56 b && not (has b behind)

unfoldable pub seat_digits : List ℕ → Bool
seat_digits [] = true
seat_digits (b ∷ w) = free_digit b w && seat_digits w

-- They are said as bits, seat 1 the lowest.
abbrev pub counted : (digit value : ℕ) → List ℕ → ℕ
counted digit value w = cond (has digit w) value 0

unfoldable pub lessons_of : List ℕ → ℕ
lessons_of w =
    counted 49 1 w + counted 50 2 w + counted 51 4 w + counted 52 8 w + counted 53 16 w + counted 54 32 w + counted 55 64 w + counted 56 128 w

unfoldable pub seats_in : List ℕ → Option ℕ
seats_in w = cond (eqb (length w) 0) None (cond (is_dash w) (Some 0) (cond (seat_digits w) (Some (lessons_of w)) None))

the_class : seats_in (text "78") ≡ Some 192
unfolding seats_in seat_digits lessons_of is_dash
the_class = refl

twice : seats_in (text "77") ≡ None
unfolding seats_in seat_digits is_dash
twice = refl

no_slash : sqi_in (text "7") ≡ None
unfolding sqi_in is_dash
no_slash = refl
