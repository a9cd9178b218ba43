-- A truth is printed as the number that it counts as.
use mathlib.Core.Path.{◌≡◌, refl}
use mathlib.Core.Bool.{Bool, true, false}
use mir.Val.{bool_byte}
use Rattle.text.specs.Text.{digits, decimal, bit_text}

pub bit_is_number : (b : Bool) → decimal (bool_byte b) ≡ bit_text b
unfolding decimal digits
bit_is_number true = refl
bit_is_number false = refl
