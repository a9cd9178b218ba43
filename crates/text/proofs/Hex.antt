-- The bytes of a slice written in hexadecimal, one after the other.
use Prim.Native.Nat.{ℕ, ◌+◌, ◌<◌, min}
use mathlib.Core.Path.{◌≡◌, refl, ap}
use mathlib.Core.List.{List, [], ◌∷◌, ◌++◌}
use native.Mathlib.Numerals.{add-one}
use lib.ListN.{length, get_or, take}
use lib.Seq.{take-suc}
use Rattle.text.specs.Text.{Written, hex_byte, hex}
use Rattle.text.proofs.Writing.{nothing, ◌then◌}

hex_append : (a b : List ℕ) → hex (a ++ b) ≡ hex a ++ hex b
unfolding hex
hex_append [] b = refl
hex_append (x ∷ a) b = ap (λ (r : List ℕ). hex_byte x ++ r) (hex_append a b)

pub hex_begun : {l : List ℕ} {from to : ℕ} (t : List ℕ) → to ≡ min from (length l) → Written l l from to (hex (take 0 t))
unfolding hex
hex_begun {l} {from} t e = rw e (nothing l from)

pub hex_then_next : {l m n : List ℕ} {from mid to : ℕ} (t : List ℕ) (i : ℕ) → i < length t
    → Written l m from mid (hex (take i t)) → Written m n mid to (hex_byte (get_or t i 0)) → Written l n from to (hex (take (i + 1) t))
unfolding hex
hex_then_next t i h p q = rw (add-one, take-suc t i 0 h, hex_append) (p then q)
