-- How long a packet is, and its two pieces.
use Prim.Native.Nat.{ℕ, ◌+◌, ◌*◌}
use mathlib.Core.Path.{◌≡◌, refl}
use mathlib.Core.List.{List, ◌++◌}
use native.Mathlib.Omega.{arith}
use lib.ListN.{length, length-append}
use Rattle.base.specs.Bytes.{bytes16}
use Rattle.writer.specs.Writing.{rising_items, fewest_words, words_of, kind_for, head_of, encode}
use Rattle.packet.specs.declared.message.Message.{Message}
use Rattle.writer.proofs.Words.{words_length}

pub encoded_length : (ext : ℕ) (m : Message) (sound : List ℕ) → length (encode ext m sound) ≡ 16 + 4 * fewest_words (rising_items m.items) + length sound
unfolding encode head_of
encoded_length ext m sound = simp (length-append, words_length) (omega arith)

-- the two pieces of a packet that the code lays one behind the other
pub heads_and_content : (ext : ℕ) (m : Message) (sound : List ℕ)
    → encode ext m sound
    ≡ (head_of m (kind_for (length sound)) ++ bytes16 ext ++ bytes16 (fewest_words (rising_items m.items))) ++ (words_of m (rising_items m.items) ++ sound)
unfolding encode head_of
heads_and_content ext m sound = refl
