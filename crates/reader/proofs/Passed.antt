-- What an accepted packet passed: the twelve tests of the reader, each by its name.
use Prim.Native.Nat.{ℕ, ◌-◌, ◌≤◌}
use mathlib.Core.Path.{◌≡◌}
use mathlib.Core.Bool.{true, ◌||◌}
use mathlib.Core.List.{List}
use native.Mathlib.Omega.{arith}
use lib.Dec.{eqb}
use lib.ListN.{length, length-drop}
use Rattle.packet.specs.Packet.{version, padding, extension, marker, extension_type, word_count, words_at, payload_at, payload_type, audio_type, r2s_type, payload, field, ptt_type, squ_allowed, reserved, x, field_allowed, payload_allowed, after_field}
use Rattle.packet.specs.Items.{items_allowed}
use Rattle.packet.specs.Refusals.{NoCase, accepted}
use Rattle.reader.specs.Reading.{reader_refusals, message_of, read}
use Rattle.packet.specs.declared.message.Direction.{Direction}
use Rattle.packet.specs.declared.message.Message.{Message}
use Rattle.packet.proofs.Judged.{meets_none}

pub record Passed (d : Direction) (ext : ℕ) (p : List ℕ) : Type 0 where
  pub head : 12 ≤ length p
  pub version_two : version p ≡ 2
  pub no_padding : padding p ≡ 0
  pub no_marker : marker p ≡ 0
  pub extended : extension p ≡ 1
  pub known_kind : (eqb (payload_type p) audio_type || eqb (payload_type p) r2s_type) ≡ true
  pub words_begin : words_at p ≤ length p
  pub type_is : extension_type p ≡ ext
  pub some_word : 1 ≤ word_count p
  pub few_words : word_count p ≤ 15
  pub words_end_lem : payload_at p ≤ length p
  pub field_allowed_lem : field_allowed d (field p) ≡ true
  pub items_allowed_lem : items_allowed d (x (field p)) (after_field p) ≡ true
  pub payload_allowed_lem : payload_allowed (payload_type p) (length (payload p)) ≡ true

pub passed : (d : Direction) (ext : ℕ) (p : List ℕ) → NoCase (reader_refusals d ext p) → Passed d ext p
unfolding reader_refusals
passed d ext p h =
    record {
      head = grind arith;
      version_two = grind arith;
      no_padding = grind arith;
      no_marker = grind arith;
      extended = grind arith;
      known_kind = grind arith;
      words_begin = grind arith;
      type_is = grind arith;
      some_word = grind arith;
      few_words = grind arith;
      words_end_lem = grind arith;
      field_allowed_lem = grind arith;
      items_allowed_lem = grind arith;
      payload_allowed_lem = grind arith;
    }

-- an accepted packet passed every test, and its message is what its bytes say
pub accepted_passed : (d : Direction) (ext : ℕ) (p : List ℕ) (m : Message) → read d ext p ≡ accepted m → Passed d ext p × (message_of p ≡ m)
unfolding read
accepted_passed d ext p m e = let none = meets_none (reader_refusals d ext p) (message_of p) m e in (passed d ext p none.0, none.1)

-- ---- what single tests say

-- "6 and 7 are reserved and refused", and the bits that a direction wants 0
pub record FieldPassed (d : Direction) (f : ℕ) : Type 0 where
  pub type_known : ptt_type f ≤ 5
  pub squ_allowed_lem : squ_allowed d f ≡ true
  pub unreserved : reserved d f ≡ 0

pub field_passed : (d : Direction) (f : ℕ) → field_allowed d f ≡ true → FieldPassed d f
unfolding field_allowed
field_passed d f e = record { type_known = grind arith; squ_allowed_lem = grind arith; unreserved = grind arith }

pub payload_most : (kind n : ℕ) → payload_allowed kind n ≡ true → n ≤ 240
unfolding payload_allowed
payload_most kind n e = grind arith

pub payload_length : (p : List ℕ) → length (payload p) ≡ length p - payload_at p
unfolding payload
payload_length p = simp length-drop
