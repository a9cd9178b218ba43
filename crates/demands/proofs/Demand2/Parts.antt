-- A packet that was put together from its parts, read part by part.
use Prim.Native.Nat.{ℕ, ◌+◌, ◌*◌, ◌-◌, ◌<◌, ◌≤◌}
use mathlib.Core.Path.{◌≡◌, ap, ap₂, sym, ◌∙◌}
use mathlib.Core.List.{List, ◌++◌}
use native.Mathlib.Omega.{arith}
use lib.ListN.{length, take, drop, length-append}
use lib.Seq.{take_at, drop_at, drop-drop, get_or-drop}
use Rattle.base.specs.Bytes.{byte_at, number16, bytes8, bytes16, bytes32, placed}
use Rattle.packet.specs.Packet.{version, padding, marker, extension, csrc_count, payload_type, sequence, timestamp, ssrc, extension_at, extension_type, word_count, words_at, payload_at, payload, field, after_field}
use Rattle.demands.proofs.Demand2.Numbers.{joined16, joined32}

-- the bytes in front of the CSRC words, and those behind them
abbrev pub heads : (csrcs kind sequence timestamp ssrc : ℕ) → List ℕ
heads c kind seq ts source = bytes8 (placed 8 0 2 2 + placed 8 3 1 1 + placed 8 4 4 c) ++ bytes8 kind ++ bytes16 seq ++ bytes32 ts ++ bytes32 source

abbrev behind_csrc : (ext words field : ℕ) (inner sound : List ℕ) → List ℕ
behind_csrc ext w f inner sound = bytes16 ext ++ bytes16 w ++ bytes16 f ++ inner ++ sound

abbrev pub composed : (csrc : List ℕ) (csrcs kind sequence timestamp ssrc ext words field : ℕ) (inner sound : List ℕ) → List ℕ
composed csrc c kind seq ts source ext w f inner sound = heads c kind seq ts source ++ csrc ++ behind_csrc ext w f inner sound

-- what is found in it
pub record HasParts (p : List ℕ) (c kind seq ts source ext w f : ℕ) (inner sound : List ℕ) : Type 0 where
  pub long : length p ≡ 16 + 4 * c + 4 * w + length sound
  pub version_is : version p ≡ 2
  pub padding_is : padding p ≡ 0
  pub extension_is : extension p ≡ 1
  pub csrc_is : csrc_count p ≡ c
  pub marker_is : marker p ≡ 0
  pub kind_is : payload_type p ≡ kind
  pub sequence_is : sequence p ≡ seq
  pub timestamp_is : timestamp p ≡ ts
  pub ssrc_is : ssrc p ≡ source
  pub ext_is : extension_type p ≡ ext
  pub words_is : word_count p ≡ w
  pub field_is : field p ≡ f
  pub inner_is : after_field p ≡ inner
  pub sound_is : payload p ≡ sound

module _ (csrc : List ℕ) (c kind seq ts source ext w f : ℕ) (inner sound : List ℕ) (hl : length csrc ≡ 4 * c) (hc : c ≤ 15) (hk : kind < 128)
    (hq : seq < 65536) (ht : ts < 4294967296) (hs : source < 4294967296) (he : ext < 65536) (hw : w < 65536) (hf : f < 65536) (hi : length inner + 2 ≡ 4 * w) where
  abbrev p : List ℕ
  p = composed csrc c kind seq ts source ext w f inner sound

  abbrev rest : List ℕ
  rest = behind_csrc ext w f inner sound

  count : csrc_count p ≡ c
  count = omega arith

  begins : extension_at p ≡ 12 + 4 * c
  begins = ap (λ (n : ℕ). 12 + 4 * n) count

  -- behind the CSRC words
  front_long : length (heads c kind seq ts source ++ csrc) ≡ 12 + 4 * c
  front_long = length-append (heads c kind seq ts source) csrc ∙ ap (λ (n : ℕ). 12 + n) hl

  dropped : drop (12 + 4 * c) p ≡ rest
  dropped = drop_at (heads c kind seq ts source ++ csrc) rest (12 + 4 * c) front_long

  byte_behind : (i : ℕ) → byte_at p (12 + 4 * c + i) ≡ byte_at rest i
  byte_behind i = sym (get_or-drop (12 + 4 * c) p i 0) ∙ ap (λ (l : List ℕ). byte_at l i) dropped

  number_behind : (i j : ℕ) → j ≡ 12 + 4 * c + i → number16 p j ≡ number16 rest i
  number_behind i j e =
      let next : j + 1 ≡ 12 + 4 * c + (i + 1) = omega arith in
      ap₂ (λ (a b : ℕ). a * 256 + b) (ap (byte_at p) e ∙ byte_behind i) (ap (byte_at p) next ∙ byte_behind (i + 1))

  words_there : word_count p ≡ w
  words_there = number_behind 2 (extension_at p + 2) (omega (arith, begins)) ∙ joined16 w hw

  rest_long : length rest ≡ 4 + 4 * w + length sound
  rest_long = length-append (bytes16 ext ++ bytes16 w ++ bytes16 f ++ inner) sound ∙ (omega arith)

  pub has_parts : HasParts p c kind seq ts source ext w f inner sound
  unfolding payload after_field
  has_parts =
      record {
        long = omega (arith, length-append (heads c kind seq ts source ++ csrc) rest, front_long, rest_long);
        version_is = omega arith;
        padding_is = omega arith;
        extension_is = omega arith;
        csrc_is = count;
        marker_is = omega arith;
        kind_is = omega arith;
        sequence_is = joined16 seq hq;
        timestamp_is = joined32 ts ht;
        ssrc_is = joined32 source hs;
        ext_is = number_behind 0 (extension_at p) (omega (arith, begins)) ∙ joined16 ext he;
        words_is = words_there;
        field_is = number_behind 4 (words_at p) (omega (arith, begins)) ∙ joined16 f hf;
        inner_is = inner_there;
        sound_is = sound_there;
      }
    where
      inner_there : take (payload_at p - (words_at p + 2)) (drop (words_at p + 2) p) ≡ inner
      inner_there =
          let at : words_at p + 2 ≡ 12 + 4 * c + 6 = omega (arith, begins) in
          let many : length inner ≡ payload_at p - (words_at p + 2) = omega (arith, words_there) in
          ap (λ (n : ℕ). take (payload_at p - (words_at p + 2)) (drop n p)) at
          ∙ ap (take (payload_at p - (words_at p + 2))) (sym (drop-drop 6 (12 + 4 * c) p) ∙ ap (drop 6) dropped)
          ∙ take_at inner sound (payload_at p - (words_at p + 2)) many

      sound_there : drop (payload_at p) p ≡ sound
      sound_there =
          let at : payload_at p ≡ 12 + 4 * c + (4 + 4 * w) = omega (arith, begins, words_there) in
          ap (λ (n : ℕ). drop n p) at
          ∙ sym (drop-drop (4 + 4 * w) (12 + 4 * c) p)
          ∙ ap (drop (4 + 4 * w)) dropped
          ∙ drop_at (bytes16 ext ++ bytes16 w ++ bytes16 f ++ inner) sound (4 + 4 * w) (omega arith)
