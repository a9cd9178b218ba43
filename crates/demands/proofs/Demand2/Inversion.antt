-- An accepted packet, taken apart and written out again.
use Prim.Native.Nat.{ℕ, zero, suc, ◌+◌, ◌*◌, ◌-◌, ◌/◌, ◌%◌, ◌<◌, ◌≤◌}
use mathlib.Core.Path.{◌≡◌, refl, ap, sym, ◌∙◌}
use mathlib.Core.Bool.{Bool, true, false, cond}
use mathlib.Core.List.{List, [], ◌∷◌, ◌++◌, append_assoc}
use native.Mathlib.Omega.{arith}
use native.Mathlib.Nat.{div-div-eq-div-mul, div-add-mod', div-one}
use lib.Dec.{eqb}
use lib.ListN.{length, take, drop, replicate, length-append, length-take, length-drop}
use lib.Seq.{get_or-drop}
use borrow.Author.Tests.{eqb-true, eqb-false}
use Rattle.base.specs.Bytes.{byte_at, bytes8, bytes16, bytes32, bits, placed, bit, is_set, Bytes}
use Rattle.base.proofs.Numbers.{cut, byte_back, number16_back, number32_back, number16_small}
use Rattle.packet.specs.Packet.{csrc_count, payload_type, sequence, timestamp, ssrc, extension_at, word_count, words_at, payload_at, payload, field, ptt_type, squ, ptt_id, pm, ptts, sct, x, after_field}
use Rattle.packet.specs.Items.{Item, Found, some_item, items_in, items_allowed, run_allowed, items_of, listed, all_zero}
use Rattle.reader.specs.Reading.{message_of, items_here}
use Rattle.writer.specs.Writing.{field_of, item_bytes}
use Rattle.packet.specs.declared.message.Direction.{Direction}
use Rattle.demands.specs.Inversion.{laid, csrc_words, Inversion}
use Rattle.reader.proofs.Passed.{Passed, accepted_passed, FieldPassed, field_passed}
use Rattle.demands.proofs.Demand2.Items.{zeros_are, items_back}

-- ---- numbers from their bits

-- a bit that is not set is 0
bit_of : (n : ℕ) → bit (is_set (n % 2)) ≡ n % 2
bit_of n = grind arith

-- a quotient, by the next one
step : (n a b : ℕ) → n / a ≡ n / (a * b) * b + n / a % b
step n a b = sym (div-add-mod' (n / a) b) ∙ ap (λ (q : ℕ). q * b + n / a % b) (div-div-eq-div-mul n a b)

first_byte : (b : ℕ) → b < 256 → bits 8 0 2 b ≡ 2 → bits 8 2 1 b ≡ 0 → bits 8 3 1 b ≡ 1
    → b ≡ placed 8 0 2 2 + placed 8 3 1 1 + placed 8 4 4 (bits 8 4 4 b)
first_byte b h v p e = grind arith

second_byte : (b : ℕ) → b < 256 → bits 8 0 1 b ≡ 0 → b ≡ bits 8 1 7 b
second_byte b h m = omega arith

module _ (f : ℕ) (small : f < 65536) where
  joined : (q2 q8 q16 q32 q64 q4096 ptt x r sct ptts pm id squ : ℕ) → f ≡ q2 * 2 + x → q2 ≡ q8 * 4 + r → r ≡ 0 → q8 ≡ q16 * 2 + sct → q16 ≡ q32 * 2 + ptts
      → q32 ≡ q64 * 2 + pm → q64 ≡ q4096 * 64 + id → q4096 ≡ ptt * 2 + squ → f ≡ ptt * 8192 + squ * 4096 + id * 64 + pm * 32 + ptts * 16 + sct * 8 + x * 1
  joined q2 q8 q16 q32 q64 q4096 ptt x r sct ptts pm id squ a b z c d e g h = omega arith

  -- the bits of the first two bytes, with none reserved
  field_parts : f / 2 % 4 ≡ 0
      → f ≡ f / 8192 * 8192 + f / 4096 % 2 * 4096 + f / 64 % 64 * 64 + f / 32 % 2 * 32 + f / 16 % 2 * 16 + f / 8 % 2 * 8 + f % 2 * 1
  field_parts r =
      joined (f / 2) (f / 8) (f / 16) (f / 32) (f / 64) (f / 4096) (f / 8192) (f % 2) (f / 2 % 4) (f / 8 % 2) (f / 16 % 2) (f / 32 % 2) (f / 64 % 64) (f / 4096 % 2)
      (sym (div-add-mod' f 2)) (step f 2 4) r (step f 8 2) (step f 16 2) (step f 32 2) (step f 64 64) (step f 4096 2)

  top_bits : f / 8192 ≡ ptt_type f
  top_bits = omega arith

-- the reserved bits that both directions want 0
none_reserved : (d : Direction) (f : ℕ) → FieldPassed d f → f / 2 % 4 ≡ 0
none_reserved d f h = grind arith

pub take_bytes : (n : ℕ) (l : List ℕ) → Bytes l → Bytes (take n l)
take_bytes zero l h i = omega arith
take_bytes (suc n) [] h i = omega arith
take_bytes (suc n) (b ∷ l) h zero = h 0
take_bytes (suc n) (b ∷ l) h (suc i) = take_bytes n l (λ j. h (suc j)) i

pub drop_bytes : (n : ℕ) (l : List ℕ) → Bytes l → Bytes (drop n l)
drop_bytes n l h i = rw (get_or-drop n l i 0) (h (n + i))

-- ---- the items under X

module _ (d : Direction) (f : ℕ) (bs : List ℕ) (small : Bytes bs) where
  abbrev is : List Item
  is = items_of (x f) bs

  run_back : (g : Found) → items_in bs ≡ g → run_allowed d g ≡ true
      → (bs ≡ item_bytes (listed g) ++ replicate (length bs - length (item_bytes (listed g))) 0) × (some_item (listed g) ≡ true)
  unfolding run_allowed
  run_back g e h = grind (arith, items_back)

  x_one : eqb (x f) 0 ≡ false → x f ≡ 1
  x_one e = omega (arith, eqb-false (x f) 0 e)

  under_x : (t : Bool) → eqb (x f) 0 ≡ t → cond t (all_zero bs) (run_allowed d (items_in bs)) ≡ true
      → (bs ≡ item_bytes (cond t [] (listed (items_in bs))) ++ replicate (length bs - length (item_bytes (cond t [] (listed (items_in bs))))) 0)
      × (bit (some_item (cond t [] (listed (items_in bs)))) ≡ x f)
  unfolding item_bytes
  under_x true e h =
      let none : length bs ≡ length bs - 0 = omega arith in
      (zeros_are bs h ∙ ap (λ (n : ℕ). replicate n 0) none, sym (eqb-true (x f) 0 e))
  under_x false e h = ((run_back (items_in bs) refl h).0, ap bit (run_back (items_in bs) refl h).1 ∙ sym (x_one e))

  pub items_under_x : items_allowed d (x f) bs ≡ true
      → (bs ≡ item_bytes is ++ replicate (length bs - length (item_bytes is)) 0) × (bit (some_item is) ≡ x f)
  unfolding items_allowed items_of
  items_under_x h = under_x (eqb (x f) 0) refl h

-- ---- the whole packet

regroup : (a b c d e f g h i j k l : List ℕ) → a ++ (b ++ (c ++ (d ++ (e ++ (f ++ (g ++ (h ++ (i ++ j ++ k ++ l))))))))
    ≡ a ++ b ++ c ++ d ++ e ++ f ++ g ++ h ++ i ++ j ++ k ++ l
regroup a b c d e f g h i j k l = simp append_assoc

same_sum : (a a' b b' c d d' e e' g g' k k' : ℕ) → a ≡ a' → b ≡ b' → d ≡ d' → e ≡ e' → g ≡ g' → k ≡ k'
    → a * 8192 + b * 4096 + c * 64 + d * 32 + e * 16 + g * 8 + k * 1 ≡ a' * 8192 + b' * 4096 + c * 64 + d' * 32 + e' * 16 + g' * 8 + k' * 1
same_sum a a' b b' c d d' e e' g g' k k' p q r s t u = cc

module _ (d : Direction) (ext : ℕ) (p : List ℕ) (small : Bytes p) (h : Passed d ext p) where
  f_small : field p < 65536
  f_small = number16_small p small (words_at p)

  pub after_bytes : Bytes (after_field p)
  unfolding after_field
  after_bytes = take_bytes (payload_at p - (words_at p + 2)) (drop (words_at p + 2) p) (drop_bytes (words_at p + 2) p small)

  here : (after_field p ≡ item_bytes (items_here p) ++ replicate (length (after_field p) - length (item_bytes (items_here p))) 0) × (bit (some_item (items_here p)) ≡ x (field p))
  unfolding items_here
  here = items_under_x d (field p) (after_field p) after_bytes h.items_allowed_lem

  words_long : length (after_field p) ≡ 4 * word_count p - 2
  unfolding after_field
  words_long = simp (length-take, length-drop) (omega (arith, h.some_word, h.words_end_lem))

  -- the words hold the items
  pub room_here : 2 + length (item_bytes (items_here p)) ≤ 4 * word_count p
  room_here = grind (arith, here, length-append, words_long)

  field_back : field p ≡ field_of (message_of p) (items_here p)
  unfolding message_of
  field_back =
      let f = field p in
      field_parts f f_small (none_reserved d f (field_passed d f h.field_allowed_lem))
      ∙ same_sum (f / 8192) (ptt_type f) (f / 4096 % 2) (bit (is_set (squ f))) (ptt_id f) (f / 32 % 2) (bit (is_set (pm f))) (f / 16 % 2) (bit (is_set (ptts f)))
      (f / 8 % 2) (bit (is_set (sct f))) (f % 2) (bit (some_item (items_here p)))
      (top_bits f f_small) (sym (bit_of (f / 4096))) (sym (bit_of (f / 32))) (sym (bit_of (f / 16))) (sym (bit_of (f / 8)))
      (ap (λ (n : ℕ). n % 2) (sym (div-one f)) ∙ sym here.1)

  -- what lies behind a place: a piece of known bytes, and what lies behind that
  piece : (n m : ℕ) (xs ys : List ℕ) → take m (drop n p) ≡ xs → drop (n + m) p ≡ ys → drop n p ≡ xs ++ ys
  piece n m xs ys e g = cut n m p ∙ ap (λ (l : List ℕ). l ++ drop (n + m) p) e ∙ ap (λ (l : List ℕ). xs ++ l) g

  words_back : drop (words_at p) p
      ≡ bytes16 (field_of (message_of p) (items_here p)) ++ item_bytes (items_here p) ++ replicate (4 * word_count p - (2 + length (item_bytes (items_here p)))) 0 ++ payload p
  unfolding after_field payload
  words_back =
      let is = items_here p in
      let room : words_at p + 2 + (payload_at p - (words_at p + 2)) ≡ payload_at p = omega (arith, h.some_word) in
      let zeros : length (after_field p) - length (item_bytes is) ≡ 4 * word_count p - (2 + length (item_bytes is)) = omega (arith, words_long) in
      cut (words_at p) 2 p
      ∙ ap (λ (l : List ℕ). l ++ drop (words_at p + 2) p)
      (number16_back p small (words_at p) (omega (arith, h.words_end_lem, h.some_word)) ∙ ap bytes16 field_back)
      ∙ ap (λ (l : List ℕ). bytes16 (field_of (message_of p) is) ++ l)
      (cut (words_at p + 2) (payload_at p - (words_at p + 2)) p
      ∙ ap (λ (n : ℕ). after_field p ++ drop n p) room
      ∙ ap (λ (l : List ℕ). l ++ payload p) (here.0 ∙ ap (λ (n : ℕ). item_bytes is ++ replicate n 0) zeros))
      ∙ simp append_assoc

  pub csrc_long : length (csrc_words p) ≡ 4 * csrc_count p
  unfolding csrc_words
  csrc_long = simp (length-take, length-drop) (omega (arith, h.words_begin))

  csrc_count_lem : length (csrc_words p) / 4 ≡ csrc_count p
  csrc_count_lem = omega (arith, csrc_long)

  csrc_back : take (4 * csrc_count p) (drop 12 p) ≡ csrc_words p
  unfolding csrc_words
  csrc_back = grind arith

  first_back : byte_at p 0 ≡ placed 8 0 2 2 + placed 8 3 1 1 + placed 8 4 4 (length (csrc_words p) / 4)
  first_back = first_byte (byte_at p 0) (small 0) h.version_two h.no_padding h.extended ∙ ap (λ (n : ℕ). 144 + n * 1) (sym csrc_count_lem)

  pub laid_out : p ≡ laid (csrc_words p) (payload_type p) ext (word_count p) (message_of p) (items_here p) (payload p)
  unfolding laid message_of
  laid_out =
      let e = extension_at p in
      let e4 : e + 2 + 2 ≡ words_at p = omega arith in
      piece 0 1 _ _ (byte_back p small 0 (omega (arith, h.head)) ∙ ap bytes8 first_back)
      (piece 1 1 _ _ (byte_back p small 1 (omega (arith, h.head)) ∙ ap bytes8 (second_byte (byte_at p 1) (small 1) h.no_marker))
      (piece 2 2 _ _ (number16_back p small 2 (omega (arith, h.head)))
      (piece 4 4 _ _ (number32_back p small 4 (omega (arith, h.head)))
      (piece 8 4 _ _ (number32_back p small 8 (omega (arith, h.head)))
      (piece 12 (4 * csrc_count p) _ _ csrc_back
      (piece e 2 _ _ (number16_back p small e (omega (arith, h.words_begin)) ∙ ap bytes16 h.type_is)
      (piece (e + 2) 2 _ _ (number16_back p small (e + 2) (omega (arith, h.words_begin)))
      (ap (λ (n : ℕ). drop n p) e4 ∙ words_back))))))))
      ∙ regroup (bytes8 (placed 8 0 2 2 + placed 8 3 1 1 + placed 8 4 4 (length (csrc_words p) / 4))) (bytes8 (payload_type p)) (bytes16 (sequence p))
      (bytes32 (timestamp p)) (bytes32 (ssrc p)) (csrc_words p) (bytes16 ext) (bytes16 (word_count p)) (bytes16 (field_of (message_of p) (items_here p)))
      (item_bytes (items_here p)) (replicate (4 * word_count p - (2 + length (item_bytes (items_here p)))) 0) (payload p)

pub inversion : Inversion
inversion d ext p m small e = grind (arith, accepted_passed, laid_out)
