-- No packet is longer than 376 bytes, so what lies behind the first 377 cannot change the line: a program may leave it unread.
use Prim.Native.Nat.{ℕ, ◌+◌, ◌*◌, ◌-◌, ◌≤◌, ◌<◌}
use mathlib.Core.Path.{◌≡◌, refl, ap, sym, ◌∙◌}
use mathlib.Core.Bool.{Bool, true, false, not, cond, ◌||◌}
use mathlib.Core.List.{List, ◌∷◌, ◌++◌}
use native.Mathlib.Omega.{arith}
use Rattle.std.proofs.lemmas.List.{drop-take}
use borrow.Author.Tests.{le-ltb, leb-true, leb-false, ltb-false}
use lib.Dec.{leb, ltb, eqb}
use lib.ListN.{length, take, drop}
use lib.Seq.{get_or-take, take-take, take_all, length-take-le}
use Rattle.base.specs.Bytes.{byte_at, number16, bits, is_set, part_of}
use Rattle.base.proofs.Truths.{or_right}
use Rattle.packet.specs.Refusals.{Case, ◌if◌, Answer, refused, cause_of, judged, mapped}
use Rattle.packet.specs.Packet.{padding, marker, extension_at, extension_type, words_at, word_count, payload_at, payload, payload_allowed, payload_type, audio_type, r2s_type, field, field_allowed, after_field, x}
use Rattle.packet.specs.Items.{items_allowed}
use Rattle.reader.specs.Reading.{reader_refusals, read, read_tx, message_of, as_tx}
use Rattle.packet.specs.declared.message.Direction.{Direction}
use Rattle.packet.specs.declared.message.Direction.TheVariants as direction
use Rattle.reader.proofs.Passed.{payload_most, payload_length}
use Rattle.base.specs.Text.{text}
use Rattle.show.specs.Lines.{answer_line, decoded_line}

-- Two lists of refusals that agree up to the first case that holds; the values behind them do not matter.
data Agree : List Case → List Case → Type 0 where
  holds_in_both : {n : ℕ} {b c : Bool} {cs ds : List Case} → b ≡ true → c ≡ true → Agree (n if b ∷ cs) (n if c ∷ ds)
  next : {n : ℕ} {b c : Bool} {cs ds : List Case} → b ≡ c → (c ≡ false → Agree cs ds) → Agree (n if b ∷ cs) (n if c ∷ ds)

module _ {A B : Type 0} (f g : Answer A → B) (same : (n c : ℕ) → f (refused n c) ≡ g (refused n c)) (a b : A) where
  same_answer : {cs ds : List Case} → Agree cs ds → f (judged cs a) ≡ g (judged ds b)
  same_answer (holds_in_both {n} h k) = simp (h, k) (same n (cause_of n))
  same_answer (next {n} {c = c} {cs} {ds} e rest) =
      ap (λ (t : Bool). f (cond t (refused n (cause_of n)) (judged cs a))) e ∙ by c (λ passed. same_answer (rest passed))
    where
      by : (c : Bool) → (c ≡ false → f (judged cs a) ≡ g (judged ds b))
          → f (cond c (refused n (cause_of n)) (judged cs a)) ≡ g (cond c (refused n (cause_of n)) (judged ds b))
      by true later = same n (cause_of n)
      by false later = later refl

too_long : (kind n : ℕ) → 240 < n → not (payload_allowed kind n) ≡ true
too_long kind n h = grind (arith, payload_most)

much_left : (p : List ℕ) → 377 ≤ length p → payload_at p ≤ 136 → 240 < length (payload p)
much_left p h k = omega (arith, payload_length p)

part_of_front : (count from n : ℕ) (p : List ℕ) → from + count ≤ n → take count (drop from (take n p)) ≡ take count (drop from p)
part_of_front count from n p h =
    let e : n ≡ from + (n - from) = omega arith in
    rw (e, drop-take) (take-take count (n - from) (drop from p) (omega arith))

module _ (p : List ℕ) (long : 377 ≤ length p) where
  abbrev front : List ℕ
  front = take 377 p

  front_length : length front ≡ 377
  front_length = length-take-le 377 p long

  same_byte : (i : ℕ) → i < 377 → byte_at front i ≡ byte_at p i
  same_byte i h = get_or-take 377 p i 0 h

  same_first : byte_at front 0 ≡ byte_at p 0
  same_first = same_byte 0 (omega arith)

  same_flags : is_set (padding front) || is_set (marker front) ≡ is_set (padding p) || is_set (marker p)
  same_flags = rw (same_byte 0 (omega arith), same_byte 1 (omega arith))

  same_kind : payload_type front ≡ payload_type p
  same_kind = ap (λ (b : ℕ). bits 8 1 7 b) (same_byte 1 (omega arith))

  -- a place that both are long enough for
  reaches : (i j : ℕ) → i ≡ j → j ≤ 377 → ltb (length front) i ≡ ltb (length p) j
  reaches i j e h = le-ltb (length front) i (omega (arith, front_length)) ∙ sym (le-ltb (length p) j (omega arith))

  same_number : (i : ℕ) → i + 1 < 377 → number16 front i ≡ number16 p i
  same_number i h =
      let high : byte_at front i ≡ byte_at p i = same_byte i (omega arith) in
      let low : byte_at front (i + 1) ≡ byte_at p (i + 1) = same_byte (i + 1) h in
      cc

  same_extension_at : extension_at front ≡ extension_at p
  same_extension_at = ap (λ (b : ℕ). 12 + 4 * bits 8 4 4 b) (same_byte 0 (omega arith))

  extension_near : extension_at p ≤ 72
  extension_near = omega arith

  same_type : extension_type front ≡ extension_type p
  same_type = ap (λ (i : ℕ). number16 front i) same_extension_at ∙ same_number (extension_at p) (omega (arith, extension_near))

  same_count : word_count front ≡ word_count p
  same_count = ap (λ (i : ℕ). number16 front (i + 2)) same_extension_at ∙ same_number (extension_at p + 2) (omega (arith, extension_near))

  same_field_lem : field front ≡ field p
  same_field_lem = ap (λ (i : ℕ). number16 front (i + 4)) same_extension_at ∙ same_number (words_at p) (omega (arith, extension_near))

  same_payload_at : payload_at front ≡ payload_at p
  same_payload_at = omega (arith, same_extension_at, same_count)

  same_after : word_count p ≤ 15 → after_field front ≡ after_field p
  unfolding after_field
  same_after few =
      ap (λ (i : ℕ). part_of (i + 4 + 2) (payload_at front) front) same_extension_at
      ∙ ap (λ (k : ℕ). part_of (words_at p + 2) k front) same_payload_at
      ∙ part_of_front (payload_at p - (words_at p + 2)) (words_at p + 2) 377 p (omega (arith, extension_near))

  agree : (d : Direction) (ext : ℕ) → Agree (reader_refusals d ext front) (reader_refusals d ext p)
  unfolding reader_refusals
  agree d ext =
      next (reaches 12 12 refl (omega arith)) λ _.
      next (ap (λ (b : ℕ). not (eqb (bits 8 0 2 b) 2)) same_first) λ _.
      next same_flags λ _.
      next (ap (λ (b : ℕ). not (is_set (bits 8 3 1 b))) same_first) λ _.
      next (ap (λ (t : ℕ). not (eqb t audio_type || eqb t r2s_type)) same_kind) λ _.
      next (reaches (words_at front) (words_at p) (ap (λ (i : ℕ). i + 4) same_extension_at) (omega (arith, extension_near))) λ _.
      next (ap (λ (t : ℕ). not (eqb t ext)) same_type) λ _.
      next (ap (λ (w : ℕ). eqb w 0 || ltb 15 w) same_count) λ few.
      let count : word_count p ≤ 15 = ltb-false 15 (word_count p) (or_right (eqb (word_count p) 0) (ltb 15 (word_count p)) few) in
      next (reaches (payload_at front) (payload_at p) same_payload_at (omega (arith, extension_near))) λ _.
      next (ap (λ (f : ℕ). not (field_allowed d f)) same_field_lem) λ _.
      next (ap (λ (f : ℕ). not (items_allowed d (x f) (after_field front))) same_field_lem ∙ ap (λ (l : List ℕ). not (items_allowed d (x (field p)) l)) (same_after count)) λ _.
      holds_in_both
      (too_long (payload_type front) (length (payload front)) (much_left front (omega (arith, front_length)) (omega (arith, same_payload_at, extension_near))))
      (too_long (payload_type p) (length (payload p)) (much_left p long (omega (arith, extension_near))))

  same_line : (ext : ℕ) → decoded_line ext front ≡ decoded_line ext p
  unfolding decoded_line answer_line read_tx read
  same_line ext = ap (λ (l : List ℕ). l ++ text "\n")
      (same_answer
      (λ r. answer_line (mapped as_tx r) (length (payload front)))
      (λ r. answer_line (mapped as_tx r) (length (payload p)))
      (λ n c. refl)
      (message_of front)
      (message_of p)
      (agree direction.Tx ext))

pub enough : (ext : ℕ) (p : List ℕ) → decoded_line ext (take 377 p) ≡ decoded_line ext p
enough ext p = by (leb 377 (length p)) refl
  where
    by : (t : Bool) → leb 377 (length p) ≡ t → decoded_line ext (take 377 p) ≡ decoded_line ext p
    by true h = same_line p (leb-true 377 (length p) h) ext
    by false h = ap (decoded_line ext) (take_all 377 p (omega (arith, leb-false 377 (length p) h)))
