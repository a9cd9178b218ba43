-- Which refusal of 1 to 12 a reader answers: each of its tests says the line of the table with that number.
use Prim.Native.Nat.{ℕ, ◌+◌, ◌*◌, ◌-◌, ◌%◌, ◌≤◌}
use mathlib.Core.Path.{◌≡◌, refl, ap, sym, ◌∙◌}
use mathlib.Core.Bool.{Bool, true, false, not, ◌&&◌, ◌||◌, false≢true}
use mathlib.Core.List.{List, [], ◌∷◌, ◌++◌}
use mathlib.Core.Logic.{◌⊎◌, inl, inr}
use native.Mathlib.Omega.{arith}
use lib.Dec.{ltb, leb, eqb}
use lib.ListN.{length, take, drop, replicate}
use borrow.Author.Tests.{ltb-true, lt-ltb, leb-false, eqb-true, eqb-false, eq-eqb, ne_eqb, not-true, not-false}
use Rattle.base.specs.Bytes.{is_set, bit, Bytes}
use Rattle.base.proofs.Truths.{or_left, or_right, ◌and◌, or_true}
use Rattle.packet.specs.Packet.{version, padding, marker, extension, payload_type, extension_at, extension_type, words_at, word_count, payload_at, payload, payload_allowed, field, ptt_type, squ, squ_allowed, reserved, x, field_allowed, after_field}
use Rattle.packet.specs.Items.{Item, some_item, items_allowed, items_of}
use Rattle.packet.specs.Refusals.{cause_of}
use Rattle.packet.proofs.Judged.{judged_mapped}
use Rattle.packet.proofs.InWords.{MetIf, Agree, turned_away}
use Rattle.reader.specs.Reading.{reader_refusals, message_of, read, read_tx, read_rx}
use Rattle.reader.proofs.Passed.{payload_length}
use Rattle.writer.specs.Writing.{item_bytes}
use Rattle.packet.specs.declared.message.Direction.{Direction}
use Rattle.packet.specs.declared.message.Direction.TheVariants.{Tx, Rx}
use Rattle.packet.specs.Messages.{as_tx, as_rx}
use Rattle.demands.specs.LaidOut.{Carries, AllStand, EachOnce}
use Rattle.demands.specs.Unreadable.{byte, number, head_end, words, words_end, in_bytes, UnderX, zeros_alone, items_first, ItemsFit, Unreadable, ReadersTurnAway}
use Rattle.demands.specs.Unreadable as line
use Rattle.demands.proofs.Demand2.Inversion.{take_bytes, drop_bytes, items_under_x}
use Rattle.demands.proofs.Demand2.Numbers.{FieldBits, field_bits}
use Rattle.demands.proofs.Demand2.ItemsBack.{AllWrite, allowed_back}
use Rattle.demands.proofs.Demand2.AllowedItems.{all_write, here_stand, here_once}
use Rattle.demands.proofs.Demand2.LaidOut.{payload_fits, carried, all_allowed_lem, none_twice, each_once}

-- ---- a test that is negated, and the statement that it is about

unless : {S : Type 0} (t : Bool) → (t ≡ true → S) → (S → ⊥) → not t ≡ true
unless t says fails = grind arith

fails : {S : Type 0} (t : Bool) → (S → t ≡ true) → not t ≡ true → S → ⊥
fails t said e s = false≢true (sym (not-true t e) ∙ said s)

one_of : (a b : Bool) → (a || b) ≡ true → (a ≡ true) ⊎ (b ≡ true)
one_of a b e = grind arith

-- ---- the items

-- their bytes are those that the writer puts, where type and length fit the first
in_bytes_lem : (is : List Item) → AllWrite is → item_bytes is ≡ in_bytes is
unfolding item_bytes in_bytes
in_bytes_lem [] w = refl
in_bytes_lem (i ∷ is) w =
    let head : (i.type * 16 + length i.value * 1) % 256 ≡ 16 * i.type + length i.value = omega arith in
    rw (head, in_bytes_lem is w.1)

all_allowed_in : (d : Direction) (is : List Item) (n : ℕ) → AllStand d is → EachOnce is → items_allowed d (bit (some_item is)) (in_bytes is ++ replicate n 0) ≡ true
all_allowed_in d is n stand once = grind (arith, all_allowed_lem, all_write, allowed_back, in_bytes_lem, none_twice)

fit_allowed : (d : Direction) (x : ℕ) (rest : List ℕ) (is : List Item) → UnderX x rest is → AllStand d is → EachOnce is → items_allowed d x rest ≡ true
unfolding in_bytes
fit_allowed d _ _ _ (zeros_alone n) stand once = all_allowed_in d [] n stand once
fit_allowed d _ _ _ (items_first i is n) stand once = all_allowed_in d (i ∷ is) n stand once

under_x : (is : List Item) (n : ℕ) → UnderX (bit (some_item is)) (in_bytes is ++ replicate n 0) is
unfolding in_bytes
under_x [] n = zeros_alone n
under_x (i ∷ is) n = items_first i is n

allowed_fit : (d : Direction) (f : ℕ) (rest : List ℕ) → Bytes rest → items_allowed d (x f) rest ≡ true → UnderX (x f) rest (items_of (x f) rest)
allowed_fit d f rest small e = grind (arith, all_write, here_stand, in_bytes_lem, items_under_x, under_x)

module _ (d : Direction) (ext : ℕ) (p : List ℕ) (small : Bytes p) where
  -- ---- where the parts stand

  head_end_lem : words_at p ≡ head_end p
  head_end_lem = omega arith

  extension_is : extension_type p ≡ number p (head_end p - 4)
  extension_is = let at : extension_at p ≡ head_end p - 4 = omega arith in rw (← at) (omega arith)

  words_are : word_count p ≡ words p
  words_are = let at : extension_at p + 2 ≡ head_end p - 2 = omega arith in rw (← at) (omega arith)

  pub words_end_lem : payload_at p ≡ words_end p
  words_end_lem = omega (arith, words_are)

  kind_is : payload_type p ≡ byte p 1 % 128
  kind_is = omega arith

  payload_is : length (payload p) ≡ length p - words_end p
  payload_is = payload_length p ∙ ap (λ (n : ℕ). length p - n) words_end_lem

  after_is : after_field p ≡ take (words_end p - (head_end p + 2)) (drop (head_end p + 2) p)
  unfolding after_field
  after_is = rw (words_end_lem, head_end_lem)

  after_small : Bytes (after_field p)
  unfolding after_field
  after_small = let at : ℕ = words_at p + 2 in take_bytes (payload_at p - at) (drop at p) (drop_bytes at p small)

  -- ---- the first two bytes of the words

  abbrev f : ℕ
  f = field p

  abbrev high : ℕ
  high = byte p (head_end p)

  abbrev low : ℕ
  low = byte p (head_end p + 1)

  pub bits : FieldBits f high low
  bits = rw head_end_lem (field_bits high low (small (head_end p)) (small (head_end p + 1)))

  -- ---- the items of the packet

  fit_here : items_allowed d (x f) (after_field p) ≡ true → ItemsFit d p
  fit_here e = grind (arith, after_is, after_small, allowed_fit, each_once, here_once, here_stand)

  allowed_here : ItemsFit d p → items_allowed d (x f) (after_field p) ≡ true
  allowed_here fit = rw (bits.x_is, after_is) (fit_allowed d _ _ fit.items fit.stand fit.of_table fit.each_once)

  -- ---- the lines of the table

  abbrev Line : (number : ℕ) (test : Bool) → Type 0
  Line = MetIf (Unreadable d ext p)

  abbrev OnlyIf : (number : ℕ) (test : Bool) → Type 0
  OnlyIf number test = (cause : ℕ) → Unreadable d ext p number cause → (test ≡ true) × (cause ≡ cause_of number)

  short_line : Line 1 (ltb (length p) 12)
  short_line = record { if_holds = λ e. line.under_12 (ltb-true (length p) 12 e); only_if = only }
    where
      only : OnlyIf 1 (ltb (length p) 12)
      only _ (line.under_12 h) = (lt-ltb (length p) 12 h, refl)

  version_line : Line 2 (not (eqb (version p) 2))
  version_line = record { if_holds = λ e. line.version (fails (eqb (version p) 2) (λ h. eq-eqb (version p) 2 (omega arith)) e); only_if = only }
    where
      only : OnlyIf 2 (not (eqb (version p) 2))
      only _ (line.version h) = (unless (eqb (version p) 2) (λ e. omega (arith, small 0, eqb-true (version p) 2 e)) h, refl)

  flags_line : Line 3 (is_set (padding p) || is_set (marker p))
  flags_line = record { if_holds = λ e. met (one_of _ _ e); only_if = only }
    where
      met : (is_set (padding p) ≡ true) ⊎ (is_set (marker p) ≡ true) → Unreadable d ext p 3 0
      met (inl e) = line.padding (eqb-true (padding p) 1 e)
      met (inr e) = line.marker (omega (arith, small 1, eqb-true (marker p) 1 e))

      only : OnlyIf 3 (is_set (padding p) || is_set (marker p))
      only _ (line.padding h) = (simp (eq-eqb (padding p) 1 h), refl)
      only _ (line.marker h) = (simp (eq-eqb (marker p) 1 (omega arith), or_true), refl)

  extension_line : Line 4 (not (is_set (extension p)))
  extension_line = record { if_holds = λ e. line.no_extension (omega (arith, eqb-false (extension p) 1 (not-true _ e))); only_if = only }
    where
      only : OnlyIf 4 (not (is_set (extension p)))
      only _ (line.no_extension h) = (simp (ne_eqb (extension p) 1 (omega arith)), refl)

  abbrev kind : ℕ
  kind = payload_type p

  kind_line : Line 5 (not (eqb kind 8 || eqb kind 123))
  kind_line = record { if_holds = λ e. met (not-true _ e); only_if = only }
    where
      met : (eqb kind 8 || eqb kind 123) ≡ false → Unreadable d ext p 5 0
      met e = line.payload_type (λ h. eqb-false kind 8 (or_left _ _ e) (kind_is ∙ h)) (λ h. eqb-false kind 123 (or_right (eqb kind 8) _ e) (kind_is ∙ h))

      only : OnlyIf 5 (not (eqb kind 8 || eqb kind 123))
      only _ (line.payload_type g h) = (simp (ne_eqb kind 8 (λ e. g (sym kind_is ∙ e)), ne_eqb kind 123 (λ e. h (sym kind_is ∙ e))), refl)

  head_line : Line 6 (ltb (length p) (words_at p))
  head_line = record { if_holds = λ e. line.cut_in_head (omega (arith, ltb-true (length p) (words_at p) e)); only_if = only }
    where
      only : OnlyIf 6 (ltb (length p) (words_at p))
      only _ (line.cut_in_head h) = (lt-ltb (length p) (words_at p) (omega arith), refl)

  type_line : Line 7 (not (eqb (extension_type p) ext))
  type_line = record { if_holds = λ e. line.other_extension (fails _ (λ h. eq-eqb (extension_type p) ext (extension_is ∙ h)) e); only_if = only }
    where
      only : OnlyIf 7 (not (eqb (extension_type p) ext))
      only _ (line.other_extension h) = (unless _ (λ e. sym extension_is ∙ eqb-true (extension_type p) ext e) h, refl)

  count_line : Line 8 (eqb (word_count p) 0 || ltb 15 (word_count p))
  count_line = record { if_holds = λ e. met (one_of _ _ e); only_if = only }
    where
      met : (eqb (word_count p) 0 ≡ true) ⊎ (ltb 15 (word_count p) ≡ true) → Unreadable d ext p 8 0
      met (inl e) = line.no_word (sym words_are ∙ eqb-true (word_count p) 0 e)
      met (inr e) = line.many_words (omega (arith, words_are, ltb-true 15 (word_count p) e))

      only : OnlyIf 8 (eqb (word_count p) 0 || ltb 15 (word_count p))
      only _ (line.no_word h) = (simp (eq-eqb (word_count p) 0 (words_are ∙ h)), refl)
      only _ (line.many_words h) = (simp (lt-ltb 15 (word_count p) (omega (arith, words_are)), or_true), refl)

  words_line : Line 9 (ltb (length p) (payload_at p))
  words_line = record { if_holds = λ e. line.cut_in_words (omega (arith, words_end_lem, ltb-true (length p) (payload_at p) e)); only_if = only }
    where
      only : OnlyIf 9 (ltb (length p) (payload_at p))
      only _ (line.cut_in_words h) = (lt-ltb (length p) (payload_at p) (omega (arith, words_end_lem)), refl)

  field_line : Line 10 (not (field_allowed d f))
  unfolding field_allowed
  field_line = record { if_holds = λ e. met d _ _ _ refl refl refl refl e; only_if = only }
    where
      met : (e : Direction) (s t u : Bool) → d ≡ e → leb (ptt_type f) 5 ≡ s → squ_allowed e f ≡ t → eqb (reserved e f) 0 ≡ u → not (s && t && u) ≡ true
          → Unreadable d ext p 10 2012
      met e false t u is g h k n = line.reserved_type (omega (arith, bits, leb-false (ptt_type f) 5 g))
      met Tx true false u is g h k n = line.squ_in_tx is (omega (arith, bits, eqb-false (squ f) 0 h))
      met Rx true false u is g h k n = absurd (false≢true (sym h))
      met Tx true true false is g h k n = line.reserved_in_tx is (λ z. eqb-false (reserved Tx f) 0 k (bits.reserved_tx ∙ z))
      met Rx true true false is g h k n = line.reserved_in_rx is (λ z. eqb-false (reserved Rx f) 0 k (bits.reserved_rx ∙ z))
      met e true true true is g h k n = absurd (false≢true n)

      only : OnlyIf 10 (not (field_allowed d f))
      only h e = grind arith

  items_line : Line 11 (not (items_allowed d (x f) (after_field p)))
  items_line = record { if_holds = λ e. line.no_items (fails _ allowed_here e); only_if = only }
    where
      only : OnlyIf 11 (not (items_allowed d (x f) (after_field p)))
      only _ (line.no_items h) = (unless _ fit_here h, refl)

  payload_line : (eqb kind 8 || eqb kind 123) ≡ true → Line 12 (not (payload_allowed kind (length (payload p))))
  payload_line known = record { if_holds = λ e. line.payload_length (fails _ allowed e); only_if = only }
    where
      allowed : Carries (byte p 1 % 128) (length p - words_end p) → payload_allowed kind (length (payload p)) ≡ true
      allowed h = rw (kind_is, payload_is) (payload_fits _ _ h)

      carries : payload_allowed kind (length (payload p)) ≡ true → Carries (byte p 1 % 128) (length p - words_end p)
      carries e = rw (← kind_is, ← payload_is) (carried kind (length (payload p)) known e)

      only : OnlyIf 12 (not (payload_allowed kind (length (payload p))))
      only _ (line.payload_length h) = (unless _ carries h, refl)

  pub reader_agrees : Agree (Unreadable d ext p) (reader_refusals d ext p)
  unfolding reader_refusals
  reader_agrees =
      short_line and λ _. version_line and λ _. flags_line and λ _. extension_line and λ _. kind_line and λ known. head_line and λ _. type_line and λ _. count_line
      and λ _. words_line and λ _. field_line and λ _. items_line and λ _. payload_line (not-false _ known) and λ _. tt

-- no line has another number
pub reader_range : {d : Direction} {ext : ℕ} {p : List ℕ} {number cause : ℕ} → Unreadable d ext p number cause → (1 ≤ number) × (number ≤ 12)
reader_range h = grind arith

-- ---- the readers

pub readers_turn_away : ReadersTurnAway
unfolding read read_tx read_rx reader_refusals
readers_turn_away =
    record {
      of_tx = λ ext p small.
          rw (judged_mapped as_tx (reader_refusals Tx ext p) (message_of p))
          (turned_away (Unreadable Tx ext p) (as_tx (message_of p)) (reader_refusals Tx ext p) (reader_agrees Tx ext p small));
      of_rx = λ ext p small.
          rw (judged_mapped as_rx (reader_refusals Rx ext p) (message_of p))
          (turned_away (Unreadable Rx ext p) (as_rx (message_of p)) (reader_refusals Rx ext p) (reader_agrees Rx ext p small));
    }
