-- 27 is what does not fit its bits, and what the reader refuses of the packet that the values make.
use Prim.Native.Nat.{ℕ, ◌≤◌}
use mathlib.Core.Path.{◌≡◌, refl, ap, sym, ◌∙◌}
use mathlib.Core.Bool.{Bool, true, false, not, ◌&&◌, false≢true}
use mathlib.Core.List.{List, [], ◌∷◌}
use mathlib.Core.Logic.{◌⊎◌, ◌↔◌}
use native.Mathlib.Omega.{arith}
use lib.ListN.{length}
use borrow.Author.Tests.{le-leb, eq-eqb}
use Rattle.std.specs.Prelude.{Option}
use Rattle.base.proofs.Truths.{and_true}
use Rattle.packet.specs.Packet.{ptt_allowed}
use Rattle.packet.specs.Items.{all_allowed}
use Rattle.packet.specs.Refusals.{Case, ◌if◌, Answer, accepted, refused, judged, mapped}
use Rattle.reader.specs.Reading.{message_of, read, reader_refusals, read_tx, read_rx}
use Rattle.writer.specs.Writing.{kind_for, fewest_words, encode, sqi_writable, climax_writable, audio_writable, writable, writer_refusals, write}
use Rattle.packet.specs.declared.message.Direction.{Direction}
use Rattle.packet.specs.declared.message.Direction.TheVariants as direction
use Rattle.packet.specs.declared.message.Message.{Message}
use Rattle.packet.specs.declared.message.Tx.{Tx}
use Rattle.packet.specs.declared.message.Rx.{Rx}
use Rattle.packet.specs.Messages.{as_tx, as_rx, from_tx, from_rx}
use Rattle.demands.specs.RoundTrip.{Narrow}
use Rattle.demands.specs.Unwritable.{sqi_fits, climax_fits, fits_bits, RefusesValue, Unwritable}
use Rattle.demands.proofs.Demand2.RisingItems.{sqi_fits_lem, rising_once, rising_in_tx, rising_in_rx}
use Rattle.demands.proofs.Demand2.Written.{writable_is, kind_allowed, sound_allowed, items_for}
use Rattle.demands.proofs.Demand2.Laid.{Says, said_in_field, Fit}
use Rattle.demands.proofs.Demand2.Laid as of-laid
use Rattle.demands.proofs.Demand2.RoundTrip.{laid_plain, fit_plain, round_trip_tx, round_trip_rx}

-- ---- values that fit

record Fits (m : Message) : Type 0 where
  ptt : m.ptt ≤ 7
  id : m.id ≤ 63
  sqi : sqi_fits m.items.sqi ≡ true
  climax : climax_fits m.items.climax ≡ true

bits_fit : (m : Message) → fits_bits m ≡ true → Fits m
unfolding fits_bits
bits_fit m e = grind arith

-- a delay that fits may stand
delay_writable : (c : Option ℕ) → climax_fits c ≡ true → climax_writable c ≡ true
delay_writable c e = grind arith

-- what is writable fits
writable_fits : (m : Message) (n : ℕ) → writable m n ≡ true → fits_bits m ≡ true
unfolding fits_bits
writable_fits m n e = grind (arith, sqi_fits_lem, writable_is)

-- ---- what the reader says to the packet that they make

-- by the PTT type, the items and the audio alone
abbrev value_cases : (type items audio : Bool) → List Case
value_cases type items audio = 10 if not type ∷ 11 if not items ∷ 12 if not audio ∷ []

one_refuses : {A : Type 0} (type items audio : Bool) (a : A) → type && items && audio ≡ false → RefusesValue (judged (value_cases type items audio) a)
one_refuses false items audio a e = (10, omega arith, omega arith, refl)
one_refuses true false audio a e = (11, omega arith, omega arith, refl)
one_refuses true true false a e = (12, omega arith, omega arith, refl)
one_refuses true true true a e = absurd (false≢true (sym e))

mapped_refuses : {A B : Type 0} (f : A → B) (a : Answer A) → RefusesValue a → RefusesValue (mapped f a)
mapped_refuses f a (n, least, most, e) = (n, least, most, ap (mapped f) e)

module _ (ext : ℕ) (m : Message) (sound : List ℕ) (narrow : Narrow ext m) (fits : fits_bits m ≡ true) where
  abbrev n : ℕ
  n = length sound

  fit : Fits m
  fit = bits_fit m fits

  parts : Fit [] (kind_for n) ext (fewest_words (items_for m)) m (items_for m)
  parts = fit_plain ext m sound narrow fit.ptt fit.id

  -- the items break a rule by the values of SQI alone
  items_by_sqi : (d : Direction) → Says d m → all_allowed d (items_for m) ≡ sqi_writable m.items.sqi
  items_by_sqi d s = grind (arith, fit, rising_in_rx, rising_in_tx)

  said : (d : Direction) → Says d m
      → read d ext (encode ext m sound) ≡ judged (value_cases (ptt_allowed m.ptt) (sqi_writable m.items.sqi) (audio_writable n)) (message_of (encode ext m sound))
  unfolding read
  said d s =
      let p = encode ext m sound in
      ap (λ (cs : List Case). judged cs (message_of p)) (ap (reader_refusals d ext) (sym (laid_plain ext m sound)) ∙ of-laid.cases [] _ ext _ m (items_for m) sound parts d ext)
      ∙ simp (
        kind_allowed n,
        eq-eqb ext ext refl,
        of-laid.field_allowed_lem [] _ ext _ m (items_for m) sound parts d (said_in_field d m s),
        items_by_sqi d s,
        rising_once m.items,
        and_true,
        sound_allowed n,
      )

  -- of which the writer asks the same
  asks_same : writable m n ≡ ptt_allowed m.ptt && sqi_writable m.items.sqi && audio_writable n
  unfolding writable
  asks_same = simp (le-leb m.id 63 fit.id, delay_writable m.items.climax fit.climax, and_true)

  refused_by_reader : (d : Direction) → Says d m → writable m n ≡ false → RefusesValue (read d ext (encode ext m sound))
  refused_by_reader d s e = rw (said d s) (one_refuses (ptt_allowed m.ptt) (sqi_writable m.items.sqi) (audio_writable n) _ (sym asks_same ∙ e))

refused_tx : (ext : ℕ) (m : Tx) (sound : List ℕ) → Narrow ext (from_tx m) → fits_bits (from_tx m) ≡ true → writable (from_tx m) (length sound) ≡ false
    → RefusesValue (read_tx ext (encode ext (from_tx m) sound))
unfolding read_tx
refused_tx ext m sound narrow fits e = mapped_refuses as_tx _ (refused_by_reader ext (from_tx m) sound narrow fits direction.Tx (refl, refl, refl) e)

refused_rx : (ext : ℕ) (m : Rx) (sound : List ℕ) → Narrow ext (from_rx m) → fits_bits (from_rx m) ≡ true → writable (from_rx m) (length sound) ≡ false
    → RefusesValue (read_rx ext (encode ext (from_rx m) sound))
unfolding read_rx
refused_rx ext m sound narrow fits e = mapped_refuses as_rx _ (refused_by_reader ext (from_rx m) sound narrow fits direction.Rx refl e)

-- ---- 27

-- the first case of the writers
says_27 : (ext : ℕ) (m : Message) (sound : List ℕ) (room : ℕ) → writable m (length sound) ≡ false → write ext m sound room ≡ refused 27 0
unfolding write writer_refusals
says_27 ext m sound room e = simp e

unwritable_if_27 : (ext : ℕ) (m : Message) (sound : List ℕ) (room : ℕ) → write ext m sound room ≡ refused 27 0 → writable m (length sound) ≡ false
unfolding write writer_refusals
unwritable_if_27 ext m sound room e = grind arith

-- a value that the writer does not take: it does not fit, or the reader refuses
module _ {A : Type 0} (ext : ℕ) (m : Message) (sound : List ℕ) (answer : Answer A) (a : A) (accepts : writable m (length sound) ≡ true → answer ≡ accepted a)
    (refuses : fits_bits m ≡ true → writable m (length sound) ≡ false → RefusesValue answer) where
  one_of_two : writable m (length sound) ≡ false → (fits_bits m ≡ false) ⊎ RefusesValue answer
  one_of_two e = grind arith

  of_either : (fits_bits m ≡ false) ⊎ RefusesValue answer → writable m (length sound) ≡ false
  of_either why = grind (arith, writable_fits)

  exactly : (room : ℕ) → (write ext m sound room ≡ refused 27 0) ↔ ((fits_bits m ≡ false) ⊎ RefusesValue answer)
  exactly room = (λ e. one_of_two (unwritable_if_27 ext m sound room e), λ why. says_27 ext m sound room (of_either why))

pub unwritable : Unwritable
unwritable =
    record {
      refused_tx = refused_tx;
      refused_rx = refused_rx;
      exactly_tx = λ ext m sound room narrow.
          exactly ext (from_tx m) sound _ m (λ w. (round_trip_tx ext m sound narrow w).0) (refused_tx ext m sound narrow) room;
      exactly_rx = λ ext m sound room narrow.
          exactly ext (from_rx m) sound _ m (λ w. (round_trip_rx ext m sound narrow w).0) (refused_rx ext m sound narrow) room;
    }
