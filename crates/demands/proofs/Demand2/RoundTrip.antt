-- What the writers write reads back as the same message, with the same audio, and is plain.
use Prim.Native.Nat.{ℕ, ◌≤◌}
use mathlib.Core.Path.{◌≡◌, refl, ap, sym, ◌∙◌}
use mathlib.Core.Bool.{true}
use mathlib.Core.List.{List, []}
use native.Mathlib.Omega.{arith}
use lib.ListN.{length}
use Rattle.packet.specs.Packet.{csrc_count, word_count, payload}
use Rattle.packet.specs.Items.{ddc_type, all_allowed, has_type}
use Rattle.packet.specs.Refusals.{accepted, mapped}
use Rattle.reader.specs.Reading.{items_here, read, read_tx, read_rx}
use Rattle.writer.specs.Writing.{fewest_words, words_of, kind_for, head_of, encode, writable}
use Rattle.packet.specs.declared.message.Direction.{Direction}
use Rattle.packet.specs.declared.message.Direction.TheVariants.{Tx, Rx}
use Rattle.packet.specs.declared.message.Message.{Message}
use Rattle.demands.specs.Inversion.{laid}
use Rattle.demands.specs.RoundTrip.{Narrow, RoundTripTx, RoundTripRx, PlainWritten, ReportsReadBack}
use Rattle.demands.specs.SteppedOver.{NeverWritten}
use Rattle.packet.proofs.Judged.{meets_none}
use Rattle.packet.specs.Messages.{as_tx, as_rx, from_tx, from_rx}
use Rattle.reporting.specs.Reporting.{report_of, report_refusals, report_said, report_bytes}
use Rattle.reporting.proofs.Accepted.{report_accepted}
use Rattle.reporting.proofs.Told.{report_writable}
use Rattle.writer.proofs.Words.{few_words}
use Rattle.demands.proofs.Demand2.RisingItems.{rising_writes, rising_kept, rising_once, rising_rises, no_ddc, rising_in_tx, rising_in_rx}
use Rattle.demands.proofs.Demand2.Written.{Writable, writable_is, kind_allowed, sound_allowed, items_for}
use Rattle.demands.proofs.Demand2.Laid.{Says, said_in_field, Fit}
use Rattle.demands.proofs.Demand2.Laid as of-laid

-- laid out with no CSRC words, and with the kind, the words and the items that the writer chooses
pub laid_plain : (ext : ℕ) (m : Message) (sound : List ℕ)
    → laid [] (kind_for (length sound)) ext (fewest_words (items_for m)) m (items_for m) sound ≡ encode ext m sound
unfolding laid encode head_of words_of
laid_plain ext m sound = refl

-- which fit their bytes, whether or not the writer takes them
pub fit_plain : (ext : ℕ) (m : Message) (sound : List ℕ) → Narrow ext m → m.ptt ≤ 7 → m.id ≤ 63
    → Fit [] (kind_for (length sound)) ext (fewest_words (items_for m)) m (items_for m)
fit_plain ext m sound narrow ptt id = grind (arith, few_words, rising_writes)

module _ (ext : ℕ) (m : Message) (sound : List ℕ) (narrow : Narrow ext m) (fine : writable m (length sound) ≡ true) where
  passed : Writable m (length sound)
  passed = writable_is m (length sound) fine

  fit : Fit [] (kind_for (length sound)) ext (fewest_words (items_for m)) m (items_for m)
  fit = fit_plain ext m sound narrow (omega (arith, passed.ptt)) passed.id

  types_allowed : (d : Direction) → Says d m → all_allowed d (items_for m) ≡ true
  types_allowed d s = grind (arith, passed, rising_in_rx, rising_in_tx)

  pub read_back : (d : Direction) → Says d m → read d ext (encode ext m sound) ≡ accepted m
  read_back d s =
      ap (read d ext) (sym (laid_plain ext m sound))
      ∙ of-laid.read_back [] _ ext _ m (items_for m) sound fit d passed.ptt (said_in_field d m s) (types_allowed d s) (rising_once m.items)
      (rising_kept m.items passed.sqi passed.climax) (kind_allowed (length sound)) (sound_allowed (length sound) ∙ passed.sound)

  pub sound_back : payload (encode ext m sound) ≡ sound
  sound_back = ap payload (sym (laid_plain ext m sound)) ∙ of-laid.sound_back [] _ ext _ m (items_for m) sound fit

  pub items_here_lem : items_here (encode ext m sound) ≡ items_for m
  items_here_lem = ap items_here (sym (laid_plain ext m sound)) ∙ of-laid.items_here_lem [] _ ext _ m (items_for m) sound fit

pub round_trip_tx : RoundTripTx
unfolding read_tx
round_trip_tx ext m sound narrow fine =
    (ap (mapped as_tx) (read_back ext (from_tx m) sound narrow fine Tx (refl, refl, refl)), sound_back ext (from_tx m) sound narrow fine)

pub round_trip_rx : RoundTripRx
unfolding read_rx
round_trip_rx ext m sound narrow fine =
    (ap (mapped as_rx) (read_back ext (from_rx m) sound narrow fine Rx refl), sound_back ext (from_rx m) sound narrow fine)

pub plain_written : PlainWritten
plain_written ext m sound narrow fine =
    let is_laid = sym (laid_plain ext m sound) in
    let parts = of-laid.parts [] _ ext _ m (items_for m) sound (fit ext m sound narrow fine) in
    let held = items_here_lem ext m sound narrow fine in
    record {
      no_csrc = ap csrc_count is_laid ∙ parts.csrc_is;
      rising = simp held (rising_rises m.items);
      fewest = ap word_count is_laid ∙ parts.words_is ∙ simp held;
    }

pub never_written : NeverWritten
never_written ext m sound narrow fine = ap (has_type ddc_type) (items_here_lem ext m sound narrow fine) ∙ no_ddc m.items

pub reports_read_back : ReportsReadBack
unfolding report_bytes report_said
reports_read_back b right n timestamp sound room long narrow e =
    let met = report_accepted b n timestamp sound room (meets_none (report_refusals b n timestamp sound room) _ long e).0 in
    round_trip_rx b.setup.ext (report_of b n timestamp) sound narrow
    (report_writable b right n timestamp (length sound) met.is_seat met.audio_allowed)
