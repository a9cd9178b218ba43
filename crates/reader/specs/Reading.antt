-- 01: "Orders: readers 1 to 12." What the readers answer, for every list of bytes.
use Rattle.std.specs.Prelude.{ℕ, not, ◌||◌, List, [], ◌∷◌, length, ltb, eqb}
use Rattle.base.specs.Bytes.{is_set}
use Rattle.packet.specs.Refusals.{Case, ◌if◌, Answer, judged, mapped}
use Rattle.packet.specs.Packet.{version, padding, marker, extension, payload_type, audio_type, r2s_type, head_length, sequence, timestamp, ssrc, words_at, extension_type, word_count, payload_at, payload, payload_allowed, field, field_allowed, ptt_type, squ, ptt_id, pm, ptts, sct, x, after_field}
pub use Rattle.packet.specs.Messages.{as_tx, as_rx}
use Rattle.packet.specs.Items.{Item, items_allowed, items_of, kept}
use Rattle.packet.specs.declared.message.Direction.{Direction}
use Rattle.packet.specs.declared.message.Direction.TheVariants as direction
use Rattle.packet.specs.declared.message.Message.{Message}
use Rattle.packet.specs.declared.message.Tx.{Tx}
use Rattle.packet.specs.declared.message.Rx.{Rx}

-- 01, What is turned away, 1 to 12.
unfoldable pub reader_refusals : Direction → (ext : ℕ) → List ℕ → List Case
reader_refusals d ext p =
    1 if ltb (length p) head_length
    ∷ 2 if not (eqb (version p) 2)
    ∷ 3 if (is_set (padding p) || is_set (marker p))
    ∷ 4 if not (is_set (extension p))
    ∷ 5 if not (eqb (payload_type p) audio_type || eqb (payload_type p) r2s_type)
    ∷ 6 if ltb (length p) (words_at p)
    ∷ 7 if not (eqb (extension_type p) ext)
    ∷ 8 if (eqb (word_count p) 0 || ltb 15 (word_count p))
    ∷ 9 if ltb (length p) (payload_at p)
    ∷ 10 if not (field_allowed d (field p))
    ∷ 11 if not (items_allowed d (x (field p)) (after_field p))
    ∷ 12 if not (payload_allowed (payload_type p) (length (payload p)))
    ∷ []

-- "Items follow.": those of a packet, in the order in which they stand.
unfoldable pub items_here : List ℕ → List Item
items_here p = items_of (x (field p)) (after_field p)

-- What the bytes say, of either direction.
unfoldable pub message_of : List ℕ → Message
message_of p =
    record {
      sequence = sequence p;
      timestamp = timestamp p;
      ssrc = ssrc p;
      ptt = ptt_type (field p);
      squ = is_set (squ (field p));
      id = ptt_id (field p);
      pm = is_set (pm (field p));
      ptts = is_set (ptts (field p));
      sct = is_set (sct (field p));
      items = kept (items_here p);
    }

unfoldable pub read : Direction → (ext : ℕ) → List ℕ → Answer Message
read d ext p = judged (reader_refusals d ext p) (message_of p)

unfoldable pub read_tx : (ext : ℕ) → List ℕ → Answer Tx
read_tx ext p = mapped as_tx (read direction.Tx ext p)

unfoldable pub read_rx : (ext : ℕ) → List ℕ → Answer Rx
read_rx ext p = mapped as_rx (read direction.Rx ext p)
