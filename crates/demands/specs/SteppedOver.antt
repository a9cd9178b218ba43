-- 02, request 1: "one type 4 item of any length 0 to 15 is stepped over and its value isn't kept, in TX and RX alike"; "Reply-now
-- ignores it." A packet with a type 4 item and the same packet with it taken out are the same to every reader and every bench.
use Rattle.std.specs.Prelude.{ℕ, ◌≤◌, ◌≡◌, true, cond, List, [], ◌∷◌, ◌++◌, eqb, length}
use Rattle.base.specs.Bytes.{Bytes}
use Rattle.packet.specs.Packet.{payload_type, extension_type, word_count, payload}
use Rattle.packet.specs.Items.{Item, ddc_type}
use Rattle.packet.specs.Refusals.{accepted}
use Rattle.reader.specs.Reading.{message_of, items_here, read}
use Rattle.writer.specs.Writing.{encode, writable}
use Rattle.bench.specs.Step.{packet, keeping}
use Rattle.packet.specs.declared.message.Direction.{Direction}
use Rattle.packet.specs.declared.message.Message.{Message}
use Rattle.record.specs.declared.whole.Bench.{Bench}
use Rattle.demands.specs.Inversion.{laid, RoomFor, csrc_words}
use Rattle.demands.specs.RoundTrip.{Narrow}
use Rattle.demands.specs.Rewrite.{WithoutDdc}

-- A packet with other items, in so many words: all else of it as it was.
unfoldable pub relaid : (words : ℕ) → List Item → List ℕ → List ℕ
relaid words is p = laid (csrc_words p) (payload_type p) (extension_type p) words (message_of p) is (payload p)

-- The items without those of type 4.
unfoldable pub others : List Item → List Item
others [] = []
others (i ∷ is) = cond (eqb i.type ddc_type) (others is) (i ∷ others is)

abbrev pub ddc : (value : List ℕ) → Item
ddc value = record { type = ddc_type; value = value }

-- A packet that some reader accepts.
pub record IsRead (p : List ℕ) : Type 0 where
  pub direction : Direction
  pub ext : ℕ
  pub message : Message
  pub bytes : Bytes p
  pub accepts : read direction ext p ≡ accepted message

-- The packet with these items, in so many words: no reader tells it from the packet itself, and no bench does.
pub record Alike (p : List ℕ) (words : ℕ) (is : List Item) : Type 0 where
  pub items : items_here (relaid words is p) ≡ is
  pub reads : (d : Direction) (ext : ℕ) → read d ext (relaid words is p) ≡ read d ext p
  pub audio : payload (relaid words is p) ≡ payload p
  -- all that the bench answers (missing packets, reply now, the side in use, the audio's bytes, or a refusal), and the bench after
  -- it; where the audio lies in the packet follows the words
  pub heard : (b : Bench) (n : ℕ) → keeping b (packet n (relaid words is p)) ≡ keeping b (packet n p)

-- "Writers never write it."
abbrev pub NeverWritten : Type 0
NeverWritten = (ext : ℕ) (m : Message) (sound : List ℕ) → Narrow ext m → writable m (length sound) ≡ true → WithoutDdc (encode ext m sound)

pub record SteppedOver : Type 0 where
  -- a packet with its own items, in its own words, is the packet itself
  pub itself : (p : List ℕ) → IsRead p → relaid (word_count p) (items_here p) p ≡ p
  -- taken out: the packet is alike without its type 4 item, in any number of words that holds the others,
  pub taken_out : (p : List ℕ) (words : ℕ) → IsRead p → RoomFor words (others (items_here p)) → Alike p words (others (items_here p))
  -- as its own number of words does
  pub own_words : (p : List ℕ) → IsRead p → RoomFor (word_count p) (others (items_here p))
  -- put in: a packet that has none is alike with one of any length 0 to 15, anywhere among its items
  pub put_in : (p : List ℕ) (words : ℕ) (before after : List Item) (value : List ℕ) → IsRead p → WithoutDdc p → items_here p ≡ before ++ after
      → length value ≤ 15 → RoomFor words (before ++ ddc value ∷ after) → Alike p words (before ++ ddc value ∷ after)
  pub never_written : NeverWritten
