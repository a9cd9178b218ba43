-- Demand 2: ".. an accepted packet in 01's plain form is rewritten to the same bytes"; since 02, request 1, "for plain packets without"
-- a type 4 item. And no other accepted packet is.
use Rattle.std.specs.Prelude.{ℕ, ◌≤◌, ◌≡◌, true, false, List, ◌++◌, ◌↔◌, length, drop}
use Rattle.base.specs.Bytes.{Bytes}
use Rattle.packet.specs.Packet.{payload}
use Rattle.packet.specs.Items.{ddc_type, has_type}
use Rattle.packet.specs.Refusals.{accepted}
use Rattle.reader.specs.Reading.{items_here, read, read_tx, read_rx}
use Rattle.writer.specs.Writing.{encode, writable, write, buffered}
use Rattle.packet.specs.declared.message.Direction.{Direction}
use Rattle.packet.specs.declared.message.Message.{Message}
use Rattle.packet.specs.declared.message.Tx.{Tx}
use Rattle.packet.specs.declared.message.Rx.{Rx}
use Rattle.packet.specs.Messages.{from_tx, from_rx}
use Rattle.demands.specs.Plain.{Plain}

-- No item of the packet is of type 4.
abbrev pub WithoutDdc : List ℕ → Type 0
WithoutDdc p = has_type ddc_type (items_here p) ≡ false

-- A packet, its message, and what the writer makes of that message with the packet's own payload.
pub record Rewritten (ext : ℕ) (p : List ℕ) (m : Message) : Type 0 where
  -- it is no value that the writer refuses
  pub writes : writable m (length (payload p)) ≡ true
  -- the bytes are those of the packet exactly if the packet is plain and has no type 4 item
  pub same : (encode ext m (payload p) ≡ p) ↔ (Plain p × WithoutDdc p)
  -- so such a packet stands again in every buffer with room for it
  pub stands : Plain p → WithoutDdc p → (buffer : List ℕ) → length p ≤ length buffer
      → (write ext m (payload p) (length buffer) ≡ accepted (length p)) × (buffered ext m (payload p) buffer ≡ p ++ drop (length p) buffer)

-- For every direction, extension type and list of bytes.
abbrev pub Rewrite : Type 0
Rewrite = (d : Direction) (ext : ℕ) (p : List ℕ) (m : Message) → Bytes p → read d ext p ≡ accepted m → Rewritten ext p m

-- The same of the public readers, whose messages hold only what their direction can say.
abbrev pub RewriteTx : Type 0
RewriteTx = (ext : ℕ) (p : List ℕ) (m : Tx) → Bytes p → read_tx ext p ≡ accepted m → Rewritten ext p (from_tx m)

abbrev pub RewriteRx : Type 0
RewriteRx = (ext : ℕ) (p : List ℕ) (m : Rx) → Bytes p → read_rx ext p ≡ accepted m → Rewritten ext p (from_rx m)
