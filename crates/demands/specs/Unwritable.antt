-- 01, 27: "writer given a value its reader would refuse". So it is, both ways: 27 is a value that makes a packet which the reader refuses, or
-- one that does not fit its bits, which no reader could see; and nothing else.
use Rattle.std.specs.Prelude.{ℕ, ◌^◌, ◌≤◌, ◌≡◌, Bool, true, false, ◌&&◌, List, ◌⊎◌, ◌↔◌, ltb, length, Option, None, Some}
use Rattle.packet.specs.Refusals.{Answer, refused, cause_of}
use Rattle.reader.specs.Reading.{read_tx, read_rx}
use Rattle.writer.specs.Writing.{encode, writable, write}
use Rattle.packet.specs.declared.message.Message.{Message}
use Rattle.packet.specs.declared.message.Tx.{Tx}
use Rattle.packet.specs.declared.message.Rx.{Rx}
use Rattle.packet.specs.Messages.{from_tx, from_rx}
use Rattle.packet.specs.declared.message.Sqi.{Sqi}
use Rattle.demands.specs.RoundTrip.{Narrow}

-- "quality in the high 5 bits; method in the low 3"
abbrev pub sqi_fits : Option Sqi → Bool
sqi_fits None = true
sqi_fits (Some s) = ltb s.quality (2 ^ 5) && ltb s.method (2 ^ 3)

-- "low 7 bits the delay"
abbrev pub climax_fits : Option ℕ → Bool
climax_fits None = true
climax_fits (Some delay) = ltb delay (2 ^ 7)

-- "PTT type 3 bits .. ptt-id 6"
unfoldable pub fits_bits : Message → Bool
fits_bits m = ltb m.ptt (2 ^ 3) && ltb m.id (2 ^ 6) && sqi_fits m.items.sqi && climax_fits m.items.climax

-- A reader's answer to the packet that the values make: 10 (the first two bytes), 11 (items) or 12 (payload length), with its cause.
abbrev pub RefusesValue : {A : Type 0} → Answer A → Type 0
RefusesValue answer = (n : ℕ) × (10 ≤ n) × (n ≤ 12) × (answer ≡ refused n (cause_of n))

pub record Unwritable : Type 0 where
  -- values that fit their bits and are not writable make a packet that the reader refuses
  pub refused_tx : (ext : ℕ) (m : Tx) (sound : List ℕ) → Narrow ext (from_tx m) → fits_bits (from_tx m) ≡ true → writable (from_tx m) (length sound) ≡ false
      → RefusesValue (read_tx ext (encode ext (from_tx m) sound))
  pub refused_rx : (ext : ℕ) (m : Rx) (sound : List ℕ) → Narrow ext (from_rx m) → fits_bits (from_rx m) ≡ true → writable (from_rx m) (length sound) ≡ false
      → RefusesValue (read_rx ext (encode ext (from_rx m) sound))
  -- so a writer says 27, whatever the room, exactly if a value does not fit or the reader refuses
  pub exactly_tx : (ext : ℕ) (m : Tx) (sound : List ℕ) (room : ℕ) → Narrow ext (from_tx m)
      → (write ext (from_tx m) sound room ≡ refused 27 0) ↔ ((fits_bits (from_tx m) ≡ false) ⊎ RefusesValue (read_tx ext (encode ext (from_tx m) sound)))
  pub exactly_rx : (ext : ℕ) (m : Rx) (sound : List ℕ) (room : ℕ) → Narrow ext (from_rx m)
      → (write ext (from_rx m) sound room ≡ refused 27 0) ↔ ((fits_bits (from_rx m) ≡ false) ⊎ RefusesValue (read_rx ext (encode ext (from_rx m) sound)))
