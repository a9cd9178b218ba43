-- Second witness of `writer`: when a writer turns a message away, in numbers. proofs/InWords holds the definitions of Writing to it; none
-- of them is cited.
use Rattle.std.specs.Prelude.{ℕ, ◌+◌, ◌<◌, ◌≡◌, List, length, None, Some}
use Rattle.packet.specs.declared.message.Sqi.{Sqi}
use Rattle.packet.specs.declared.message.Items.{Items}
use Rattle.packet.specs.declared.message.Message.{Message}

-- two items or more: three are never given, for SQI is of RX and CLIMAX of TX
pub data TwoItems (items : Items) : Type 0 where
  sqi_climax : (items.sqi ≡ None → ⊥) → (items.climax ≡ None → ⊥) → TwoItems items
  sqi_side : (items.sqi ≡ None → ⊥) → (items.side ≡ None → ⊥) → TwoItems items
  climax_side : (items.climax ≡ None → ⊥) → (items.side ≡ None → ⊥) → TwoItems items

-- "Writers 27, 26."
pub data WriterBarred (m : Message) (sound : List ℕ) (room : ℕ) : (number cause : ℕ) → Type 0 where
  -- "27 | writer given a value its reader would refuse": "6 and 7 are reserved and refused"; a value that does not fit its bits
  no_type : 5 < m.ptt → WriterBarred m sound room 27 0
  no_id : 63 < m.id → WriterBarred m sound room 27 0
  -- "0 RSSI, 1 AGC, 2 C/N, 3 PSD. With RSSI quality is 0 to 15, else 0 to 31"
  no_method : (s : Sqi) → m.items.sqi ≡ Some s → 3 < s.method → WriterBarred m sound room 27 0
  no_quality : (s : Sqi) → m.items.sqi ≡ Some s → 31 < s.quality → WriterBarred m sound room 27 0
  no_rssi : (s : Sqi) → m.items.sqi ≡ Some s → s.method ≡ 0 → 15 < s.quality → WriterBarred m sound room 27 0
  -- "low 7 bits the delay"
  no_delay : (delay : ℕ) → m.items.climax ≡ Some delay → 127 < delay → WriterBarred m sound room 27 0
  -- "for 123 none; for 8 exactly 80, 160 or 240 bytes"
  no_length : (length sound ≡ 0 → ⊥) → (length sound ≡ 80 → ⊥) → (length sound ≡ 160 → ⊥) → (length sound ≡ 240 → ⊥) → WriterBarred m sound room 27 0
  -- "26 | buffer shorter than the packet to write": 20 bytes and the audio, and a word more for two items
  under_20 : room < 20 + length sound → WriterBarred m sound room 26 0
  under_24 : TwoItems m.items → room < 24 + length sound → WriterBarred m sound room 26 0
