-- To blot a packet is to write its message without PTT type, ptt-id and PTTS.
use Prim.Native.Nat.{ℕ, ◌-◌, ◌≤◌}
use mathlib.Core.Path.{◌≡◌}
use mathlib.Core.Bool.{false}
use mathlib.Core.List.{List}
use native.Mathlib.Omega.{arith}
use Rattle.base.specs.Bytes.{placed}
use Rattle.packet.specs.Packet.{ptt_type, ptt_id, ptts}
use Rattle.writer.specs.Writing.{words_of, head_of, encode}
use Rattle.packet.specs.declared.message.Message.{Message}
use Rattle.demands.specs.Apart.{blotted}
use Rattle.demands.proofs.Demand2.Numbers.{joined16}
use Rattle.demands.proofs.Demand2.Written.{SaysOf, field_written, items_for, field_for}

-- a message but for the three
unfoldable pub calm : Message → Message
calm m =
    record {
      sequence = m.sequence;
      timestamp = m.timestamp;
      ssrc = m.ssrc;
      ptt = 0;
      squ = m.squ;
      id = 0;
      pm = m.pm;
      ptts = false;
      sct = m.sct;
      items = m.items;
    }

module _ (m : Message) (real-type : m.ptt ≤ 5) (real-id : m.id ≤ 63) where
  says : SaysOf (field_for m) m (items_for m)
  says = field_written m (items_for m) (omega (arith, real-type)) real-id

  field_calm : field_for m - placed 16 0 3 (ptt_type (field_for m)) - placed 16 4 6 (ptt_id (field_for m)) - placed 16 11 1 (ptts (field_for m)) ≡ field_for (calm m)
  unfolding calm
  field_calm = simp (says.ptt_is, says.id_is, says.ptts_is) (omega arith)

  pub blotted_calm : (ext : ℕ) (sound : List ℕ) → blotted (encode ext m sound) ≡ encode ext (calm m) sound
  unfolding blotted encode head_of words_of calm
  blotted_calm ext sound = simp (joined16 (field_for m) says.narrow, field_calm)
