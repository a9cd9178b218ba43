-- Second witness of `packet` (payload), `reader` (read): 01, The packet: where each field of an accepted packet stands, in plain numbers
-- over its bytes. "Bit 0 is the most significant bit of a byte; numbers are big-endian." (Its items: LaidOut. Which packets are accepted:
-- Unreadable.)
use Rattle.std.specs.Prelude.{ℕ, ◌+◌, ◌*◌, ◌/◌, ◌%◌, ◌≡◌, true, List, ◌↔◌, drop}
use Rattle.base.specs.Bytes.{Bytes}
use Rattle.packet.specs.Packet.{payload}
use Rattle.packet.specs.Refusals.{accepted}
use Rattle.reader.specs.Reading.{read}
use Rattle.packet.specs.declared.message.Direction.{Direction}
use Rattle.packet.specs.declared.message.Message.{Message}
use Rattle.demands.specs.Unreadable.{byte, number, head_end, words_end}

pub record SaidBy (p : List ℕ) (m : Message) : Type 0 where
  -- "Then sequence (2 bytes), timestamp (4), SSRC (4)", from byte 2 on
  pub sequence : m.sequence ≡ number p 2
  pub timestamp : m.timestamp ≡ 65536 * number p 4 + number p 6
  pub ssrc : m.ssrc ≡ 65536 * number p 8 + number p 10
  -- "First two bytes of the words: PTT type 3 bits, SQU 1, ptt-id 6, PM 1, PTTS 1, then .. in RX SCT and two reserved bits, then X."
  pub ptt : m.ptt ≡ byte p (head_end p) / 32
  pub squ : (m.squ ≡ true) ↔ (byte p (head_end p) / 16 % 2 ≡ 1)
  pub id : m.id ≡ 4 * (byte p (head_end p) % 16) + byte p (head_end p + 1) / 64
  pub pm : (m.pm ≡ true) ↔ (byte p (head_end p + 1) / 32 % 2 ≡ 1)
  pub ptts : (m.ptts ≡ true) ↔ (byte p (head_end p + 1) / 16 % 2 ≡ 1)
  pub sct : (m.sct ≡ true) ↔ (byte p (head_end p + 1) / 8 % 2 ≡ 1)
  -- "The rest is payload"
  pub rest : payload p ≡ drop (words_end p) p

abbrev pub FieldsRead : Type 0
FieldsRead = (d : Direction) (ext : ℕ) (p : List ℕ) (m : Message) → Bytes p → read d ext p ≡ accepted m → SaidBy p m
