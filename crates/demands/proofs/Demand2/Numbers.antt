-- Numbers written into bytes and bits, and read from them.
use Prim.Native.Nat.{ℕ, ◌+◌, ◌*◌, ◌/◌, ◌%◌, ◌<◌}
use mathlib.Core.Path.{◌≡◌}
use native.Mathlib.Omega.{arith}
use Rattle.packet.specs.Packet.{ptt_type, squ, ptt_id, pm, ptts, sct, x, reserved}
use Rattle.packet.specs.declared.message.Direction.TheVariants.{Tx, Rx}

pub joined16 : (n : ℕ) → n < 65536 → n / 256 % 256 * 256 + n % 256 ≡ n
joined16 n h = omega arith

pub joined32 : (n : ℕ) → n < 4294967296
    → (n / 65536 / 256 % 256 * 256 + n / 65536 % 256) * 65536 + (n / 256 % 256 * 256 + n % 256) ≡ n
joined32 n h = omega arith

-- what the bits of a field say
pub record FieldSays (f ptt squelch id muted summed several items : ℕ) : Type 0 where
  pub narrow : f < 65536
  pub ptt_is : ptt_type f ≡ ptt
  pub squ_is : squ f ≡ squelch
  pub id_is : ptt_id f ≡ id
  pub pm_is : pm f ≡ muted
  pub ptts_is : ptts f ≡ summed
  pub sct_is : sct f ≡ several
  pub x_is : x f ≡ items
  pub tx_reserved : reserved Tx f ≡ 4 * several
  pub rx_reserved : reserved Rx f ≡ 0

-- the bits of a field, each by its byte
pub record FieldBits (f high low : ℕ) : Type 0 where
  pub type_is : ptt_type f ≡ high / 32
  pub squ_is : squ f ≡ high / 16 % 2
  pub id_is : ptt_id f ≡ 4 * (high % 16) + low / 64
  pub pm_is : pm f ≡ low / 32 % 2
  pub ptts_is : ptts f ≡ low / 16 % 2
  pub sct_is : sct f ≡ low / 8 % 2
  pub reserved_tx : reserved Tx f ≡ low / 2 % 8
  pub reserved_rx : reserved Rx f ≡ low / 2 % 4
  pub x_is : x f ≡ low % 2

pub field_bits : (high low : ℕ) → high < 256 → low < 256 → FieldBits (high * 256 + low) high low
field_bits high low h l = omega arith
