-- What the writer puts together for a message that it accepts, part by part.
use Prim.Native.Nat.{ℕ, ◌<◌, ◌≤◌}
use mathlib.Core.Path.{◌≡◌}
use mathlib.Core.Bool.{true, ◌||◌}
use mathlib.Core.List.{List}
use native.Mathlib.Omega.{arith}
use lib.Seq.{take_at}
use lib.Dec.{eqb}
use Rattle.base.specs.Bytes.{bit}
use Rattle.packet.specs.Packet.{audio_length, payload_allowed, ptt_allowed, field_allowed}
use Rattle.packet.specs.Items.{Item, some_item}
use Rattle.writer.specs.Writing.{rising_items, field_of, kind_for, sqi_writable, climax_writable, audio_writable, writable, writer_refusals, write, buffered}
use Rattle.packet.specs.declared.message.Direction.{Direction}
use Rattle.packet.specs.declared.message.Message.{Message}
use Rattle.demands.specs.RoundTrip.{WrittenAtFront}
use Rattle.demands.specs.LaidOut.{SaidInField}
use Rattle.demands.proofs.Demand2.Numbers.{FieldSays}

pub record Writable (m : Message) (n : ℕ) : Type 0 where
  pub ptt : m.ptt ≤ 5
  pub id : m.id ≤ 63
  pub sqi : sqi_writable m.items.sqi ≡ true
  pub climax : climax_writable m.items.climax ≡ true
  pub sound : (eqb n 0 || audio_length n) ≡ true

pub writable_is : (m : Message) (n : ℕ) → writable m n ≡ true → Writable m n
unfolding writable
writable_is m n e = grind arith

-- ---- the field

-- what is written as the field
abbrev pub SaysOf : ℕ → Message → List Item → Type 0
SaysOf f m is = FieldSays f m.ptt (bit m.squ) m.id (bit m.pm) (bit m.ptts) (bit m.sct) (bit (some_item is))

pub field_written : (m : Message) (is : List Item) → m.ptt ≤ 7 → m.id ≤ 63 → SaysOf (field_of m is) m is
field_written m is hp hi = grind arith

-- it breaks a rule by its PTT type alone
pub field_by_type : (d : Direction) (f : ℕ) (m : Message) (is : List Item) → SaysOf f m is → SaidInField d m → field_allowed d f ≡ ptt_allowed m.ptt
unfolding field_allowed
field_by_type d f m is h s = grind arith

-- whichever items X speaks of
pub allowed_alike : (d : Direction) (f g : ℕ) (m : Message) (is js : List Item) → SaysOf f m is → SaysOf g m js → field_allowed d f ≡ field_allowed d g
unfolding field_allowed
allowed_alike d f g m is js h k = grind arith

-- ---- the kind

pub kind_allowed : (n : ℕ) → (eqb (kind_for n) 8 || eqb (kind_for n) 123) ≡ true
kind_allowed n = grind arith

pub kind_narrow : (n : ℕ) → kind_for n < 128
kind_narrow n = grind arith

pub sound_allowed : (n : ℕ) → payload_allowed (kind_for n) n ≡ audio_writable n
unfolding payload_allowed
sound_allowed n = grind arith

-- ---- its items and its field

abbrev pub items_for : Message → List Item
items_for m = rising_items m.items

abbrev pub field_for : Message → ℕ
field_for m = field_of m (items_for m)

-- ---- the buffer

pub written_at_front : WrittenAtFront
unfolding write writer_refusals buffered
written_at_front ext m sound buffer n e = grind (arith, take_at)
