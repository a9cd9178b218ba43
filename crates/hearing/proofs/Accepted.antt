-- What an accepted packet passed, by name, as seats' Accepted has it of the other calls.
use native.Mathlib.Omega.{arith}
use Prim.Native.Nat.{ℕ, ◌≤◌}
use mathlib.Core.Path.{◌≡◌}
use mathlib.Core.Bool.{true, false}
use mathlib.Core.List.{List}
use Rattle.base.specs.Order.{other_ssrc, late}
use Rattle.packet.specs.Packet.{field}
use Rattle.packet.specs.Refusals.{NoCase}
use Rattle.reader.specs.Reading.{message_of, items_here}
use Rattle.packet.specs.declared.message.Direction.TheVariants as direction
use Rattle.packet.proofs.Judged.{none_of_both}
use Rattle.reader.proofs.Passed.{Passed, passed, field_passed}
use Rattle.record.specs.Kind.{kind_of}
use Rattle.record.specs.Record.{no_such_seat, lesson}
use Rattle.seats.specs.Opening.{own_id, seat_refusals}
use Rattle.hearing.specs.Account.{totals_after, total_too_large}
use Rattle.hearing.specs.Hearing.{keying_barred, id_allowed, side_barred, message_in, message_refusals, packet_refusals}
use Rattle.record.specs.declared.setup.Setup.{Setup}
use Rattle.record.specs.declared.seat.Seat.{Seat}

pub record PacketAccepted (setup : Setup) (n : ℕ) (s : Seat) (p : List ℕ) : Type 0 where
  pub is_seat : no_such_seat n ≡ false
  pub was_open : s.opened ≡ true
  pub was_read : Passed direction.Tx setup.ext p
  pub same_ssrc : other_ssrc s.heard.any s.heard.ssrc (message_in p).ssrc ≡ false
  pub not_late : late s.heard.any s.heard.sequence (message_in p).sequence ≡ false
  pub may_key_lem : keying_barred (lesson setup n) s.call (message_in p) ≡ false
  pub id_allowed_lem : id_allowed (own_id n s.call) (message_in p) ≡ true
  pub may_ask_side : side_barred (lesson setup n) (kind_of setup.kind) (message_in p) ≡ false
  pub total_fits : total_too_large (totals_after s (message_in p)) ≡ false

pub packet_accepted : (setup : Setup) (n : ℕ) (s : Seat) (p : List ℕ) → NoCase (packet_refusals setup n s p) → PacketAccepted setup n s p
unfolding packet_refusals message_refusals seat_refusals
packet_accepted setup n s p none = grind (arith, none_of_both, passed)

-- "6 and 7 are reserved and refused"
pub type_known : (ext : ℕ) (p : List ℕ) → Passed direction.Tx ext p → (message_in p).ptt ≤ 5
unfolding message_of items_here
type_known ext p read = (field_passed direction.Tx (field p) read.field_allowed_lem).type_known
