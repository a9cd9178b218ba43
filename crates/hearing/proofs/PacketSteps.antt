-- The packet's call in steps: 13 and 14, then the reader's 1 to 12, then 19 to 23 and 33 of the message.
use Prim.Native.Nat.{ℕ}
use mathlib.Core.Path.{◌≡◌, refl, ap, sym, ◌∙◌}
use mathlib.Core.Bool.{true, false, not}
use mathlib.Core.List.{List, [], ◌++◌}
use Rattle.packet.specs.Refusals.{Case, NoCase, Answer, accepted, refused, judged, mapped}
use Rattle.packet.specs.Messages.{as_tx}
use Rattle.packet.specs.declared.message.Direction.TheVariants as direction
use Rattle.packet.specs.declared.message.Tx.{Tx}
use Rattle.packet.proofs.Judged.{and_then, judged_both, judged_mapped, meets_none, judged_split}
use Rattle.record.specs.Record.{no_such_seat, seat_of}
use Rattle.record.specs.declared.setup.Setup.{Setup}
use Rattle.record.specs.declared.seat.Seat.{Seat}
use Rattle.record.specs.declared.whole.Bench.{Bench}
use Rattle.reader.specs.Reading.{reader_refusals, message_of, read, read_tx}
use Rattle.seats.specs.Opening.{seat_refusals, seat_verdict}
use Rattle.hearing.specs.Account.{missing_before, totals_after, total_too_large}
use Rattle.hearing.specs.Hearing.{field_heard, message_in, message_refusals, packet_refusals, packet_said, heard_bench, same_field, is_sent, hearing}
use Rattle.hearing.specs.Pieces.{message_verdict, admitted}
use Rattle.hearing.specs.declared.hearing.Hearing.{Hearing}
use Rattle.hearing.proofs.Accepted.{PacketAccepted, packet_accepted}

-- ---- 13 and 14, then the reader's 1 to 12, then 19 to 23 and 33 of the message that was read

abbrev pub read_then : Answer Tx → (Tx → Answer Tx) → Answer Tx
read_then (accepted m) next = next m
read_then (refused n c) next = refused n c

-- a message that no case bars
abbrev pub unbarred : Setup → (n : ℕ) → Seat → Tx → Answer Tx
unbarred setup n s m = and_then (message_verdict setup n s m) (accepted m)

module _ (setup : Setup) (n : ℕ) (s : Seat) (p : List ℕ) where
  abbrev readers : List Case
  readers = reader_refusals direction.Tx setup.ext p

  after_reading : {A : Type 0} (f : Answer Tx → A) → f (read_tx setup.ext p) ≡ f (judged readers (message_in p))
  unfolding read_tx read
  after_reading f = ap f (judged_mapped as_tx readers (message_of p))

  read_on : (next : Tx → Answer Tx) → and_then (judged readers tt) (next (message_in p)) ≡ read_then (judged readers (message_in p)) next
  read_on next = judged_both (λ x y. and_then x (next (message_in p)) ≡ read_then y next) readers tt (message_in p) (λ n c. refl) (λ none. refl)

  pub admitted_in_steps : admitted setup n s p ≡ and_then (seat_verdict n s.opened) (read_then (read_tx setup.ext p) (unbarred setup n s))
  unfolding admitted packet_refusals seat_refusals message_refusals seat_verdict message_verdict
  admitted_in_steps =
      judged_split (seat_refusals n s.opened) (readers ++ message_refusals setup n s (message_in p)) (message_in p)
      ∙ ap (and_then (seat_verdict n s.opened))
      (judged_split readers (message_refusals setup n s (message_in p)) (message_in p)
      ∙ ap (and_then (judged readers tt)) (judged_split (message_refusals setup n s (message_in p)) [] (message_in p))
      ∙ read_on (unbarred setup n s)
      ∙ sym (after_reading (λ (x : Answer Tx). read_then x (unbarred setup n s))))

-- ---- the whole call

-- 13 is the first case
pub no_seat : (b : Bench) (n : ℕ) (p : List ℕ) → no_such_seat n ≡ true → packet_said b n p ≡ refused 13 0
unfolding packet_said packet_refusals seat_refusals
no_seat b n p e = simp e

-- what a message that was admitted is answered
abbrev pub answered : Bench → (n : ℕ) → Tx → Hearing
answered b n m =
    record {
      missing = missing_before (seat_of b.seats n).heard m;
      reply = not (same_field (seat_of b.seats n).heard.field (field_heard m));
      standby = (heard_bench b n m).standby;
      sent = is_sent b n m;
    }

pub said_of_admitted : (b : Bench) (n : ℕ) (p : List ℕ) → packet_said b n p ≡ mapped (answered b n) (admitted b.setup n (seat_of b.seats n) p)
unfolding packet_said hearing admitted
said_of_admitted b n p = sym (judged_mapped (answered b n) (packet_refusals b.setup n (seat_of b.seats n) p) (message_in p))

-- what was admitted is the packet's message
pub admitted_message : (setup : Setup) (n : ℕ) (s : Seat) (p : List ℕ) → admitted setup n s p ≡ mapped (λ (m : Tx). message_in p) (admitted setup n s p)
unfolding admitted
admitted_message setup n s p = sym (judged_mapped (λ (m : Tx). message_in p) (packet_refusals setup n s p) (message_in p))

-- a message that was admitted passed every test
module _ (b : Bench) (n : ℕ) (p : List ℕ) (m : Tx) (e : accepted m ≡ admitted b.setup n (seat_of b.seats n) p) where
  met : NoCase (packet_refusals b.setup n (seat_of b.seats n) p) × (message_in p ≡ m)
  unfolding admitted
  met = meets_none (packet_refusals b.setup n (seat_of b.seats n) p) (message_in p) m (sym e)

  taken : PacketAccepted b.setup n (seat_of b.seats n) p
  taken = packet_accepted b.setup n (seat_of b.seats n) p met.0

  says : message_in p ≡ m
  says = met.1

  pub total_passed : total_too_large (totals_after (seat_of b.seats n) m) ≡ false
  total_passed = rw (sym says) taken.total_fits
