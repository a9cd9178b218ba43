-- 01: "Packet for a seat." What it refuses, what it answers, and what the bench is after it.
use Rattle.std.specs.Prelude.{ℕ, ◌*◌, min, Bool, true, false, cond, not, ◌&&◌, ◌||◌, List, [], ◌∷◌, ◌++◌, eqb, length, Option, None, Some}
use Rattle.std.specs.Bool.{beq}
use Rattle.base.specs.Order.{other_ssrc, late}
use Rattle.packet.specs.Packet.{payload, payload_at, coupling, test, ptt_on}
use Rattle.packet.specs.Refusals.{Case, ◌if◌, Answer, accepted, refused, judged}
use Rattle.reader.specs.Reading.{reader_refusals, message_of}
use Rattle.packet.specs.declared.message.Direction.TheVariants as direction
use Rattle.packet.specs.declared.message.Tx.{Tx}
use Rattle.packet.specs.Messages.{as_tx}
use Rattle.packet.specs.declared.message.Side.TheVariants.{Main, Standby}
use Rattle.packet.specs.declared.message.Side.{Side}
use Rattle.record.specs.Kind.{kind_of, item_barred, items_move_side}
use Rattle.record.specs.Record.{entry_of, seat_of, lesson, with_seat, with_order, with_side}
use Rattle.seats.specs.Opening.{is_tx_rx, may_key, own_id, seat_refusals}
use Rattle.air.specs.Air.{bench_air}
use Rattle.air.specs.Order.{order_after}
use Rattle.record.specs.declared.kind.Kind.{Kind}
use Rattle.record.specs.declared.setup.Setup.{Setup}
use Rattle.record.specs.declared.seat.Field.{Field}
use Rattle.record.specs.declared.seat.Heard.{Heard}
use Rattle.record.specs.declared.seat.Seat.{Seat}
use Rattle.record.specs.declared.whole.Bench.{Bench}
use Rattle.hearing.specs.Account.{missing_before, totals_after, total_too_large}
use Rattle.hearing.specs.declared.hearing.Hearing.{Hearing}

-- What a seat keeps of a message: its field with its items.
abbrev pub has_delay : Option ℕ → Bool
has_delay None = false
has_delay (Some v) = true

abbrev pub delay_of : Option ℕ → ℕ
delay_of None = 0
delay_of (Some v) = v

abbrev pub has_side : Option Side → Bool
has_side None = false
has_side (Some i) = true

abbrev pub is_standby : Option Side → Bool
is_standby None = false
is_standby (Some Main) = false
is_standby (Some Standby) = true

unfoldable pub field_heard : Tx → Field
field_heard m =
    record {
      ptt = m.ptt;
      id = m.id;
      pm = m.pm;
      ptts = m.ptts;
      delayed = has_delay m.climax;
      delay = delay_of m.climax;
      sided = has_side m.side;
      standby = is_standby m.side;
    }

abbrev pub heard_of : Tx → Heard
heard_of m = record { any = true; ssrc = m.ssrc; sequence = m.sequence; field = field_heard m }

-- "21 | PTT on for Idle or Rxonly; Coupling PTT for TxRx; lesson seat with PTT on other than Test"
unfoldable pub keying_barred : (is_lesson : Bool) (call : ℕ) → Tx → Bool
keying_barred is_lesson call m =
    (ptt_on m.ptt && not (may_key call)) || (eqb m.ptt coupling && is_tx_rx call) || (is_lesson && ptt_on m.ptt && not (eqb m.ptt test))

-- "22 | ptt-id not the seat's own; with PTT off 0 also passes"
unfoldable pub id_allowed : (own : ℕ) → Tx → Bool
id_allowed own m = eqb m.id own || (not (ptt_on m.ptt) && eqb m.id 0)

-- "23 | main/standby item .. on a single radio; main/standby item from a lesson seat"; 02, request 10: "23 also for an item of 1 here; a lesson
-- seat's item is still refused"
unfoldable pub side_barred : (is_lesson : Bool) → Kind → Tx → Bool
side_barred is_lesson kind m = item_barred kind m.side || (is_lesson && has_side m.side)

abbrev pub message_in : List ℕ → Tx
message_in p = as_tx (message_of p)

-- 19 to 23, of a message that was read; 02, request 14: "33, after 23, if heard plus missing would pass 4,000,000,000"
unfoldable pub message_refusals : Setup → (n : ℕ) → Seat → Tx → List Case
message_refusals setup n s m =
    19 if other_ssrc s.heard.any s.heard.ssrc m.ssrc
    ∷ 20 if late s.heard.any s.heard.sequence m.sequence
    ∷ 21 if keying_barred (lesson setup n) s.call m
    ∷ 22 if not (id_allowed (own_id n s.call) m)
    ∷ 23 if side_barred (lesson setup n) (kind_of setup.kind) m
    ∷ 33 if total_too_large (totals_after s m)
    ∷ []

-- "Packet 13, 14, 1 to 12, 19 to 23." (And 33.)
unfoldable pub packet_refusals : Setup → (n : ℕ) → Seat → List ℕ → List Case
packet_refusals setup n s p =
    seat_refusals n s.opened ++ reader_refusals direction.Tx setup.ext p ++ message_refusals setup n s (message_in p)

-- "Opening and each accepted packet set a seat's time left to period times multiplier ms." (A packet, here.)
unfoldable pub heard_seat : Seat → Tx → Seat
heard_seat s m =
    record {
      opened = s.opened;
      call = s.call;
      period = s.period;
      multiplier = s.multiplier;
      left = s.period * s.multiplier;
      phase = s.phase;
      ssrc = s.ssrc;
      heard = heard_of m;
      totals = totals_after s m;
    }

-- "A main/standby item takes effect, setting the side in use, only where that seat's previous accepted packet carried the
-- other value or no such item. Repeats do nothing."
unfoldable pub takes_effect : (old new : Field) → Bool
takes_effect old new = new.sided && not (old.sided && beq old.standby new.standby)

-- 02, request 10: "An item of 0 is accepted and moves nothing"
unfoldable pub side_after : Kind → (old new : Field) → (in_use : Bool) → Bool
side_after kind old new in_use = cond (items_move_side kind && takes_effect old new) new.standby in_use

-- The bench after an accepted message: its seat, the order of keyings, and the side in use.
unfoldable pub heard_bench : Bench → (n : ℕ) → Tx → Bench
heard_bench b n m =
    let before = seat_of b.seats n in
    let old = before.heard.field in
    with_side
    (with_order (with_seat b n (heard_seat before m)) (order_after n old (field_heard m) b.order))
    (side_after (kind_of b.setup.kind) old (field_heard m) b.standby)

-- "Reply now exactly when the field with its items differs in meaning from the seat's previous accepted one."
unfoldable pub same_field : (old new : Field) → Bool
same_field old new =
    eqb old.ptt new.ptt && eqb old.id new.id && beq old.pm new.pm && beq old.ptts new.ptts
    && beq old.delayed new.delayed && eqb old.delay new.delay
    && beq old.sided new.sided && beq old.standby new.standby

abbrev pub is_on_air : Bench → (n : ℕ) → Bool
is_on_air b n = entry_of false (bench_air b).on n

-- "An accepted audio packet's payload is sent, to the side in use, exactly if its seat is on the air after it."
unfoldable pub is_sent : Bench → (n : ℕ) → Tx → Bool
is_sent b n m = is_on_air (heard_bench b n m) n

-- "Accepted, it answers: packets missing before it, whether to reply now, the side in use after it, and the audio to send"
-- (here whether it is sent; audio_in is the audio)
unfoldable pub hearing : Bench → (n : ℕ) → List ℕ → Hearing
hearing b n p =
    let m = message_in p in
    let before = (seat_of b.seats n).heard in
    record {
      missing = missing_before before m;
      reply = not (same_field before.field (field_heard m));
      standby = (heard_bench b n m).standby;
      sent = is_sent b n m;
    }

unfoldable pub packet_said : Bench → (n : ℕ) → List ℕ → Answer Hearing
packet_said b n p = judged (packet_refusals b.setup n (seat_of b.seats n) p) (hearing b n p)

-- ".. which is the payload inside the caller's own packet, or an empty part": "the audio answer is a part of the lent packet, empty when
-- the seat is not on the air."
abbrev pub audio_in : Answer Hearing → List ℕ → List ℕ
audio_in (accepted h) p = cond h.sent (payload p) []
audio_in (refused n c) p = []

-- where that part begins in the packet: behind the words if it is sent (at the end where they reach past it), else at the beginning
abbrev pub audio_at : Answer Hearing → List ℕ → ℕ
audio_at (accepted h) p = cond h.sent (min (payload_at p) (length p)) 0
audio_at (refused n c) p = 0
