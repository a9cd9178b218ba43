-- What every bench of a run has: lesson seats hold off or Test and are no Coupling seats, and each seat stands in the order. Kept says
-- more, but of calls whose numbers fit alone; demand 3 is of every call.
use Prim.Native.Nat.{ℕ, ◌-◌, ◌≤◌}
use mathlib.Core.Path.{◌≡◌, refl, sym, ap, ◌∙◌}
use mathlib.Core.Bool.{Bool, true, false}
use mathlib.Core.List.{List, map}
use native.Mathlib.Omega.{arith}
use lib.ListN.{get_or, get_or-map}
use Rattle.packet.specs.Refusals.{NoCase}
use Rattle.packet.specs.declared.message.Tx.{Tx}
use Rattle.record.specs.Record.{seat_numbers, no_such_seat, closed_seat, opened_seat, seat_of, lesson, fresh_bench, with_seats, with_entry}
use Rattle.seats.specs.Opening.{holds_coupling, opened_bench, closed_bench}
use Rattle.seats.specs.Ticking.{ticked_seat, ticked_bench}
use Rattle.air.specs.Air.{rank, among, aired}
use Rattle.hearing.specs.Hearing.{keying_barred, message_in, heard_seat, field_heard, heard_bench}
use Rattle.reporting.specs.Reporting.{reported_bench}
use Rattle.sending.specs.Sending.{sent_bench}
use Rattle.bench.specs.Step.{Call, opening, closing, packet, tick, report, received, transmitter, side, totals, keeping}
use Rattle.record.specs.declared.setup.Setup.{Setup}
use Rattle.record.specs.declared.seat.Seat.{Seat}
use Rattle.record.specs.declared.whole.Bench.{Bench}
use Rattle.seats.specs.declared.opening.Request.{Request}
use Rattle.base.proofs.Places.{set_cases, all_alike}
use Rattle.seats.proofs.TickingLaws.{ticked_cases}
use Rattle.seats.proofs.Accepted.{OpenAccepted, open_accepted}
use Rattle.hearing.proofs.Accepted.{PacketAccepted, packet_accepted}
use Rattle.demands.specs.ExactCalls.{refusals_of}
use Rattle.demands.proofs.Demand1.Calls.{bench_after, after_call}
use Rattle.air.proofs.OrderCounts.{among_after}
use Rattle.record.proofs.Seats.{put_cases, each_seat, lesson_flag, seat_of_place}

abbrev pub Meek : Seat → Type 0
Meek s = (rank s.heard.field.ptt ≤ 1) × (holds_coupling s ≡ false)

pub record Held (b : Bench) : Type 0 where
  -- by place; a place past the seats counts as closed
  pub meek : (k : ℕ) → get_or b.setup.lesson k false ≡ true → Meek (get_or b.seats k closed_seat)
  pub placed : (n : ℕ) → no_such_seat n ≡ false → among b.order n ≡ true

-- "lesson seat with PTT on other than Test"
test_at_most : (m : Tx) (call : ℕ) → keying_barred true call m ≡ false → rank m.ptt ≤ 1
unfolding keying_barred
test_at_most m call h = grind arith

-- ---- seats

meek_closed : Meek closed_seat
meek_closed = (omega arith, refl)

meek_put : (flags : List Bool) (seats : List Seat) (n : ℕ) (s : Seat) → ((j : ℕ) → get_or flags j false ≡ true → Meek (get_or seats j closed_seat))
    → (get_or flags (n - 1) false ≡ true → Meek s) → (j : ℕ) → get_or flags j false ≡ true → Meek (get_or (with_entry seats n s) j closed_seat)
meek_put flags seats n s old new j e =
    put_cases seats n (λ l. Meek (get_or l j closed_seat)) s (old j e)
    (set_cases closed_seat Meek seats (n - 1) j s (old j e) (λ q. new (ap (λ (i : ℕ). get_or flags i false) (sym q) ∙ e)))

meek_ticked : (ms : ℕ) (s : Seat) → Meek s → Meek (ticked_seat ms s)
meek_ticked ms s h = ticked_cases Meek ms s meek_closed (λ e younger. h) h

-- ---- calls

held_seats : (b : Bench) (seats : List Seat) → Held b → ((k : ℕ) → get_or b.setup.lesson k false ≡ true → Meek (get_or seats k closed_seat))
    → Held (with_seats b seats)
held_seats b seats i h = record { meek = h; placed = i.placed }

held_opened : (b : Bench) (n : ℕ) (r : Request) → OpenAccepted b.setup n b.seats r → Held b → Held (opened_bench b n r)
unfolding opened_bench opened_seat
held_opened b n r h i =
    record {
      meek = meek_put b.setup.lesson b.seats n _ i.meek (λ e. (omega arith, h.lesson_not_coupling (sym (lesson_flag b.setup n h.is_seat) ∙ e)));
      placed = i.placed;
    }

pub held_heard : (b : Bench) (n : ℕ) (p : List ℕ) → PacketAccepted b.setup n (seat_of b.seats n) p → Held b → Held (heard_bench b n (message_in p))
unfolding heard_bench heard_seat field_heard
held_heard b n p h i =
    record {
      meek = meek_put b.setup.lesson b.seats n _ i.meek (λ e. (calm (sym (lesson_flag b.setup n h.is_seat) ∙ e), uncoupled e));
      placed = λ j real. among_after n j _ _ b.order ∙ i.placed j real;
    }
  where
    uncoupled : get_or b.setup.lesson (n - 1) false ≡ true → holds_coupling (seat_of b.seats n) ≡ false
    uncoupled e = rw (seat_of_place b.seats n h.is_seat) (i.meek (n - 1) e).1

    calm : lesson b.setup n ≡ true → rank (message_in p).ptt ≤ 1
    calm e = test_at_most (message_in p) (seat_of b.seats n).call (rw e at h.may_key_lem)

pub held_ticked : (b : Bench) (ms : ℕ) → Held b → Held (ticked_bench b ms)
unfolding ticked_bench
held_ticked b ms i = held_seats b _ i (λ k e. ticked k (i.meek k e))
  where
    ticked : (k : ℕ) → Meek (get_or b.seats k closed_seat) → Meek (get_or (map (ticked_seat ms) b.seats) k closed_seat)
    ticked k h = unfold ticked_seat in rw (get_or-map (ticked_seat ms) b.seats k closed_seat) (meek_ticked ms (get_or b.seats k closed_seat) h)

-- the air of the record has no part in it
pub held_aired : (b : Bench) → Held b → Held (aired b)
held_aired b i = record { meek = i.meek; placed = i.placed }

held_made : (b : Bench) (c : Call) → Held b → NoCase (refusals_of b c) → Held (bench_after b c)
held_made b (opening n r) i none = held_aired _ (held_opened b n r (open_accepted b.setup n b.seats r none) i)
held_made b (closing n) i none =
    unfold closed_bench in held_aired _ (held_seats b _ i (meek_put b.setup.lesson b.seats n closed_seat i.meek (λ e. meek_closed)))
held_made b (packet n p) i none = held_aired _ (held_heard b n p (packet_accepted b.setup n (seat_of b.seats n) p none) i)
held_made b (tick ms timestamp room) i none = let h = held_ticked b ms i in unfold sent_bench in record { meek = h.meek; placed = h.placed }
held_made b (report n timestamp sound room) i none = unfold reported_bench in record { meek = i.meek; placed = i.placed }
held_made b (received signals level) i none = record { meek = i.meek; placed = i.placed }
held_made b (transmitter healthy) i none = record { meek = i.meek; placed = i.placed }
held_made b (side standby) i none = record { meek = i.meek; placed = i.placed }
held_made b (totals n) i none = i

pub held_call : (b : Bench) (c : Call) → Held b → Held (keeping b c).bench
held_call b c i = after_call Held b c i (held_made b c i)

-- ---- the start

all_placed : (n : ℕ) → no_such_seat n ≡ false → among seat_numbers n ≡ true
unfolding among
all_placed = each_seat (λ n. among seat_numbers n ≡ true) (refl, refl, refl, refl, refl, refl, refl, refl)

pub held_fresh : (setup : Setup) → Held (fresh_bench setup)
unfolding fresh_bench
held_fresh setup = record { meek = λ k e. rw (all_alike closed_seat 8 k) meek_closed; placed = all_placed }
