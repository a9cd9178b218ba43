-- When a packet is turned away, and what it answers and leaves, in 01's words.
use Prim.Native.Nat.{ℕ, ◌≤◌}
use mathlib.Core.Path.{◌≡◌, refl, sym, ap, subst, ◌∙◌}
use mathlib.Core.Bool.{true}
use mathlib.Core.List.{List, ◌++◌}
use native.Mathlib.Omega.{arith}
use lib.ListN.{length}
use Rattle.base.specs.Bytes.{Bytes}
use Rattle.packet.specs.Refusals.{Case, NoCase, accepted}
use Rattle.packet.specs.InWords.{TurnedAway}
use Rattle.packet.proofs.Judged.{judged_mapped, meets_none, accepts, none_of_both}
use Rattle.packet.proofs.InWords.{Agree, agree_both, agree_alike}
use Rattle.reader.specs.Reading.{reader_refusals, message_of, read, read_tx}
use Rattle.reader.proofs.Passed.{passed}
use Rattle.packet.specs.declared.message.Direction.TheVariants as direction
use Rattle.packet.specs.declared.message.Tx.{Tx}
use Rattle.packet.specs.Messages.{as_tx}
use Rattle.record.specs.Record.{seat_of}
use Rattle.seats.specs.Opening.{seat_refusals}
use Rattle.seats.specs.Ticking.{ticked_seat}
use Rattle.seats.specs.InWords.{SeatBarred}
use Rattle.seats.proofs.InWords.{seat_agrees, seat_range}
use Rattle.hearing.specs.Hearing.{message_in, message_refusals, packet_refusals, hearing, heard_bench}
use Rattle.hearing.specs.InWords.{MessageBarred, Heeded}
use Rattle.air.specs.Air.{aired}
use Rattle.hearing.proofs.Accepted.{packet_accepted, type_known}
use Rattle.hearing.proofs.InWords.{message_agrees, message_range}
use Rattle.hearing.proofs.HeededInWords.{heeded}
use Rattle.bench.specs.Step.{Call, opening, packet, heard, keeping}
use Rattle.record.specs.declared.seat.Seat.{Seat}
use Rattle.record.specs.declared.whole.Bench.{Bench}
use Rattle.seats.specs.declared.opening.Request.{Request}
use Rattle.hearing.specs.declared.hearing.Hearing.{Hearing}
use Rattle.demands.specs.ExactCalls.{refusals_of}
use Rattle.demands.specs.ExactAll.{packet_order}
use Rattle.demands.specs.SeatAfter.{seat_after}
use Rattle.demands.specs.Unreadable.{Unreadable}
use Rattle.demands.specs.PacketTells.{PacketBarred, its_seat, its_bytes, its_message, PacketTells}
use Rattle.demands.proofs.Demand1.Calls.{was_accepted_lem, after_call, accepted_bench}
use Rattle.demands.proofs.Demand2.Unreadable.{reader_agrees, reader_range}
use Rattle.demands.proofs.Bench.SeatAfter.{seat_after_lem}
use Rattle.demands.proofs.Bench.Limits.{of_call}

-- ---- the bytes that are read

is_read : (ext : ℕ) (p : List ℕ) → NoCase (reader_refusals direction.Tx ext p) → read_tx ext p ≡ accepted (message_in p)
unfolding read_tx read
is_read ext p clear = judged_mapped as_tx (reader_refusals direction.Tx ext p) (message_of p) ∙ accepts (message_in p) (reader_refusals direction.Tx ext p) clear

pub reads : (ext : ℕ) (p : List ℕ) (m : Tx) → read_tx ext p ≡ accepted m → NoCase (reader_refusals direction.Tx ext p) × (message_in p ≡ m)
unfolding read_tx read
reads ext p m e = meets_none (reader_refusals direction.Tx ext p) (message_in p) m (sym (judged_mapped as_tx (reader_refusals direction.Tx ext p) (message_of p)) ∙ e)

-- ---- who is turned away

module _ (b : Bench) (n : ℕ) (p : List ℕ) (small : Bytes p) where
  abbrev Barred : (number cause : ℕ) → Type 0
  Barred = PacketBarred b n p

  abbrev reader : List Case
  reader = reader_refusals direction.Tx b.setup.ext p

  abbrev message : List Case
  message = message_refusals b.setup n (seat_of b.seats n) (message_in p)

  by_seat : Agree Barred (seat_refusals n (seat_of b.seats n).opened)
  unfolding seat_refusals
  by_seat = agree_alike 13 14 (seat_refusals n (seat_of b.seats n).opened) refl (λ k c. its_seat) from (seat_agrees b n)
    where
      from : (k c : ℕ) → 13 ≤ k → k ≤ 14 → Barred k c → SeatBarred b n k c
      from k c low high (its_seat s) = s
      from k c low high (its_bytes u) = absurd (let r = reader_range u in omega arith)
      from k c low high (its_message m e x) = absurd (let r = message_range b.setup n (seat_of b.seats n) m x in omega arith)

  by_bytes : Agree Barred reader
  unfolding reader_refusals
  by_bytes = agree_alike 1 12 reader refl (λ k c. its_bytes) from (reader_agrees direction.Tx b.setup.ext p small)
    where
      from : (k c : ℕ) → 1 ≤ k → k ≤ 12 → Barred k c → Unreadable direction.Tx b.setup.ext p k c
      from k c low high (its_seat s) = absurd (let r = seat_range b n s in omega arith)
      from k c low high (its_bytes u) = u
      from k c low high (its_message m e x) = absurd (let r = message_range b.setup n (seat_of b.seats n) m x in omega arith)

  by_message : NoCase reader → Agree Barred message
  unfolding message_refusals
  by_message clear = agree_alike 19 33 message refl (λ k c. its_message (message_in p) (is_read b.setup.ext p clear)) from (message_agrees b.setup n (seat_of b.seats n) (message_in p) known)
    where
      known : (message_in p).ptt ≤ 5
      known = type_known b.setup.ext p (passed direction.Tx b.setup.ext p clear)

      from : (k c : ℕ) → 19 ≤ k → k ≤ 33 → Barred k c → MessageBarred b.setup n (seat_of b.seats n) (message_in p) k c
      from k c low high (its_seat s) = absurd (let r = seat_range b n s in omega arith)
      from k c low high (its_bytes u) = absurd (let r = reader_range u in omega arith)
      from k c low high (its_message m e x) = subst (λ (y : Tx). MessageBarred b.setup n (seat_of b.seats n) y k c) (sym (reads b.setup.ext p m e).1) x

  turned : TurnedAway (PacketBarred b n p) packet_order (keeping b (packet n p)).answer
  unfolding packet_refusals seat_refusals reader_refusals message_refusals
  turned =
      of_call (PacketBarred b n p) b (packet n p)
      (agree_both Barred (seat_refusals n (seat_of b.seats n).opened) (reader ++ message) by_seat (λ clear. agree_both Barred reader message by_bytes by_message))

-- ---- what an accepted one answers and leaves

module _ (b : Bench) (n : ℕ) (p : List ℕ) (h : Hearing) (sound : List ℕ) (eight : length b.seats ≡ 8) (e : (keeping b (packet n p)).answer ≡ accepted (heard h sound)) where
  clear : NoCase (refusals_of b (packet n p))
  clear = (was_accepted_lem b (packet n p) (heard h sound) e).0

  was_read : read_tx b.setup.ext p ≡ accepted (message_in p)
  unfolding packet_refusals seat_refusals
  was_read = grind (arith, clear, is_read, none_of_both)

  is_heeded : Heeded b n (message_in p) h (keeping b (packet n p)).bench
  is_heeded =
      let passed = packet_accepted b.setup n (seat_of b.seats n) p clear in
      let answer : hearing b n p ≡ h = cc (was_accepted_lem b (packet n p) (heard h sound) e).1 in
      let left = heeded b n p eight passed.is_seat passed.not_late in
      subst (λ (x : Bench). Heeded b n (message_in p) h x) (sym (accepted_bench b (packet n p) clear)) (subst (λ (x : Hearing). Heeded b n (message_in p) x (aired (heard_bench b n (message_in p)))) answer left)

-- ---- what a seat has heard

module _ (n : ℕ) (s : Seat) where
  abbrev Kept : Seat → Type 0
  Kept next = next.opened ≡ true → (next.heard ≡ s.heard) × (next.totals ≡ s.totals)

  ticked_keeps : (ms : ℕ) → Kept (ticked_seat ms s)
  unfolding ticked_seat
  ticked_keeps ms = grind arith

  call_keeps : (c : Call) → ((p : List ℕ) → c ≡ packet n p → ⊥) → ((r : Request) → c ≡ opening n r → ⊥) → Kept (seat_after c n s)
  call_keeps c no-packet no_opening = grind (arith, ticked_keeps)

heard_stays : (b : Bench) (c : Call) (n : ℕ) → length b.seats ≡ 8 → ((p : List ℕ) → c ≡ packet n p → ⊥) → ((r : Request) → c ≡ opening n r → ⊥)
    → Kept n (seat_of b.seats n) (seat_of (keeping b c).bench.seats n)
heard_stays b c n eight no-packet no_opening =
    after_call (λ (x : Bench). Kept n (seat_of b.seats n) (seat_of x.seats n)) b c (λ up. (refl, refl))
    (λ clear.
    subst (Kept n (seat_of b.seats n)) (sym (ap (λ (x : Bench). seat_of x.seats n) (sym (accepted_bench b c clear)) ∙ seat_after_lem b c eight clear n))
    (call_keeps n (seat_of b.seats n) c no-packet no_opening))

pub packet_tells : PacketTells
packet_tells =
    record {
      turned_away = turned;
      heeded = λ b n p h sound eight e. (message_in p, was_read b n p h sound eight e, is_heeded b n p h sound eight e);
      heard_stays = heard_stays;
    }
