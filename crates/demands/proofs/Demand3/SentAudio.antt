-- Whether a packet's audio is sent, on a bench and on that bench without its lesson seats.
use native.Mathlib.Omega.{arith}
use Prim.Native.Nat.{ℕ, zero, suc}
use mathlib.Core.Path.{◌≡◌, refl, ap, ◌∙◌}
use mathlib.Core.Bool.{Bool, true, false, not, ◌&&◌, false≢true}
use mathlib.Core.List.{List, [], ◌∷◌}
use lib.Dec.{eqb}
use lib.ListN.{get_or, set}
use Rattle.packet.specs.Packet.{test, ptt_on}
use Rattle.packet.specs.declared.message.Tx.{Tx}
use Rattle.record.specs.Record.{no_such_seat, closed_seat, entry_of, seat_of, lesson}
use Rattle.air.specs.Air.{takes_part, keyings}
use Rattle.hearing.specs.Hearing.{message_in, field_heard, heard_seat, heard_bench, is_on_air, is_sent}
use Rattle.record.specs.declared.seat.Seat.{Seat}
use Rattle.record.specs.declared.whole.Bench.{Bench}
use Rattle.record.specs.declared.shown.Air.{Air}
use Rattle.demands.specs.Apart.{is_testing}
use Rattle.demands.proofs.Demand3.Blanking.{set_elsewhere}
use Rattle.hearing.proofs.Accepted.{PacketAccepted}
use Rattle.record.proofs.Seats.{lesson_flag, seat_of_place}
use Rattle.demands.proofs.Demand3.WithoutLessons.{low, live_seat, order_live}
use Rattle.demands.proofs.Demand3.LiveAir.{Up}
use Rattle.demands.proofs.Demand3.LessonSeats.{Held, held_heard}
use Rattle.demands.proofs.Demand3.BenchAir.{air_low}
use Rattle.demands.proofs.Demand3.LiveOnAir.{live_on_air}

-- ---- the seat after its packet

put_open : (l : List Seat) (k : ℕ) (s : Seat) → (get_or l k closed_seat).opened ≡ true → get_or (set l k s) k closed_seat ≡ s
put_open [] k s e = absurd (false≢true e)
put_open (x ∷ l) zero s e = refl
put_open (x ∷ l) (suc k) s e = put_open l k s e

pub seat_heard : (b : Bench) (n : ℕ) (p : List ℕ) → PacketAccepted b.setup n (seat_of b.seats n) p
    → seat_of (heard_bench b n (message_in p)).seats n ≡ heard_seat (seat_of b.seats n) (message_in p)
unfolding heard_bench
seat_heard b n p h = grind (arith, put_open, seat_of_place)

pub heard_low : (b : Bench) (n : ℕ) (m : Tx) → lesson b.setup n ≡ false → no_such_seat n ≡ false → heard_bench (low b) n m ≡ low (heard_bench b n m)
unfolding heard_bench low
heard_low b n m live real =
    simp (real, live_seat b.setup b.seats n live, set_elsewhere closed_seat, lesson_flag b.setup n real, live, order_live b.setup n)

-- ---- a live seat's packet

unkeyed : (part on is_test muted : Bool) → is_test && not muted ≡ false → part && (on && not muted) && is_test ≡ false
unkeyed part on is_test muted e = grind arith

not_testing : (healthy : Bool) (s : Seat) (m : Tx) → eqb m.ptt test && not m.pm ≡ false
    → takes_part healthy (heard_seat s m) && eqb (heard_seat s m).heard.field.ptt test ≡ false
unfolding takes_part heard_seat field_heard
not_testing healthy s m e = unkeyed (healthy && s.opened) (ptt_on m.ptt) (eqb m.ptt test) m.pm e

module _ (b : Bench) (n : ℕ) (p : List ℕ) (i : Held b) (live : lesson b.setup n ≡ false) (h : PacketAccepted b.setup n (seat_of b.seats n) p) where
  abbrev m : Tx
  m = message_in p

  low_sent : is_sent (low b) n m ≡ is_on_air (low (heard_bench b n m)) n
  unfolding is_sent
  low_sent = ap (λ (x : Bench). is_on_air x n) (heard_low b n m live h.is_seat)

  -- while a live keying above Test is up
  pub sent_same : Up (heard_bench b n m).setup (keyings (heard_bench b n m)) → is_sent (low b) n m ≡ is_sent b n m
  unfolding is_sent
  sent_same up = low_sent ∙ ap (λ (a : Air). entry_of false a.on n) (air_low (heard_bench b n m) (held_heard b n p h i) up)

  -- and at any time where it does not key Test
  not_test : eqb m.ptt test && not m.pm ≡ false → is_testing (heard_bench b n m) n ≡ false
  not_test other = grind (arith, not_testing, seat_heard)

  pub sent_not_test : eqb m.ptt test && not m.pm ≡ false → is_sent (low b) n m ≡ is_sent b n m
  unfolding is_sent
  sent_not_test other =
      low_sent ∙ (live_on_air (heard_bench b n m) (held_heard b n p h i) n (unfold heard_bench in live) (not_test other)).on
