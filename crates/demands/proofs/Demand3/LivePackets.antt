-- A packet for a live seat, on a bench and on that bench without its lesson seats; and one for a lesson seat.
use Prim.Native.Nat.{ℕ}
use mathlib.Core.Path.{◌≡◌, refl, sym, ap, ◌∙◌}
use mathlib.Core.Bool.{Bool, true, false, cond, not, ◌&&◌}
use mathlib.Core.List.{List, []}
use lib.Dec.{eqb}
use Rattle.packet.specs.Packet.{payload, test}
use Rattle.packet.specs.Refusals.{NoCase, accepted, mapped}
use Rattle.record.specs.Record.{seat_of, seat_numbers, lesson, settled}
use Rattle.air.specs.Air.{keyings, air_of, bench_air, aired}
use Rattle.hearing.specs.Hearing.{message_in, message_refusals, packet_refusals, heard_bench, is_sent, hearing, packet_said}
use Rattle.bench.specs.Step.{packet, told, does, step, keeping}
use Rattle.record.specs.declared.whole.Bench.{Bench}
use Rattle.demands.specs.Apart.{keys_test, live_above_test, fixed, audio_sent}
use Rattle.packet.proofs.Judged.{judged_one}
use Rattle.hearing.proofs.Accepted.{PacketAccepted, packet_accepted}
use Rattle.demands.proofs.Demand3.WithoutLessons.{low, low_aired, seat_low}
use Rattle.demands.proofs.Demand3.LiveAir.{Up, lesson_off_air}
use Rattle.demands.proofs.Demand3.LessonSeats.{Held, held_heard}
use Rattle.demands.proofs.Demand3.BenchAir.{keyings_test_at_most, above_aired, up_is}
use Rattle.demands.proofs.Demand3.LiveOnAir.{off_marks}
use Rattle.demands.proofs.Demand3.SentAudio.{heard_low, sent_same, sent_not_test}
use Rattle.demands.proofs.Demand3.LiveCalls.{Match, match_judged}

module _ (b : Bench) (n : ℕ) (p : List ℕ) (i : Held b) (live : lesson b.setup n ≡ false) where
  refusals_low : packet_refusals (low b).setup n (seat_of (low b).seats n) p ≡ packet_refusals b.setup n (seat_of b.seats n) p
  unfolding packet_refusals message_refusals
  refusals_low = simp (seat_low b n live) (unfold low in refl)

  module _ (h : NoCase (packet_refusals b.setup n (seat_of b.seats n) p)) where
    passed : PacketAccepted b.setup n (seat_of b.seats n) p
    passed = packet_accepted b.setup n (seat_of b.seats n) p h

    up_next : live_above_test (heard_bench b n (message_in p)) seat_numbers ≡ true → Up (heard_bench b n (message_in p)).setup (keyings (heard_bench b n (message_in p)))
    up_next u = up_is (heard_bench b n (message_in p)) (held_heard b n p passed i) u

    sent_low : is_sent (low b) n (message_in p) ≡ is_sent b n (message_in p) → (hearing (low b) n p).sent ≡ (hearing b n p).sent
    unfolding hearing
    sent_low e = e

    missing_low : (hearing (low b) n p).missing ≡ (hearing b n p).missing
    unfolding hearing
    missing_low = simp (seat_low b n live)

    reply_low : (hearing (low b) n p).reply ≡ (hearing b n p).reply
    unfolding hearing
    reply_low = simp (seat_low b n live)

    standby_low : (hearing (low b) n p).standby ≡ (hearing b n p).standby
    unfolding hearing
    standby_low = ap (λ (x : Bench). x.standby) (heard_low b n (message_in p) live passed.is_seat) ∙ (unfold low in refl)

    answer_low : (is_test up : Bool) → eqb (message_in p).ptt test && not (message_in p).pm ≡ is_test → live_above_test (heard_bench b n (message_in p)) seat_numbers ≡ up
        → fixed b.setup up is_test (told p (hearing (low b) n p)) ≡ fixed b.setup up is_test (told p (hearing b n p))
    unfolding fixed
    answer_low true true e u = simp (missing_low, reply_low, standby_low, sent_low (sent_same b n p i live passed (up_next u)))
    -- at other times a Test keying may be sent in one and not in the other
    answer_low true false e u = simp (missing_low, reply_low, standby_low)
    answer_low false up e u = simp (missing_low, reply_low, standby_low, sent_low (sent_not_test b n p i live passed e))

  pub match_packet : Match b.setup (packet n p) (keeping b (packet n p)) (step (low b) (packet n p))
  unfolding does packet_said keys_test
  match_packet =
      match_judged b.setup (packet n p) b (aired (heard_bench b n (message_in p))) (heard_bench (low b) n (message_in p))
      (packet_refusals b.setup n (seat_of b.seats n) p) (packet_refusals (low b).setup n (seat_of (low b).seats n) p) (hearing b n p) (hearing (low b) n p)
      (told p) (told p) refusals_low
      (λ h. record {
        bench = heard_low b n (message_in p) live (passed h).is_seat ∙ sym (low_aired (heard_bench b n (message_in p)));
        answer = ap accepted (answer_low h _ _ refl (sym (above_aired (heard_bench b n (message_in p)))));
      })

-- ---- a lesson seat's packet: "no lesson audio is sent"

module _ (b : Bench) (n : ℕ) (p : List ℕ) (i : Held b) (hidden : lesson b.setup n ≡ true) where
  lesson_unsent : NoCase (packet_refusals b.setup n (seat_of b.seats n) p) → live_above_test (heard_bench b n (message_in p)) seat_numbers ≡ true
      → is_sent b n (message_in p) ≡ false
  unfolding is_sent bench_air air_of
  lesson_unsent h up =
      let passed = packet_accepted b.setup n (seat_of b.seats n) p h in
      let next-held = held_heard b n p passed i in
      off_marks _ n
      (lesson_off_air (heard_bench b n (message_in p)).setup (heard_bench b n (message_in p)).seats (keyings (heard_bench b n (message_in p)))
      (keyings_test_at_most (heard_bench b n (message_in p)) next-held) (up_is (heard_bench b n (message_in p)) next-held up) n (unfold heard_bench in hidden))

  pub no_lesson_audio : live_above_test (keeping b (packet n p)).bench seat_numbers ≡ true → audio_sent (keeping b (packet n p)).answer ≡ (false, [])
  unfolding does packet_said hearing audio_sent
  no_lesson_audio up =
      judged_one
      (λ a. live_above_test (settled a b (aired (heard_bench b n (message_in p)))) seat_numbers ≡ true → audio_sent (mapped (told p) a) ≡ (false, []))
      (packet_refusals b.setup n (seat_of b.seats n) p) (hearing b n p) (λ k c u. refl)
      (λ h u. ap (λ (t : Bool). (t, cond t (payload p) [])) (lesson_unsent h (sym (above_aired (heard_bench b n (message_in p))) ∙ u))) up
