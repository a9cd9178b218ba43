-- A report to a live seat, from a bench whose air is right and from that bench without its lesson seats, whose air is worked out.
use Prim.Native.Nat.{ℕ, ◌≤◌}
use mathlib.Core.Path.{◌≡◌, refl, sym, ap, ap₂, ◌∙◌}
use mathlib.Core.Bool.{Bool, false}
use mathlib.Core.List.{List}
use native.Mathlib.Omega.{arith}
use lib.ListN.{length}
use Rattle.std.specs.Prelude.{None}
use Rattle.packet.specs.Refusals.{NoCase, accepted}
use Rattle.writer.specs.Writing.{encode}
use Rattle.packet.specs.declared.message.Message.{Message}
use Rattle.packet.specs.declared.message.Rx.{Rx}
use Rattle.packet.specs.Messages.{from_rx}
use Rattle.record.specs.Kind.{kind_of, side_told}
use Rattle.record.specs.Record.{seat_numbers, no_such_seat, entry_of, seat_of, lesson}
use Rattle.air.specs.Air.{bench_air, aired}
use Rattle.air.proofs.Kept.{air_unread}
use Rattle.reporting.specs.Reporting.{squ_told, sct_told, sqi_told, report_of, report_bytes, report_refusals, report_said, reported_bench}
use Rattle.bench.specs.Step.{report, written, does, step, keeping}
use Rattle.record.specs.declared.seat.Seat.{Seat}
use Rattle.record.specs.declared.whole.Bench.{Bench}
use Rattle.demands.specs.AirKept.{AirRight}
use Rattle.demands.specs.Apart.{live_above_test, blotted, as_seen, fixed}
use Rattle.demands.proofs.Demand3.Blanking.{set_elsewhere}
use Rattle.demands.proofs.Demand3.Blotted.{calm, blotted_calm}
use Rattle.record.proofs.Seats.{lesson_flag}
use Rattle.air.proofs.Bounds.{ptt_most}
use Rattle.reporting.proofs.Accepted.{report_accepted}
use Rattle.reporting.proofs.Told.{id_told_most}
use Rattle.reporting.proofs.ReportLength.{report_long}
use Rattle.demands.proofs.Demand3.WithoutLessons.{low, seat_low, sequence_low}
use Rattle.demands.proofs.Demand3.LessonSeats.{Held}
use Rattle.demands.proofs.Demand3.BenchAir.{up_is, air_low}
use Rattle.demands.proofs.Demand3.LiveCalls.{Match, match_judged}

-- ---- the told type and id fit their bits

type_told : (b : Bench) → AirRight b → (n timestamp : ℕ) → (report_of b n timestamp).ptt ≤ 5
unfolding report_of
type_told b right n timestamp = rw right (ptt_most b)

id_told_lem : (b : Bench) → AirRight b → (n timestamp : ℕ) → no_such_seat n ≡ false → (report_of b n timestamp).id ≤ 63
unfolding report_of
id_told_lem b right n timestamp real = rw right (omega (arith, id_told_most b n (seat_of b.seats n).call real))

-- ---- the report without the three

calm_report : Bench → (timestamp sequence : ℕ) → Seat → Message
calm_report b timestamp sequence s =
    record {
      sequence = sequence;
      timestamp = timestamp;
      ssrc = s.ssrc;
      ptt = 0;
      squ = squ_told b.signals;
      id = 0;
      pm = s.heard.field.pm;
      ptts = false;
      sct = sct_told b.signals;
      items = record { sqi = sqi_told b.signals b.level; climax = None; side = side_told (kind_of b.setup.kind) b.standby };
    }

calm_report_lem : (b : Bench) (n timestamp : ℕ) → calm (from_rx (report_of b n timestamp)) ≡ calm_report b timestamp (entry_of 0 b.sequences n) (seat_of b.seats n)
unfolding calm report_of calm_report
calm_report_lem b n timestamp = refl

-- what the bench without its lesson seats shows to a report
abbrev pub alone : Bench → Bench
alone b = aired (low b)

module _ (b : Bench) (right : AirRight b) (n timestamp : ℕ) (live : lesson b.setup n ≡ false) (real : no_such_seat n ≡ false) where
  -- from the same air, the same report
  report_low : bench_air (low b) ≡ bench_air b → report_of (alone b) n timestamp ≡ report_of b n timestamp
  unfolding report_of
  report_low e = simp (e, right, sequence_low b n live, seat_low b n live) (unfold low in refl)

  -- from any air, the same but for the three
  report_calm : calm (from_rx (report_of (alone b) n timestamp)) ≡ calm (from_rx (report_of b n timestamp))
  unfolding low calm_report
  report_calm = calm_report_lem (alone b) n timestamp ∙ ap₂ (calm_report b timestamp) (sequence_low b n live) (seat_low b n live) ∙ sym (calm_report_lem b n timestamp)

  module _ (sound : List ℕ) where
    -- "the same bytes"
    bytes_low : bench_air (low b) ≡ bench_air b → report_bytes (alone b) n timestamp sound ≡ report_bytes b n timestamp sound
    unfolding report_bytes low
    bytes_low e = ap (λ (r : Rx). encode b.setup.ext (from_rx r) sound) (report_low e)

    blotted_low : blotted (report_bytes (alone b) n timestamp sound) ≡ blotted (report_bytes b n timestamp sound)
    unfolding report_bytes low
    blotted_low =
        let shown = sym (air_unread (low b)) in
        blotted_calm (from_rx (report_of (alone b) n timestamp)) (type_told (alone b) shown n timestamp) (id_told_lem (alone b) shown n timestamp real) b.setup.ext sound
        ∙ ap (λ (m : Message). encode b.setup.ext m sound) report_calm
        ∙ sym (blotted_calm (from_rx (report_of b n timestamp)) (type_told b right n timestamp) (id_told_lem b right n timestamp real) b.setup.ext sound)

    -- so what is seen of it is the same, at any time
    pub told_low : Held b → (while : Bool) → live_above_test b seat_numbers ≡ while
        → as_seen while (report_bytes (alone b) n timestamp sound) ≡ as_seen while (report_bytes b n timestamp sound)
    told_low i while up = grind (arith, air_low, blotted_low, bytes_low, up_is)

-- ---- the call

-- a report changes nobody's keying
pub above_reported : (b : Bench) (n : ℕ) → live_above_test (reported_bench b n) seat_numbers ≡ live_above_test b seat_numbers
unfolding reported_bench live_above_test
above_reported b n = refl

module _ (b : Bench) (right : AirRight b) (n timestamp : ℕ) (sound : List ℕ) (room : ℕ) (i : Held b) (live : lesson b.setup n ≡ false) where
  length_low : length (report_bytes (alone b) n timestamp sound) ≡ length (report_bytes b n timestamp sound)
  unfolding low
  length_low = report_long (alone b) n timestamp sound ∙ sym (report_long b n timestamp sound)

  refusals_low : report_refusals (alone b) n timestamp sound room ≡ report_refusals b n timestamp sound room
  unfolding report_refusals
  refusals_low = simp (length_low, seat_low b n live) (unfold low in refl)

  reported_low : no_such_seat n ≡ false → reported_bench (low b) n ≡ low (reported_bench b n)
  unfolding reported_bench
  reported_low real = simp (sequence_low b n live) (unfold low in simp (real, set_elsewhere {A = ℕ} 0, lesson_flag b.setup n real, live))

  real_seat : NoCase (report_refusals b n timestamp sound room) → no_such_seat n ≡ false
  real_seat h = (report_accepted b n timestamp sound room h).is_seat

  pub match_report : Match b.setup (report n timestamp sound room) (keeping b (report n timestamp sound room)) (step (low b) (report n timestamp sound room))
  unfolding does report_said fixed
  match_report =
      match_judged b.setup (report n timestamp sound room) b (reported_bench b n) (reported_bench (low b) n)
      (report_refusals b n timestamp sound room) (report_refusals (alone b) n timestamp sound room) _ _ _ _ refusals_low
      (λ h. record {
        bench = reported_low (real_seat h);
        answer = ap (λ (r : List ℕ). accepted (written r)) (told_low b right n timestamp live (real_seat h) sound i _ (sym (above_reported b n)));
      })
