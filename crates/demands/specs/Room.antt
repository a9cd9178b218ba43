-- 02, request 6: "26 exactly if the buffer is under 208 bytes, so that room never depends on who is due."
use Rattle.std.specs.Prelude.{ℕ, ◌+◌, ◌*◌, ◌≤◌, ◌<◌, ◌≡◌, false, not, ◌&&◌, [], ◌∷◌, ◌++◌, map, ◌↔◌, pos, length, replicate}
use Rattle.base.specs.Bytes.{bit}
use Rattle.base.specs.Lists.{how_many}
use Rattle.packet.specs.Refusals.{refused}
use Rattle.record.specs.Kind.{kind_code, kind_of, has_one_side}
use Rattle.record.specs.Record.{seat_numbers, fresh_bench}
use Rattle.seats.specs.Ticking.{is_due}
use Rattle.reporting.specs.Reporting.{squ_told}
use Rattle.sending.specs.Sending.{longest_tick, most_sent, sent_bytes}
use Rattle.bench.specs.Step.{tick, received, keeping, after}
use Rattle.record.specs.declared.kind.Kind.TheVariants.{Pair}
use Rattle.record.specs.declared.setup.Setup.{Setup}
use Rattle.record.specs.declared.whole.Bench.{Bench}
use Rattle.demands.specs.LessonsSeen.{enters}

-- a pair whose eight seats are open, and a signal is received
abbrev pub pair_lab : Setup
pair_lab = record { lesson = replicate 8 false; ext = 0x0167; kind = kind_code Pair; equal_summation = false; coupling_summation = false }

abbrev pub all_in : Bench
all_in = after keeping (fresh_bench pair_lab) (map enters seat_numbers ++ received 1 (pos 0) ∷ [])

pub record Room : Type 0 where
  -- 22 bytes for each seat that is due, 26 where a report has two items: a signal is received, and the radio has two sides
  pub used : (b : Bench) (ms timestamp : ℕ)
      → length (sent_bytes b ms timestamp) ≡ (22 + 4 * bit (squ_told b.signals && not (has_one_side (kind_of b.setup.kind)))) * how_many (is_due ms) b.seats
  -- 208 bytes are always enough
  pub enough : (b : Bench) (ms timestamp : ℕ) → length b.seats ≤ 8 → length (sent_bytes b ms timestamp) ≤ most_sent
  -- and can be needed
  pub needed : length (sent_bytes all_in 20 0) ≡ most_sent
  -- "26 exactly if the buffer is under 208 bytes", on every bench
  pub exactly : (b : Bench) (ms timestamp room : ℕ) → ((keeping b (tick ms timestamp room)).answer ≡ refused 26 0) ↔ ((ms ≤ longest_tick) × (room < most_sent))
