-- 02, request 4: "A seat that was due in the first and closed in the second is the one difference"; and request 6: "the report sequence
-- numbers, which may run further after two ticks". Both do occur, in a computed run.
use Rattle.std.specs.Prelude.{ℕ, ◌≡◌, cond, List, [], ◌∷◌, ◌++◌, map, replicate}
use Rattle.packet.specs.Refusals.{Answer, accepted}
use Rattle.record.specs.Record.{seat_numbers, fresh_bench, with_sequences}
use Rattle.air.specs.Air.{among}
use Rattle.sending.specs.Sending.{most_sent}
use Rattle.bench.specs.Step.{Call, opening, tick, Said, ticked, keeping, after}
use Rattle.seats.specs.declared.opening.CallType.TheVariants.{TxRx}
use Rattle.demands.specs.LessonsSeen.{lab, quiet_report, answer}

-- a seat that is due every 200 ms
abbrev pub opens : (n multiplier : ℕ) → Call
opens n multiplier = opening n (record { call = TxRx; period = 200; multiplier = multiplier; ssrc = 7; sequence = 1 })

-- seat 1 is closed by 400 ms of silence, seat 2 by 2000
abbrev pub run : List Call
run = opens 1 2 ∷ opens 2 10 ∷ []

abbrev pub ticks : (ms : ℕ) → Call
ticks ms = tick ms 0 most_sent

-- these seats closed and those due, each of which gets its report with that number
abbrev pub names : (closed due : List ℕ) → (sequence : ℕ) → Answer Said
names closed due sequence =
    accepted (ticked (map (among closed) seat_numbers) (map (among due) seat_numbers) (map (λ n. cond (among due n) (quiet_report sequence) []) seat_numbers))

pub record OneDifference : Type 0 where
  -- two ticks of 200: both seats are due, then seat 1 is closed and seat 2 due
  pub first : answer run (ticks 200) ≡ names [] (1 ∷ 2 ∷ []) 1
  pub second : answer (run ++ ticks 200 ∷ []) (ticks 200) ≡ names (1 ∷ []) (2 ∷ []) 2
  -- one of 400: that seat 1 was due is not told; seat 2, due in both, is told due once
  pub merged : answer run (ticks 400) ≡ names (1 ∷ []) (2 ∷ []) 1
  -- and the same bench, but that the numbers of both seats ran one further in two ticks
  pub merged_numbers : (after keeping (fresh_bench lab) (run ++ ticks 400 ∷ [])).sequences ≡ 1 ∷ 2 ∷ replicate 6 0
  pub same_but_numbers : after keeping (fresh_bench lab) (run ++ ticks 200 ∷ ticks 200 ∷ [])
      ≡ with_sequences (after keeping (fresh_bench lab) (run ++ ticks 400 ∷ [])) (2 ∷ 3 ∷ replicate 6 0)
