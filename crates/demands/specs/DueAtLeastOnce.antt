-- 02, request 14: "Prove too that a seat that stays open is due at least once in any run of accepted ticks summing to its period." Other calls may
-- stand between the ticks, and refused ones: neither takes time.
use Rattle.std.specs.Prelude.{ℕ, ◌+◌, ◌≤◌, ◌<◌, ◌≡◌, Bool, true, false, ◌||◌, List, [], ◌∷◌, length}
use Rattle.packet.specs.Refusals.{Answer, accepted, refused}
use Rattle.record.specs.Record.{seat_of, fresh_bench}
use Rattle.bench.specs.Step.{Call, opening, closing, packet, tick, report, received, transmitter, side, totals, Said, done, own, heard, ticked, written, totalled, keeping, after, accepted_calls}
use Rattle.record.specs.declared.setup.Setup.{Setup}
use Rattle.record.specs.declared.whole.Bench.{Bench}
use Rattle.demands.specs.TicksAddUp.{is_in}

-- open before the calls and after each of them
abbrev pub IsOpen : (n : ℕ) → Bench → Type 0
IsOpen n b = (seat_of b.seats n).opened ≡ true

unfoldable pub StaysOpen : (n : ℕ) → Bench → List Call → Type 0
StaysOpen n b [] = IsOpen n b
StaysOpen n b (c ∷ cs) = IsOpen n b × StaysOpen n (keeping b c).bench cs

-- the ms of accepted calls, taken together
abbrev pub elapsed : Call → ℕ
elapsed (opening n r) = 0
elapsed (closing n) = 0
elapsed (packet n p) = 0
elapsed (tick ms timestamp room) = ms
elapsed (report n timestamp sound room) = 0
elapsed (received signals level) = 0
elapsed (transmitter healthy) = 0
elapsed (side standby) = 0
elapsed (totals n) = 0

unfoldable pub summed : List Call → ℕ
summed [] = 0
summed (c ∷ cs) = elapsed c + summed cs

-- an answer that says that seat n is due
unfoldable pub names_due : (n : ℕ) → Answer Said → Bool
names_due n (accepted done) = false
names_due n (accepted (own id)) = false
names_due n (accepted (heard h sound)) = false
names_due n (accepted (ticked closed due records)) = is_in due n
names_due n (accepted (written bytes)) = false
names_due n (accepted (totalled packets missing)) = false
names_due n (refused k cause) = false

unfoldable pub ever_due : (n : ℕ) → Bench → List Call → Bool
ever_due n b [] = false
ever_due n b (c ∷ cs) = names_due n (keeping b c).answer || ever_due n (keeping b c).bench cs

pub record DueAtLeastOnce : Type 0 where
  -- of every bench that calls lead to
  pub in_every_run : (setup : Setup) (before cs : List Call) (n : ℕ) → let b = after keeping (fresh_bench setup) before in
      StaysOpen n b cs → (seat_of b.seats n).period ≤ summed (accepted_calls keeping b cs) → ever_due n b cs ≡ true
  -- and of any other, with eight seats, whose seat has a phase below its period
  pub from_any : (b : Bench) (cs : List Call) (n : ℕ) → length b.seats ≡ 8 → (seat_of b.seats n).phase < (seat_of b.seats n).period
      → StaysOpen n b cs → (seat_of b.seats n).period ≤ summed (accepted_calls keeping b cs) → ever_due n b cs ≡ true
