-- Second witness of `hearing` (message_in): 02, request 14: "After any calls, heard plus missing must equal 0 if nothing was accepted, else
-- 1 plus the sum of the distances of all accepted packets after the first, taken from the history."
use Rattle.std.specs.Prelude.{ℕ, ◌+◌, ◌≡◌, true, cond, List, [], ◌∷◌, ◌++◌, eqb, ℤ, pos, ◌+ℤ◌, length}
use Rattle.base.specs.Order.{distance}
use Rattle.packet.specs.Refusals.{accepted}
use Rattle.record.specs.Record.{seat_of, fresh_bench}
use Rattle.hearing.specs.Hearing.{message_in}
use Rattle.bench.specs.Step.{Call, opening, closing, packet, tick, report, received, transmitter, side, totals, totalled, keeping, after, accepted_calls}
use Rattle.record.specs.declared.setup.Setup.{Setup}
use Rattle.record.specs.declared.seat.Seat.{Seat}
use Rattle.record.specs.declared.whole.Bench.{Bench}

-- The history of seat n, from the accepted calls alone: the sequence numbers of its packets since it was last opened, the first one first.
-- An opening begins it, a packet is added at its end.
abbrev pub noted : (n : ℕ) → (history : List ℕ) → Call → List ℕ
noted n history (opening m r) = cond (eqb n m) [] history
noted n history (packet m p) = cond (eqb n m) (history ++ (message_in p).sequence ∷ []) history
noted n history (closing m) = history
noted n history (tick ms timestamp room) = history
noted n history (report m timestamp sound room) = history
noted n history (received signals level) = history
noted n history (transmitter healthy) = history
noted n history (side standby) = history
noted n history (totals m) = history

unfoldable pub noted_through : (n : ℕ) → (history : List ℕ) → List Call → List ℕ
noted_through n history [] = history
noted_through n history (c ∷ cs) = noted_through n (noted n history c) cs

abbrev pub history_of : (n : ℕ) → Setup → (run : List Call) → List ℕ
history_of n setup run = noted_through n [] (accepted_calls keeping (fresh_bench setup) run)

-- "the sum of the distances"
unfoldable pub distances : (last : ℕ) → (later : List ℕ) → ℤ
distances last [] = pos 0
distances last (new ∷ later) = distance last new +ℤ distances new later

-- "0 if nothing was accepted, else 1 plus the sum of the distances of all accepted packets after the first"
unfoldable pub account : (history : List ℕ) → ℤ
account [] = pos 0
account (first ∷ later) = pos 1 +ℤ distances first later

abbrev pub seat_after_run : (n : ℕ) → Setup → (run : List Call) → Seat
seat_after_run n setup run = seat_of (after keeping (fresh_bench setup) run).seats n

pub record Accounts : Type 0 where
  -- numbers that wrap: 1, and then the distances 1, 1 and 3
  pub for_instance : account (65534 ∷ 65535 ∷ 0 ∷ 3 ∷ []) ≡ pos 6
  -- of every seat that is open after the calls
  pub heard_and_missing : (setup : Setup) (run : List Call) (n : ℕ) → let s = seat_after_run n setup run in
      s.opened ≡ true → pos (s.totals.heard + s.totals.missing) ≡ account (history_of n setup run)
  -- and heard alone is how many packets it accepted
  pub heard_alone : (setup : Setup) (run : List Call) (n : ℕ) → let s = seat_after_run n setup run in
      s.opened ≡ true → s.totals.heard ≡ length (history_of n setup run)
  -- The call tells these numbers
  pub call_tells : (setup : Setup) (run : List Call) (n heard missing : ℕ) → (keeping (after keeping (fresh_bench setup) run) (totals n)).answer ≡ accepted (totalled heard missing)
      → (pos (heard + missing) ≡ account (history_of n setup run)) × (heard ≡ length (history_of n setup run))
  -- and leaves every bench as it was.
  pub bench_left : (b : Bench) (n : ℕ) → (keeping b (totals n)).bench ≡ b
