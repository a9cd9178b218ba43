-- Second witness of `seats`: 01: "signals received (0 to 255) with a level ..; transmitter healthy or not". Each is what its last event
-- set, and no other call moves it. (The side: SideMoves.)
use Rattle.std.specs.Prelude.{ℕ, ◌≡◌, Bool, true, false, ℤ, length}
use Rattle.record.specs.Record.{seat_of, fresh_bench}
use Rattle.bench.specs.Step.{Call, received, transmitter, keeping}
use Rattle.record.specs.declared.setup.Setup.{Setup}
use Rattle.record.specs.declared.whole.Bench.{Bench}

-- "At the start no seat is open, main is in use, the transmitter is healthy, no signal is received."
pub record AtStart (setup : Setup) (b : Bench) : Type 0 where
  pub set_up : b.setup ≡ setup
  pub eight : length b.seats ≡ 8
  pub none_open : (n : ℕ) → (seat_of b.seats n).opened ≡ false
  pub main : b.standby ≡ false
  pub healthy : b.healthy ≡ true
  pub no_signal : b.signals ≡ 0

pub record EventsSet : Type 0 where
  pub at_start : (setup : Setup) → AtStart setup (fresh_bench setup)
  pub signals_set : (b : Bench) (signals : ℕ) (level : ℤ) → let next = (keeping b (received signals level)).bench in (next.signals ≡ signals) × (next.level ≡ level)
  pub signals_kept : (b : Bench) (c : Call) → ((signals : ℕ) (level : ℤ) → c ≡ received signals level → ⊥)
      → ((keeping b c).bench.signals ≡ b.signals) × ((keeping b c).bench.level ≡ b.level)
  pub health_set : (b : Bench) (healthy : Bool) → (keeping b (transmitter healthy)).bench.healthy ≡ healthy
  pub health_kept : (b : Bench) (c : Call) → ((healthy : Bool) → c ≡ transmitter healthy → ⊥) → (keeping b c).bench.healthy ≡ b.healthy
