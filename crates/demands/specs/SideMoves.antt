-- Second witness of `seats`: 01: "side now in use (main or standby), set by the radio itself"; "23 | .. side event on a single radio". What
-- moves the side besides a packet's item (PacketTells).
use Rattle.std.specs.Prelude.{ℕ, ◌≡◌, Bool, List, ◌⊎◌}
use Rattle.packet.specs.InWords.{TurnedAway}
use Rattle.seats.specs.InWords.{EventBarred}
use Rattle.bench.specs.Step.{Call, packet, side, keeping}
use Rattle.record.specs.declared.whole.Bench.{Bench}
use Rattle.demands.specs.ExactAll.{side_order}

pub record SideMoves : Type 0 where
  pub turned_away : (b : Bench) (standby : Bool) → TurnedAway (EventBarred b.setup.kind) side_order (keeping b (side standby)).answer
  -- of a pair and of a shared radio
  pub by_event : (b : Bench) (standby : Bool) → (b.setup.kind ≡ 1) ⊎ (b.setup.kind ≡ 2) → (keeping b (side standby)).bench.standby ≡ standby
  -- no other call moves it but a packet, accepted or refused
  pub other_calls : (b : Bench) (c : Call) → ((n : ℕ) (p : List ℕ) → c ≡ packet n p → ⊥) → ((standby : Bool) → c ≡ side standby → ⊥) → (keeping b c).bench.standby ≡ b.standby
