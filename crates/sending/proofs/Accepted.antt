-- What an accepted tick passed, by name, as seats' Accepted has it of the other calls.
use Prim.Native.Nat.{ℕ, ◌≤◌}
use borrow.Author.Tests.{ltb-false}
use Rattle.packet.specs.Refusals.{NoCase}
use Rattle.sending.specs.Sending.{longest_tick, most_sent, tick_refusals}

pub record TickAccepted (ms room : ℕ) : Type 0 where
  pub not_too_long : ms ≤ longest_tick
  pub room_enough : most_sent ≤ room

pub tick_accepted : (ms room : ℕ) → NoCase (tick_refusals ms room) → TickAccepted ms room
unfolding tick_refusals
tick_accepted ms room none = record { not_too_long = ltb-false longest_tick ms none.0; room_enough = ltb-false room most_sent none.1.0 }
