-- What an accepted report passed, by name, as seats' Accepted has it of the other calls.
use Prim.Native.Nat.{ℕ, ◌≤◌}
use mathlib.Core.Path.{◌≡◌}
use mathlib.Core.Bool.{true, false}
use mathlib.Core.List.{List}
use lib.ListN.{length}
use borrow.Author.Tests.{ltb-false, not-false}
use Rattle.packet.specs.Refusals.{NoCase}
use Rattle.record.specs.Record.{no_such_seat, seat_of}
use Rattle.seats.specs.Opening.{seat_refusals}
use Rattle.reporting.specs.Reporting.{audio_barred, report_bytes, report_refusals}
use Rattle.record.specs.declared.whole.Bench.{Bench}

pub record ReportAccepted (b : Bench) (n timestamp : ℕ) (sound : List ℕ) (room : ℕ) : Type 0 where
  pub is_seat : no_such_seat n ≡ false
  pub was_open : (seat_of b.seats n).opened ≡ true
  pub audio_allowed : audio_barred b.signals (length sound) ≡ false
  pub room_enough : length (report_bytes b n timestamp sound) ≤ room

pub report_accepted : (b : Bench) (n timestamp : ℕ) (sound : List ℕ) (room : ℕ) → NoCase (report_refusals b n timestamp sound room)
    → ReportAccepted b n timestamp sound room
unfolding report_refusals seat_refusals
report_accepted b n timestamp sound room none =
    record {
      is_seat = none.0;
      was_open = not-false _ none.1.0;
      audio_allowed = none.1.1.0;
      room_enough = ltb-false room (length (report_bytes b n timestamp sound)) none.1.1.1.0;
    }
