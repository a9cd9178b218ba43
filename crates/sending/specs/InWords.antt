-- Second witness of `sending`: when a tick with its reports is turned away (01's 24, 02's 26), in numbers, and which report numbers it
-- moves. proofs/InWords holds the definitions of Sending to it; none of them is cited.
use Rattle.std.specs.Prelude.{ℕ, ◌<◌, ◌≡◌, Bool, true, false, List}
use Rattle.record.specs.Record.{entry_of}
use Rattle.reporting.specs.InWords.{OneUp}

-- 02: "Refusals: 24, then 26 exactly if the buffer is under 208 bytes"
pub data TickBarred (ms room : ℕ) : (number cause : ℕ) → Type 0 where
  -- 01: "24 | elapsed above 1000"
  too_many_ms : 1000 < ms → TickBarred ms room 24 0
  under_208 : room < 208 → TickBarred ms room 26 0

-- The numbers of the seats that are due go up by one, and no other.
pub record DueAlone (due : List Bool) (old new : List ℕ) : Type 0 where
  pub of_due : (n : ℕ) → entry_of false due n ≡ true → OneUp (entry_of 0 old n) (entry_of 0 new n)
  pub of_others : (n : ℕ) → entry_of false due n ≡ false → entry_of 0 new n ≡ entry_of 0 old n
