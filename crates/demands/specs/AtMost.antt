-- Second witness of `demands` (blotted, is_testing): of what demand 3 compares, "such reports differ at most in PTT type, ptt-id and PTTS".
-- Reports that are the same to it (Apart, blotted) are the same in every other bit.
use Rattle.std.specs.Prelude.{ℕ, ◌/◌, ◌%◌, ◌≤◌, ◌≡◌, true, List, ◌↔◌, length}
use Rattle.base.specs.Bytes.{Bytes}
use Rattle.air.specs.InWords.{last_field, TakesPart}
use Rattle.record.specs.declared.whole.Bench.{Bench}
use Rattle.demands.specs.Apart.{blotted, is_testing}
use Rattle.demands.specs.Unreadable.{byte}

-- The field of a report is its bytes 16 and 17: "PTT type 3 bits, SQU 1, ptt-id 6, PM 1, PTTS 1, then .. SCT and two reserved bits, then X"
pub record DifferAtMost (r s : List ℕ) : Type 0 where
  pub as_long : length r ≡ length s
  pub elsewhere : (i : ℕ) → (i ≡ 16 → ⊥) → (i ≡ 17 → ⊥) → byte r i ≡ byte s i
  pub squ : byte r 16 / 16 % 2 ≡ byte s 16 / 16 % 2
  pub pm : byte r 17 / 32 % 2 ≡ byte s 17 / 32 % 2
  pub behind : byte r 17 % 16 ≡ byte s 17 % 16

pub record AtMost : Type 0 where
  pub seen_alike : (r s : List ℕ) → Bytes r → Bytes s → 18 ≤ length r → 18 ≤ length s → blotted r ≡ blotted s → DifferAtMost r s
  -- "whether a Test keying is on the air": a seat that takes part with PTT type 5
  pub testing : (b : Bench) (n : ℕ) → (is_testing b n ≡ true) ↔ (TakesPart b n × ((last_field b n).ptt ≡ 5))
