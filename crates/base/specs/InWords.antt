-- Second witness of `base`: proofs/InWords holds the definitions of Order to it.
-- 01, Order of packets, once more, in whole numbers from zero up.
use Rattle.std.specs.Prelude.{ℕ, ◌+◌, ◌%◌, ◌≤◌, ◌≡◌, Bool, true, false}

-- How many packets are missing before a new one. "The first accepted packet .. has 0 missing. After that the distance is new sequence minus
-- last accepted, taken modulo 65536 into -32768 to 32767. It must be above 0; distance minus 1 packets are missing." So the distance is 1
-- to 32767, and leads from the last to the new.
pub data Missing (heard : Bool) (last new : ℕ) : (missing : ℕ) → Type 0 where
  first : heard ≡ false → Missing heard last new 0
  later : (missing : ℕ) → heard ≡ true → missing ≤ 32766 → (last + (missing + 1)) % 65536 ≡ new % 65536 → Missing heard last new missing
