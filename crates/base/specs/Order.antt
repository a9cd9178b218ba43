-- 01, Order of packets. Over plain numbers: was a packet heard before, the last sequence accepted, the new one.
use Rattle.std.specs.Prelude.{ℕ, ◌-◌, ◌%◌, Bool, cond, not, ◌&&◌, ltb, eqb, ℤ, pos, negsuc, ◌-ℤ◌}
use Rattle.std.proofs.Math.IntN.{sub_ℕ}
use Rattle.std.specs.Int.Signed.{le_z}

-- a number modulo 65536, also below zero
abbrev pub wrapped : ℤ → ℕ
wrapped (pos n) = n % 65536
wrapped (negsuc n) = 65535 - n % 65536

-- ".. taken modulo 65536 into -32768 to 32767."
unfoldable pub centred : ℕ → ℤ
centred n = cond (ltb n 32768) (pos n) (pos n -ℤ pos 65536)

-- "The first accepted packet fixes the seat's SSRC"; refusal 19: "other SSRC"
abbrev pub other_ssrc : (heard : Bool) (fixed new : ℕ) → Bool
other_ssrc heard fixed new = heard && not (eqb new fixed)

-- "After that the distance is new sequence minus last accepted, taken modulo 65536 .."
unfoldable pub distance : (last new : ℕ) → ℤ
distance last new = centred (wrapped (sub_ℕ new last))

-- "It must be above 0"; refusal 20: "distance 0 or below"
unfoldable pub late : (heard : Bool) (last new : ℕ) → Bool
late heard last new = heard && le_z (distance last new) (pos 0)

-- how many: none below zero
abbrev pub size : ℤ → ℕ
size (pos n) = n
size (negsuc n) = 0

-- "The first accepted packet .. has 0 missing."; "distance minus 1 packets are missing."
unfoldable pub missing : (heard : Bool) (last new : ℕ) → ℕ
missing heard last new = cond heard (size (distance last new -ℤ pos 1)) 0
