-- 01, Report to a seat: the quality told of a signal, from its level in tenths of a dBm.
use Rattle.std.specs.Prelude.{ℕ, ◌/◌, cond, ℤ, pos, negsuc, neg_ℤ, ◌+ℤ◌}
use Rattle.std.specs.Int.Signed.{lt_z}
use Rattle.base.specs.Order.{size}

-- the floor of a quotient: rounded down, also below zero
abbrev pub floor_div : ℤ → ℕ → ℤ
floor_div (pos n) k = pos (n / k)
floor_div (negsuc n) k = negsuc (n / k)

-- 02, request 3: "The level becomes tenths in a 16-bit signed number: 0 below -1000, 15 above -700, between them the floor of
-- (level + 1000)/20."
unfoldable pub quality : ℤ → ℕ
quality level =
    cond (lt_z level (neg_ℤ (pos 1000))) 0 (cond (lt_z (neg_ℤ (pos 700)) level) 15 (size (floor_div (level +ℤ pos 1000) 20)))
