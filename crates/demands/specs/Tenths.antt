-- 02, request 3: "Whole-dBm levels that fit keep their quality."
use Rattle.std.specs.Prelude.{ℕ, ◌≡◌, cond, ℤ, pos, neg_ℤ, ◌+ℤ◌, ◌*ℤ◌}
use Rattle.std.specs.Int.Signed.{lt_z}
use Rattle.base.specs.Order.{size}
use Rattle.packet.specs.Quality.{floor_div, quality}

-- 01: "quality 0 below -100 dBm, 15 above -70, between them the floor of (level + 100)/2." Kept for this statement alone.
unfoldable pub whole_quality : ℤ → ℕ
whole_quality dBm =
    cond (lt_z dBm (neg_ℤ (pos 100))) 0 (cond (lt_z (neg_ℤ (pos 70)) dBm) 15 (size (floor_div (dBm +ℤ pos 100) 2)))

-- Ten times a whole level is that level in tenths, and its quality is the one that 01 gave. The levels "that fit" are -3276 to
-- 3276, whose tenfold is a 16-bit signed number; the statement needs no bound.
abbrev pub Tenths : Type 0
Tenths = (dBm : ℤ) → quality (pos 10 *ℤ dBm) ≡ whole_quality dBm
