-- 02, request 3: "my classes want to see where the quality steps fall." README has the sixteen qualities as a table.
use Rattle.std.specs.Prelude.{ℕ, ◌*◌, ◌≤◌, ◌≡◌, true, ◌↔◌, ℤ, pos, neg_ℤ, ◌+ℤ◌}
use Rattle.std.specs.Int.Signed.{le_z}
use Rattle.packet.specs.Quality.{quality}

-- the level at which a quality begins, in tenths of a dBm: -980 for 1, -960 for 2, .., -700 for 15
abbrev pub step_at : (q : ℕ) → ℤ
step_at q = neg_ℤ (pos 1000) +ℤ pos (20 * q)

pub record Steps : Type 0 where
  -- For q from 1 to 15 the quality is q or more exactly if the level is -1000 + 20 q or more. (le_z says "at most" of signed
  -- numbers. Quality 0 has no step: it is every level below -980.)
  pub fall : (level : ℤ) (q : ℕ) → 1 ≤ q → q ≤ 15 → (q ≤ quality level) ↔ (le_z (step_at q) level ≡ true)
  -- and it is never more than 15
  pub never_above : (level : ℤ) → quality level ≤ 15
