-- Second witness of `framing`: the frame of RFC 4571 in plain numbers. 003 (our translation): "an unsigned integer in network byte order".
-- proofs/InWords holds the definitions of Framing to it; none of them is cited.
use Rattle.std.specs.Prelude.{ℕ, ◌+◌, ◌/◌, ◌%◌, ◌≡◌, List, length, get_or, drop}

pub record IsFrame (packet frame : List ℕ) : Type 0 where
  pub as_long : length frame ≡ 2 + length packet
  pub high : get_or frame 0 0 ≡ length packet / 256
  pub low : get_or frame 1 0 ≡ length packet % 256
  pub behind : drop 2 frame ≡ packet
