-- What the private functions of the writer do; no public promise needs it.
use Rattle.std.specs.Prelude.{ℕ, List, ◌++◌, take, replicate}

-- bytes with zeros behind them, up to a length
abbrev pub padded : ℕ → List ℕ → List ℕ
padded n bytes = take n (bytes ++ replicate n 0)
