-- Members of a list.
use Rattle.std.specs.Prelude.{ℕ, ◌+◌, Bool, List, [], ◌∷◌}
use Rattle.base.specs.Bytes.{bit}

-- how many members pass a test
unfoldable pub how_many : {A : Type 0} → (test : A → Bool) → List A → ℕ
how_many test [] = 0
how_many test (x ∷ xs) = bit (test x) + how_many test xs
