-- Text as its bytes in ASCII.
use Rattle.std.specs.Prelude.{ℕ, List, [], ◌∷◌}
use Prim.Native.Char.{code}
use Prim.Native.String.{String, [] as none, ◌∷◌ as ◌followed◌}

-- the bytes of a quoted text
abbrev pub text : String → List ℕ
text none = []
text (c followed s) = code c ∷ text s
