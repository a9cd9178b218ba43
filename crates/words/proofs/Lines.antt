-- Whether a word follows another.
use Rattle.std.proofs.Common.{◌≡◌, ℕ, ◌<◌, List, [], ◌∷◌, length, refl, arith}
use Rattle.words.specs.Input.{first_if_none}

pub none_follows : (word next : List ℕ) → length next ≡ 0 → first_if_none word next ≡ word
none_follows word [] h = refl
none_follows word (b ∷ next) h = absurd (omega arith)

pub one_follows : (word next : List ℕ) → 0 < length next → first_if_none word next ≡ []
one_follows word [] h = absurd (omega arith)
one_follows word (b ∷ next) h = refl

pub ruleset following = (none_follows, one_follows)
