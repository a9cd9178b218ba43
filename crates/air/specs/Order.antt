-- 01, Required forms by place: "the order in which present keyings began", kept as the seats' numbers, earliest first.
use Rattle.std.specs.Prelude.{ℕ, Bool, cond, not, ◌&&◌, List, [], ◌∷◌, ◌++◌, eqb}
use Rattle.record.specs.declared.seat.Field.{Field}
use Rattle.air.specs.Air.{keyed}

-- "A keying begins at the packet that brought the seat from off, muted or another type"
unfoldable pub begins : (old new : Field) → Bool
begins old new = keyed new && not (keyed old && eqb old.ptt new.ptt)

-- the seat whose keying begins moves behind all others
unfoldable pub to_last : ℕ → List ℕ → List ℕ
to_last n [] = []
to_last n (k ∷ ks) = cond (eqb k n) (ks ++ (n ∷ [])) (k ∷ to_last n ks)

unfoldable pub order_after : (n : ℕ) (old new : Field) → List ℕ → List ℕ
order_after n old new order = cond (begins old new) (to_last n order) order
