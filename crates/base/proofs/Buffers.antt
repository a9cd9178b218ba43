-- Bytes laid over the front of a buffer: that one prefix and then another behind it are both, and
-- what is there where there is room. Bytes stored from a place on, one behind the other.
use Prim.Native.Nat.{ℕ, suc, ◌+◌, ◌-◌, ◌≤◌, ◌<◌, min}
use mathlib.Core.Path.{◌≡◌, refl, ap, sym, ◌∙◌}
use mathlib.Core.List.{List, [], ◌∷◌, ◌++◌, append_assoc, append-nil}
use mathlib.Core.Bool.{Bool, true, false}
use native.Mathlib.Omega.{arith}
use native.Mathlib.Nat.{add-zero}
use borrow.Author.Tests.{leb-true, leb-false}
use borrow.Rule.Slice.PartMut.{put_mid}
use Rattle.std.proofs.lemmas.Grind.{common_steps}
use lib.Dec.{leb}
use lib.ListN.{length, set, take, drop, length-append, length-take, length-drop, drop_of_length-le}
use lib.Seq.{sets, take_all, take-append-le, take-append-add, take_at, drop_at, drop-drop}
use Rattle.base.specs.Bytes.{overlaid}
use Rattle.base.proofs.Parts.{part_to_end}

pub overlaid_nothing : (P : List ℕ) → overlaid P [] ≡ []
unfolding overlaid
overlaid_nothing P = grind (arith, common_steps)

pub overlaid_none : (l : List ℕ) → overlaid [] l ≡ l
unfolding overlaid
overlaid_none l = grind (arith, common_steps)

module _ (P l : List ℕ) where
  -- where there is room, all of the bytes
  pub overlaid_fits : length P ≤ length l → overlaid P l ≡ P ++ drop (length P) l
  unfolding overlaid
  overlaid_fits h = grind (arith, common_steps)

  -- where there is not, as many as the buffer holds
  pub overlaid_full : length l ≤ length P → overlaid P l ≡ take (length l) P
  unfolding overlaid
  overlaid_full h = grind (arith, common_steps)

module _ (P Q l : List ℕ) where
  both_fit : length P ≤ length l → P ++ overlaid Q (drop (length P) l) ≡ overlaid (P ++ Q) l
  unfolding overlaid
  both_fit room =
      let long : length l ≡ length P + length (drop (length P) l) = simp length-drop (omega arith) in
      rw (drop-drop, length-append, long, take-append-add) (sym (append_assoc P (take (length (drop (length P) l)) Q) (drop (length P + length Q) l)))

  by_room_behind : (k : ℕ) → k ≡ min (length P) (length l) → (b : Bool) → leb (length P) (length l) ≡ b
      → take k (overlaid P l) ++ overlaid Q (drop k (overlaid P l)) ≡ overlaid (P ++ Q) l
  by_room_behind k e true p =
      let room : length P ≤ length l = leb-true (length P) (length l) p in
      let at : length P ≡ k = omega arith in
      rw (overlaid_fits P l room, take_at P (drop (length P) l) k at, drop_at P (drop (length P) l) k at) (both_fit room)
  by_room_behind k e false p =
      let short : length l < length P = leb-false (length P) (length l) p in
      let at : length (take (length l) P) ≤ k = simp length-take (omega arith) in
      let over : length l ≤ length (P ++ Q) = simp length-append (omega arith) in
      rw (overlaid_full P l (omega arith), overlaid_full (P ++ Q) l over, take-append-le (length l) P Q (omega arith), drop_of_length-le (take (length l) P) at, overlaid_nothing)
      (append-nil (take k (take (length l) P)) ∙ take_all k (take (length l) P) at)

  -- bytes over the front of a buffer, then more over the part behind them, which is lent and comes back
  pub overlaid_then : {l₁ v : List ℕ} {k : ℕ} → k ≡ min (length P) (length l) → l₁ ≡ overlaid P l
      → v ≡ overlaid Q (take (length l₁ - k) (drop k l₁)) → put_mid k (length l₁ - k) l₁ v ≡ overlaid (P ++ Q) l
  overlaid_then {l₁} {v} {k} e d f =
      let none : length (drop k l₁) ≤ length l₁ - k = simp length-drop (omega arith) in
      rw (drop_of_length-le (drop k l₁) none, append-nil, f, part_to_end, d) (by_room_behind k e (leb (length P) (length l)) refl)

  -- the same where the part behind the front comes first, and the front has room
  pub overlaid_before : {l₁ v : List ℕ} {k : ℕ} → k ≡ length P → k ≤ length l → v ≡ overlaid Q (take (length l - k) (drop k l))
      → l₁ ≡ put_mid k (length l - k) l v → overlaid P l₁ ≡ overlaid (P ++ Q) l
  overlaid_before {l₁} {v} {k} e room f d =
      let none : length (drop k l) ≤ length l - k = simp length-drop (omega arith) in
      let front : length (take k l) ≡ k = simp length-take (omega arith) in
      let put : l₁ ≡ take k l ++ v = d ∙ rw (drop_of_length-le (drop k l) none, append-nil) in
      let long : length P ≤ length l₁ = rw (put, length-append) (omega arith) in
      let behind : v ≡ overlaid Q (drop (length P) l) = f ∙ rw (part_to_end, e) in
      overlaid_fits P l₁ long ∙ rw (put, ← e, drop_at (take k l) v k front, behind) (both_fit (omega arith))

-- bytes stored from a place on, then others behind them
pub sets_append : (l a b : List ℕ) (i : ℕ) → sets l i (a ++ b) ≡ sets (sets l i a) (i + length a) b
sets_append l [] b i = rw add-zero
sets_append l (x ∷ a) b i =
    let e : suc i + length a ≡ i + suc (length a) = omega arith in
    sets_append (set l i x) a b (suc i) ∙ ap (λ (k : ℕ). sets (sets (set l i x) (suc i) a) k b) e
