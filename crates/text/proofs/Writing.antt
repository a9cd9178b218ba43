-- A text laid over the part of a buffer that begins at a place (`laid`), and how texts written one behind the other
-- join: `_then_`.
use Prim.Native.Nat.{ℕ, zero, suc, ◌+◌, ◌-◌, ◌≤◌, ◌<◌, min}
use mathlib.Core.Path.{◌≡◌, refl, ap, sym, ◌∙◌}
use mathlib.Core.List.{List, [], ◌∷◌, ◌++◌, append-nil}
use native.Mathlib.Omega.{arith}
use native.Mathlib.Nat.{add-zero}
use borrow.Rule.Slice.PartMut.{put_mid}
use lib.ListN.{length, set, take, drop, length-append, length-take, length-drop, drop_of_length-le}
use lib.Seq.{sets, set_out, length-sets}
use Rattle.base.specs.Bytes.{overlaid}
use Rattle.base.proofs.Parts.{part_to_end}
use Rattle.base.proofs.Buffers.{overlaid_none, sets_append}
use Rattle.text.specs.Text.{Written}
use Rattle.text.specs.Lines.{Puts}
use Rattle.text.specs.declared.out.Line.{Line}

sets_out : (l b : List ℕ) (i : ℕ) → length l ≤ i → sets l i b ≡ l
sets_out l [] i h = refl
sets_out l (x ∷ b) i h = ap (λ (m : List ℕ). sets m (suc i) b) (set_out l i x h) ∙ sets_out l b (suc i) (omega arith)

-- past the end nothing is stored, so a place may be brought back to the end
sets_clipped : (l b : List ℕ) (i : ℕ) → sets l (min i (length l)) b ≡ sets l i b
sets_clipped l b i = grind (arith, sets_out)

pub nothing : (l : List ℕ) (from : ℕ) → Written l l from (min from (length l)) []
nothing l from = record { buffer = refl; place = rw add-zero }

-- bytes stored from a place on lie over what is there
sets_behind : (x : ℕ) (l t : List ℕ) (i : ℕ) → sets (x ∷ l) (suc i) t ≡ x ∷ sets l i t
sets_behind x l [] i = refl
sets_behind x l (b ∷ t) i = sets_behind x (set l i b) t (suc i)

sets_over : (l t : List ℕ) → sets l 0 t ≡ overlaid t l
unfolding overlaid
sets_over l [] = sym (overlaid_none l)
sets_over [] (b ∷ t) = sets_out [] (b ∷ t) 0 (omega arith)
sets_over (x ∷ l) (b ∷ t) = sets_behind b l t 0 ∙ ap (λ (m : List ℕ). b ∷ m) (sets_over l t)

sets_from : (l t : List ℕ) (i : ℕ) → i ≤ length l → take i l ++ overlaid t (drop i l) ≡ sets l i t
sets_from l t zero h = sym (sets_over l t)
sets_from [] t (suc i) h = absurd (omega arith)
sets_from (x ∷ l) t (suc i) h = ap (λ (m : List ℕ). x ∷ m) (sets_from l t i (omega arith)) ∙ sym (sets_behind x l t i)

-- a text laid over the part of the buffer that begins at a place
pub laid : {l t v : List ℕ} {from k n : ℕ} → k ≡ min from (length l) → n ≡ min (length t) (length (take (length l - k) (drop k l)))
    → v ≡ overlaid t (take (length l - k) (drop k l)) → Written l (put_mid k (length l - k) l v) from (k + n) t
laid {l} {t} {v} {from} {k} {n} e d f =
    let none : length (drop k l) ≤ length l - k = simp length-drop (omega arith) in
    let room : length (take (length l - k) (drop k l)) ≡ length l - k = simp (length-take, length-drop) (omega arith) in
    record {
      buffer =
          rw (drop_of_length-le (drop k l) none, append-nil, f, part_to_end)
          (sets_from l t k (omega arith) ∙ ap (λ (i : ℕ). sets l i t) e ∙ sets_clipped l t from);
      place = omega (arith, room);
    }

module _ (l : List ℕ) (from b : ℕ) where
  pub byte_fits : from < length l → Written l (set l from b) from (from + 1) (b ∷ [])
  byte_fits h = record { buffer = refl; place = omega arith }

  pub byte_dropped : length l ≤ from → Written l l from (length l) (b ∷ [])
  byte_dropped h = record { buffer = sym (set_out l from b h); place = omega arith }

infixl 45 ◌then◌
pub ◌then◌ : {l m n : List ℕ} {from mid to : ℕ} {a b : List ℕ} → Written l m from mid a → Written m n mid to b → Written l n from to (a ++ b)
◌then◌ {l} {from = from} {mid = mid} {a = a} {b = b} p q = record {
  buffer =
      q.buffer
      ∙ ap (λ (k : List ℕ). sets k mid b) p.buffer
      ∙ ap (λ (k : ℕ). sets (sets l from a) k b) (p.place ∙ ap (min (from + length a)) (sym (length-sets l from a)))
      ∙ sets_clipped (sets l from a) b (from + length a)
      ∙ sym (sets_append l a b from);
  place = omega (arith, p.place, q.place, ap length p.buffer ∙ length-sets l from a, length-append a b);
}

infixl 45 ◌and◌
pub ◌and◌ : {l m n : Line} {a b : List ℕ} → Puts l m a → Puts m n b → Puts l n (a ++ b)
◌and◌ p q = record { same_buffer = q.same_buffer ∙ p.same_buffer; same_place = q.same_place ∙ p.same_place; text = p.text then q.text }

-- the promise leaves one content of the buffer and one place
pub written_once : {l m n : List ℕ} {from r s : ℕ} {t : List ℕ} → Written l m from r t → Written l n from s t → (m ≡ n) × (r ≡ s)
written_once p q = (p.buffer ∙ sym q.buffer, p.place ∙ sym q.place)
