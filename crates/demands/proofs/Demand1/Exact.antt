-- Each refusal in exactly its case.
use native.Mathlib.Omega.{arith}
use Prim.Native.Nat.{ℕ}
use mathlib.Core.Path.{◌≡◌, refl, ap}
use mathlib.Core.Bool.{Bool, true, false, cond, ◌&&◌, ◌||◌}
use mathlib.Core.List.{List, [], ◌∷◌}
use mathlib.Core.Logic.{inl, inr}
use lib.Dec.{eqb}
use borrow.Author.Tests.{eq-eqb}
use Rattle.base.proofs.Truths.{and_none}
use Rattle.packet.specs.Refusals.{Case, FirstCase, refused, cause_of, judged}
use Rattle.reader.specs.Reading.{read, read_tx, read_rx}
use Rattle.packet.proofs.Judged.{never, judged_mapped, accepts, meets_none}
use Rattle.demands.specs.Exact.{Exact, ReadersExact}

module _ {A : Type 0} (a : A) where
  refuses : (cs : List Case) (n : ℕ) → FirstCase n cs → judged cs a ≡ refused n (cause_of n)
  refuses [] n f = absurd f
  refuses (c ∷ cs) n (inl h) = simp (h.0, h.1)
  refuses (c ∷ cs) n (inr h) = simp h.0 (refuses cs n h.1)

  only_then : (cs : List Case) (n k : ℕ) → judged cs a ≡ refused n k → FirstCase n cs × (k ≡ cause_of n)
  only_then [] n k e = absurd (never a n k e)
  only_then (c ∷ cs) n k e = by_case c.holds refl e (λ q. only_then cs n k q)
    where
      by_case : (t : Bool) → c.holds ≡ t → cond t (refused c.number (cause_of c.number)) (judged cs a) ≡ refused n k
          → (judged cs a ≡ refused n k → FirstCase n cs × (k ≡ cause_of n)) → FirstCase n (c ∷ cs) × (k ≡ cause_of n)
      by_case true p q later = let m : c.number ≡ n = cc in (inl (p, m), cc (ap cause_of m))
      by_case false p q later = (inr (p, (later q).0), (later q).1)

  pub exact_judged : (cs : List Case) → Exact cs (judged cs a)
  exact_judged cs =
      record { refuses = refuses cs; only_then = only_then cs; accepts = λ h. (a, accepts a cs h); meets_none = λ b e. (meets_none cs a b e).0 }

-- whether a case of that number holds
unfoldable pub holds_for : ℕ → List Case → Bool
holds_for n [] = false
holds_for n (c ∷ cs) = (eqb c.number n && c.holds) || holds_for n cs

-- of the number that is answered one does
pub first_holds : (n : ℕ) (cs : List Case) → FirstCase n cs → holds_for n cs ≡ true
unfolding holds_for
first_holds n [] none = absurd none
first_holds n (c ∷ cs) (inl h) = simp (h.0, eq-eqb c.number n h.1)
first_holds n (c ∷ cs) (inr h) = simp (h.0, and_none, first_holds n cs h.1)

pub readers_exact : ReadersExact
unfolding read read_tx read_rx
readers_exact = grind (arith, exact_judged, judged_mapped)
