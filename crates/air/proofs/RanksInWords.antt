-- Ranks and keyings, in 01's words: what stands above what, and what the top rank is.
use Rattle.std.proofs.lemmas.Bool.Decides.{nat_tests}
use Prim.Native.Nat.{ℕ, zero, suc, ◌≤◌, ◌<◌}
use mathlib.Core.Path.{◌≡◌, refl}
use mathlib.Core.Bool.{Bool, true, false, cond, ◌&&◌, false≢true}
use mathlib.Core.List.{List, [], ◌∷◌}
use mathlib.Core.Logic.{◌⊎◌, inl, inr}
use native.Mathlib.Omega.{arith}
use lib.Dec.{leb, eqb}
use borrow.Author.Tests.{leb-true, leb-false}
use Rattle.record.specs.Record.{seat_of}
use Rattle.air.specs.Air.{rank, type_of, takes_part, keying_of, keyings_of, top_rank, at_rank, among}
use Rattle.air.specs.InWords.{◌above◌, coupling_test, normal_test, normal_coupling, priority_test, priority_coupling, priority_normal, emergency_test, emergency_coupling, emergency_normal, emergency_priority}
use Rattle.record.specs.declared.seat.Seat.{Seat}
use Rattle.air.proofs.Members.{chosen}

-- ---- ranks

pub each_type : (P : ℕ → Type 0) → P 1 × P 2 × P 3 × P 4 × P 5 → (ptt : ℕ) → 1 ≤ ptt → ptt ≤ 5 → P ptt
each_type P h zero low high = absurd (omega arith)
each_type P h (suc zero) low high = h.0
each_type P h (suc (suc zero)) low high = h.1
each_type P h (suc (suc (suc zero))) low high = h.2
each_type P h (suc (suc (suc (suc zero)))) low high = h.3
each_type P h (suc (suc (suc (suc (suc zero))))) low high = h.4
each_type P h (suc (suc (suc (suc (suc (suc ptt)))))) low high = absurd (omega arith)

pub above_higher : {p q : ℕ} → p above q → rank q < rank p
above_higher coupling_test = omega arith
above_higher normal_test = omega arith
above_higher normal_coupling = omega arith
above_higher priority_test = omega arith
above_higher priority_coupling = omega arith
above_higher priority_normal = omega arith
above_higher emergency_test = omega arith
above_higher emergency_coupling = omega arith
above_higher emergency_normal = omega arith
above_higher emergency_priority = omega arith

abbrev HigherIsAbove : (p q : ℕ) → Type 0
HigherIsAbove p q = rank q < rank p → p above q

pub higher_above : (p q : ℕ) → 1 ≤ p → p ≤ 5 → 1 ≤ q → q ≤ 5 → rank q < rank p → p above q
higher_above p q a c d e =
    each_type (λ p. HigherIsAbove p q) (
      each_type (HigherIsAbove 1) (no (omega arith), (λ h. normal_coupling), no (omega arith), no (omega arith), (λ h. normal_test)) q d e,
      each_type (HigherIsAbove 2) (no (omega arith), no (omega arith), no (omega arith), no (omega arith), (λ h. coupling_test)) q d e,
      each_type (HigherIsAbove 3) ((λ h. priority_normal), (λ h. priority_coupling), no (omega arith), no (omega arith), (λ h. priority_test)) q d e,
      each_type (HigherIsAbove 4) ((λ h. emergency_normal), (λ h. emergency_coupling), (λ h. emergency_priority), no (omega arith), (λ h. emergency_test)) q d e,
      each_type (HigherIsAbove 5) (no (omega arith), no (omega arith), no (omega arith), no (omega arith), no (omega arith)) q d e,
    )
    p a c
  where
    no : {j k : ℕ} {A : Type 0} → k ≤ j → j < k → A
    no h l = absurd (omega arith)

pub type_of_rank : (p : ℕ) → 1 ≤ p → p ≤ 5 → type_of (rank p) ≡ p
type_of_rank = each_type (λ p. type_of (rank p) ≡ p) (refl, refl, refl, refl, refl)

pub ranked : (p : ℕ) → 1 ≤ p → p ≤ 5 → 1 ≤ rank p
ranked = each_type (λ p. 1 ≤ rank p) (omega arith, omega arith, omega arith, omega arith, omega arith)

-- ---- keyings

module _ (healthy : Bool) (seats : List Seat) where
  abbrev rank_at : ℕ → ℕ
  rank_at n = rank (seat_of seats n).heard.field.ptt

  pub at_chosen : (r : ℕ) (ns : List ℕ) → at_rank r (keyings_of healthy seats ns) ≡ chosen (λ n. takes_part healthy (seat_of seats n) && eqb (rank_at n) r) ns
  unfolding at_rank keyings_of
  at_chosen r [] = refl
  at_chosen r (n ∷ ns) = grind (arith, nat_tests, at_chosen r ns)

  pub top_most : (ns : List ℕ) (n : ℕ) → among ns n ≡ true → takes_part healthy (seat_of seats n) ≡ true → rank_at n ≤ top_rank (keyings_of healthy seats ns)
  unfolding among keyings_of top_rank
  top_most [] n h part = absurd (false≢true h)
  top_most (k ∷ ns) n h part = grind (arith, nat_tests, top_most ns n)

  abbrev pub Met : ℕ → Type 0
  Met top = (m : ℕ) × (takes_part healthy (seat_of seats m) ≡ true) × (rank_at m ≡ top)

  pub top_met : (ns : List ℕ) → (top_rank (keyings_of healthy seats ns) ≡ 0) ⊎ Met (top_rank (keyings_of healthy seats ns))
  unfolding keyings_of top_rank
  top_met [] = inl refl
  top_met (k ∷ ns) = by_case (takes_part healthy (seat_of seats k)) (leb (top_rank (keyings_of healthy seats ns)) (rank_at k)) refl refl (top_met ns)
    where
      by_case : (t u : Bool) → takes_part healthy (seat_of seats k) ≡ t → leb (top_rank (keyings_of healthy seats ns)) (rank_at k) ≡ u
          → (top_rank (keyings_of healthy seats ns) ≡ 0) ⊎ Met (top_rank (keyings_of healthy seats ns))
          → let top = top_rank (cond t (keying_of seats k ∷ keyings_of healthy seats ns) (keyings_of healthy seats ns)) in (top ≡ 0) ⊎ Met top
      by_case false u e l met = met
      by_case true true e l met = inr (k, e, (let h = leb-true (top_rank (keyings_of healthy seats ns)) (rank_at k) l in omega arith))
      by_case true false e l (inl z) = absurd (omega (arith, leb-false (top_rank (keyings_of healthy seats ns)) (rank_at k) l))
      by_case true false e l (inr met) = inr (met.0, met.1, (let q = met.2 in omega (arith, leb-false (top_rank (keyings_of healthy seats ns)) (rank_at k) l)))

  pub none_keyed : (ns : List ℕ) → ((n : ℕ) → takes_part healthy (seat_of seats n) ≡ false) → keyings_of healthy seats ns ≡ []
  unfolding keyings_of
  none_keyed [] h = refl
  none_keyed (n ∷ ns) h = grind (arith, h n, none_keyed ns h)
