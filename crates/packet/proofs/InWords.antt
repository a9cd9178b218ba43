-- The definitions of this crate, held to InWords.
use Prim.Native.Nat.{ℕ, zero, suc, ◌+◌, ◌*◌, ◌-◌, ◌≤◌, ◌<◌}
use mathlib.Core.Path.{◌≡◌, refl, sym, ap, subst, ◌∙◌}
use mathlib.Core.Bool.{Bool, true, false, cond, ◌&&◌, false≢true}
use mathlib.Core.List.{List, [], ◌∷◌, ◌++◌}
use mathlib.Core.Logic.{inl, inr}
use native.Mathlib.Omega.{arith}
use lib.IntN.{ℤ, pos, neg_ℤ}
use lib.Dec.{leb}
use borrow.Author.Tests.{lt-ltb, le-ltb, leb-true}
use Rattle.base.proofs.Truths.{and_left, and_right}
use Rattle.packet.specs.Refusals.{Case, NoCase, accepted, refused, cause_of, judged}
use Rattle.packet.specs.Quality.{quality}
use Rattle.packet.specs.InWords.{FirstMet, NoneMet, TurnedAway, IsQuality}
use Rattle.packet.proofs.Judged.{never}
use Rattle.packet.proofs.QualityLaws.{below_zero}

-- ---- a table in words, and a list of cases

-- a test and the line of a table with its number say the same
pub record MetIf (Met : (number cause : ℕ) → Type 0) (number : ℕ) (holds : Bool) : Type 0 where
  pub if_holds : holds ≡ true → Met number (cause_of number)
  pub only_if : (cause : ℕ) → Met number cause → (holds ≡ true) × (cause ≡ cause_of number)

-- and so do all of a list, each where none before it holds
abbrev pub Agree : (Met : (number cause : ℕ) → Type 0) → List Case → Type 0
Agree Met [] = Unit {0}
Agree Met (c ∷ cs) = MetIf Met c.number c.holds × (c.holds ≡ false → Agree Met cs)

abbrev pub numbers : List Case → List ℕ
numbers [] = []
numbers (c ∷ cs) = c.number ∷ numbers cs

module _ {A : Type 0} (Met : (number cause : ℕ) → Type 0) (a : A) where
  not_met : (n : ℕ) (t : Bool) → t ≡ false → MetIf Met n t → (c : ℕ) → Met n c → ⊥
  not_met n t e line c m = false≢true (sym e ∙ (line.only_if c m).0)

  not_held : (n : ℕ) (t : Bool) → MetIf Met n t → ((c : ℕ) → Met n c → ⊥) → t ≡ false
  not_held n true line none = absurd (none (cause_of n) (line.if_holds refl))
  not_held n false line none = refl

  refused_first : (cs : List Case) → Agree Met cs → (n k : ℕ) → judged cs a ≡ refused n k → FirstMet Met (numbers cs) n k
  refused_first [] agree n k e = absurd (never a n k e)
  refused_first (c ∷ cs) agree n k e = by_case c.holds refl e (λ h. refused_first cs (agree.1 h) n k)
    where
      by_case : (t : Bool) → c.holds ≡ t → cond t (refused c.number (cause_of c.number)) (judged cs a) ≡ refused n k
          → (c.holds ≡ false → judged cs a ≡ refused n k → FirstMet Met (numbers cs) n k) → FirstMet Met (numbers (c ∷ cs)) n k
      by_case true h q later =
          let number : c.number ≡ n = cc in
          let cause : cause_of c.number ≡ k = cc in
          inl (sym number, subst (λ (j : ℕ). Met j k) number (subst (Met c.number) cause (agree.0.if_holds h)))
      by_case false h q later = inr (not_met c.number c.holds h agree.0, later h q)

  first_refused : (cs : List Case) → Agree Met cs → (n k : ℕ) → FirstMet Met (numbers cs) n k → judged cs a ≡ refused n k
  first_refused [] agree n k none = absurd none
  first_refused (c ∷ cs) agree n k (inl m) =
      let r = agree.0.only_if k (subst (λ (j : ℕ). Met j k) m.0 m.1) in
      simp (r.0, m.0, r.1)
  first_refused (c ∷ cs) agree n k (inr m) =
      let out = not_held c.number c.holds agree.0 m.0 in
      simp out (first_refused cs (agree.1 out) n k m.1)

  accepted_none : (cs : List Case) → Agree Met cs → (b : A) → judged cs a ≡ accepted b → NoneMet Met (numbers cs)
  accepted_none [] agree b e = tt
  accepted_none (c ∷ cs) agree b e = by_case c.holds refl e (λ h. accepted_none cs (agree.1 h) b)
    where
      by_case : (t : Bool) → c.holds ≡ t → cond t (refused c.number (cause_of c.number)) (judged cs a) ≡ accepted b
          → (c.holds ≡ false → judged cs a ≡ accepted b → NoneMet Met (numbers cs)) → NoneMet Met (numbers (c ∷ cs))
      by_case true h q later = absurd (never b _ _ (sym q))
      by_case false h q later = (not_met c.number c.holds h agree.0, later h q)

  none_accepted : (cs : List Case) → Agree Met cs → NoneMet Met (numbers cs) → judged cs a ≡ accepted a
  none_accepted [] agree none = refl
  none_accepted (c ∷ cs) agree none =
      let out = not_held c.number c.holds agree.0 none.0 in
      simp out (none_accepted cs (agree.1 out) none.1)

  pub turned_away : (cs : List Case) → Agree Met cs → TurnedAway Met (numbers cs) (judged cs a)
  turned_away cs agree =
      record {
        refuses = λ n k. (refused_first cs agree n k, first_refused cs agree n k);
        accepts = (λ r. accepted_none cs agree r.0 r.1, λ none. (a, none_accepted cs agree none));
      }

-- a line of one table that another has too
pub met_alike : {Met Other : (number cause : ℕ) → Type 0} {n : ℕ} {t : Bool} → MetIf Met n t
    → ((c : ℕ) → Met n c → Other n c) → ((c : ℕ) → Other n c → Met n c) → MetIf Other n t
met_alike {n = n} line to from = record { if_holds = λ e. to (cause_of n) (line.if_holds e); only_if = λ c m. line.only_if c (from c m) }

-- a list in two pieces
pub agree_both : (Met : (number cause : ℕ) → Type 0) (cs ds : List Case) → Agree Met cs → (NoCase cs → Agree Met ds) → Agree Met (cs ++ ds)
agree_both Met [] ds first second = second tt
agree_both Met (c ∷ cs) ds first second = (first.0, λ h. agree_both Met cs ds (first.1 h) (λ none. second (h, none)))

-- a table that is another for the numbers of a list
abbrev pub within : (low high : ℕ) → List Case → Bool
within low high [] = true
within low high (c ∷ cs) = leb low c.number && leb c.number high && within low high cs

pub agree_alike : {Met Other : (number cause : ℕ) → Type 0} (low high : ℕ) (cs : List Case) → within low high cs ≡ true → ((n c : ℕ) → Met n c → Other n c)
    → ((n c : ℕ) → low ≤ n → n ≤ high → Other n c → Met n c) → Agree Met cs → Agree Other cs
agree_alike low high [] inside to from agree = tt
agree_alike low high (c ∷ cs) inside to from agree =
    let both = and_left (leb low c.number && leb c.number high) (within low high cs) inside in
    let above = leb-true low c.number (and_left (leb low c.number) (leb c.number high) both) in
    let below = leb-true c.number high (and_right (leb low c.number) (leb c.number high) both) in (
      met_alike agree.0 (to c.number) (λ k. from c.number k above below),
      λ h. agree_alike low high cs (and_right (leb low c.number && leb c.number high) (within low high cs) inside) to from (agree.1 h),
    )

-- ---- the quality of a level

pub is_quality : (level : ℤ) → IsQuality level (quality level)
unfolding quality
is_quality level =
    record {
      below = λ k h e. ap quality e ∙ below k h;
      between = λ k low high e. subst (λ (q : ℕ). (20 * q ≤ 1000 - k) × (1000 - k < 20 * q + 20)) (sym (ap quality e)) (between k low high);
      over = λ k h e. ap quality e ∙ over k h;
      above_zero = λ k e. ap quality e;
    }
  where
    below : (k : ℕ) → 1000 < k → quality (neg_ℤ (pos k)) ≡ 0
    below zero h = absurd (omega arith)
    below (suc n) h = let none : 999 - n ≡ 0 = omega arith in below_zero n ∙ rw (le-ltb n 699 (omega arith), none)

    between : (k : ℕ) → 700 ≤ k → k ≤ 1000 → (20 * quality (neg_ℤ (pos k)) ≤ 1000 - k) × (1000 - k < 20 * quality (neg_ℤ (pos k)) + 20)
    between zero low high = absurd (omega arith)
    between (suc n) low high = rw (below_zero n, le-ltb n 699 (omega arith)) (omega arith, omega arith)

    over : (k : ℕ) → k < 700 → quality (neg_ℤ (pos k)) ≡ 15
    over zero h = refl
    over (suc n) h = below_zero n ∙ rw (lt-ltb n 699 (omega arith))
