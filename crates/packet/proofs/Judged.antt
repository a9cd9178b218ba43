-- What a list of cases answers, whatever the value.
use Prim.Native.Nat.{ℕ}
use mathlib.Core.Path.{◌≡◌, refl, sym}
use mathlib.Core.Bool.{Bool, true, false, cond}
use mathlib.Core.List.{List, [], ◌∷◌, ◌++◌}
use native.Mathlib.Omega.{arith}
use Rattle.packet.specs.Refusals.{Case, NoCase, Answer, accepted, refused, cause_of, judged, mapped}

-- no answer is both
pub never : {A : Type 0} (a : A) (n c : ℕ) → accepted a ≡ refused n c → ⊥
never a n c e = let z : ◌≡◌ {A = ℕ} 0 1 = cc in omega arith

-- what holds if a case refuses, and if none does, holds of two answers to the same cases
pub judged_both : {A B : Type 0} (P : Answer A → Answer B → Type 0) (cs : List Case) (a : A) (b : B)
    → ((n c : ℕ) → P (refused n c) (refused n c)) → (NoCase cs → P (accepted a) (accepted b)) → P (judged cs a) (judged cs b)
judged_both P [] a b refusing accepting = accepting tt
judged_both P (c ∷ cs) a b refusing accepting = by_case c.holds refl (λ later. judged_both P cs a b refusing later)
  where
    by_case : (t : Bool) → c.holds ≡ t → ((NoCase cs → P (accepted a) (accepted b)) → P (judged cs a) (judged cs b))
        → P (cond t (refused c.number (cause_of c.number)) (judged cs a)) (cond t (refused c.number (cause_of c.number)) (judged cs b))
    by_case true e later = refusing c.number (cause_of c.number)
    by_case false e later = later (λ h. accepting (e, h))

-- and of one
pub judged_one : {A : Type 0} (P : Answer A → Type 0) (cs : List Case) (a : A) → ((n c : ℕ) → P (refused n c)) → (NoCase cs → P (accepted a)) → P (judged cs a)
judged_one P cs a refusing accepting = judged_both (λ x y. P x) cs a a refusing accepting

-- a value made from the value is refused alike
pub judged_mapped : {A B : Type 0} (f : A → B) (cs : List Case) (a : A) → mapped f (judged cs a) ≡ judged cs (f a)
judged_mapped f cs a = judged_both (λ x y. mapped f x ≡ y) cs a (f a) (λ n c. refl) (λ none. refl)

-- no case holds: the value is accepted
pub accepts : {A : Type 0} (a : A) (cs : List Case) → NoCase cs → judged cs a ≡ accepted a
accepts a [] h = refl
accepts a (c ∷ cs) h = simp h.0 (accepts a cs h.1)

-- accepted: no case holds, and the value is the one that was given
pub meets_none : {A : Type 0} (cs : List Case) (a b : A) → judged cs a ≡ accepted b → NoCase cs × (a ≡ b)
meets_none cs a b = judged_one (λ x. x ≡ accepted b → NoCase cs × (a ≡ b)) cs a (λ n c e. absurd (never b n c (sym e))) (λ none e. (none, cc))

-- ---- a list of cases in two pieces

-- what comes after tests that were passed
abbrev pub and_then : {A : Type 0} → Answer (Unit {0}) → Answer A → Answer A
and_then (accepted u) a = a
and_then (refused n c) a = refused n c

pub judged_split : {A : Type 0} (cs ds : List Case) (a : A) → judged (cs ++ ds) a ≡ and_then (judged cs tt) (judged ds a)
judged_split [] ds a = refl
judged_split (c ∷ cs) ds a = by_case c.holds (judged_split cs ds a)
  where
    by_case : (t : Bool) → judged (cs ++ ds) a ≡ and_then (judged cs tt) (judged ds a)
        → cond t (refused c.number (cause_of c.number)) (judged (cs ++ ds) a)
        ≡ and_then (cond t (refused c.number (cause_of c.number)) (judged cs tt)) (judged ds a)
    by_case true h = refl
    by_case false h = h

pub none_of_both : (cs ds : List Case) → NoCase (cs ++ ds) → NoCase cs × NoCase ds
none_of_both [] ds none = (tt, none)
none_of_both (c ∷ cs) ds none = let both = none_of_both cs ds none.1 in ((none.0, both.0), both.1)
