-- What a test made of others says of each of them; facts in a row.
use Prim.Native.Nat.{ℕ, ◌≤◌}
use mathlib.Core.Path.{◌≡◌, refl}
use mathlib.Core.Bool.{Bool, true, false, cond, not, ◌&&◌, ◌||◌}
use lib.Dec.{lit≤}
use Rattle.base.specs.Bytes.{bit}

pub and_left : (a b : Bool) → a && b ≡ true → a ≡ true
and_left true b e = refl
and_left false b e = e

pub and_right : (a b : Bool) → a && b ≡ true → b ≡ true
and_right true b e = e
and_right false b e = cc

pub and_true : (a : Bool) → a && true ≡ a
and_true true = refl
and_true false = refl

pub and_none : (a : Bool) → a && false ≡ false
and_none true = refl
and_none false = refl

pub and_not : (a : Bool) → a && not a ≡ false
and_not true = refl
and_not false = refl

pub or_none : (a : Bool) → a || false ≡ a
or_none true = refl
or_none false = refl

pub or_true : (a : Bool) → a || true ≡ true
or_true true = refl
or_true false = refl

pub or_left : (a b : Bool) → a || b ≡ false → a ≡ false
or_left true b e = e
or_left false b e = refl

pub or_right : (a b : Bool) → a || b ≡ false → b ≡ false
or_right true b e = cc
or_right false b e = e

-- a choice between the same
pub either_way : {A : Type 0} (t : Bool) (a : A) → cond t a a ≡ a
either_way true a = refl
either_way false a = refl

-- a choice between numbers that are both small
pub either_most : {k : ℕ} (t : Bool) (a b : ℕ) → a ≤ k → b ≤ k → cond t a b ≤ k
either_most true a b h l = h
either_most false a b h l = l

pub bit_most : (b : Bool) → bit b ≤ 1
bit_most b = either_most b 1 0 (lit≤ tt) (lit≤ tt)

-- where one side of a test does not decide it, the other does
pub and_rest : (a b : Bool) → a && b ≡ false → a ≡ true → b ≡ false
and_rest true b e h = e
and_rest false b e h = cc

pub or_rest : (a b : Bool) → a || b ≡ true → a ≡ false → b ≡ true
or_rest true b e h = cc
or_rest false b e h = e

-- facts one behind the other, for statements over each entry of a list
infixr 20 ◌and◌
abbrev pub ◌and◌ : {A B : Type 0} → A → B → A × B
a and b = (a, b)
