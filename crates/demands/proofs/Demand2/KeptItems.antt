-- What a message keeps of items that may stand: what they tell, wherever they stand.
use Prim.Native.Nat.{ℕ}
use mathlib.Core.Path.{◌≡◌, refl, sym, ◌∙◌}
use mathlib.Core.List.{List, [], ◌∷◌}
use mathlib.Core.Logic.{◌⊎◌, inl}
use native.Mathlib.Omega.{arith}
use borrow.Author.Tests.{le-leb, ne_eqb}
use Rattle.std.specs.Prelude.{None}
use Rattle.packet.specs.Items.{Item, sqi_among, climax_among, side_among, kept}
use Rattle.packet.specs.declared.message.Direction.{Direction}
use Rattle.packet.specs.declared.message.Direction.TheVariants.{Tx, Rx}
use Rattle.packet.specs.declared.message.Items.{Items}
use Rattle.demands.specs.LaidOut.{a_quality, a_delay, main, standby, stepped_over, AllStand, NoneOf, EachOnce, AllTold, Keeps}
use Rattle.demands.proofs.Demand2.RisingItems.{sqi_value, climax_value}
use Rattle.demands.proofs.Demand2.AllowedItems.{sqi_allowed_lem}

-- ---- what they tell is what is found among them

sqi_told_lem : (d : Direction) (is : List Item) (s : AllStand d is) (k : Items) → AllTold d is s k → (NoneOf 1 is → k.sqi ≡ None) → sqi_among is ≡ k.sqi
unfolding sqi_among
sqi_told_lem d [] s k t none = sym (none tt)
sqi_told_lem Rx (_ ∷ is) (a_quality q m h, s) k t none =
    let e = sqi_allowed_lem q m h in
    simp ((sqi_value q m e).0, (sqi_value q m e).1) (sym t.0)
sqi_told_lem Tx (_ ∷ is) (a_delay v h, s) k t none = sqi_told_lem Tx is s k t.1 (λ n. none ((λ e. omega arith), n))
sqi_told_lem d (_ ∷ is) (main _, s) k t none = sqi_told_lem d is s k t.1 (λ n. none ((λ e. omega arith), n))
sqi_told_lem d (_ ∷ is) (standby _, s) k t none = sqi_told_lem d is s k t.1 (λ n. none ((λ e. omega arith), n))
sqi_told_lem d (_ ∷ is) (stepped_over _ v h, s) k t none = sqi_told_lem d is s k t.1 (λ n. none ((λ e. omega arith), n))

climax_told : (d : Direction) (is : List Item) (s : AllStand d is) (k : Items) → AllTold d is s k → (NoneOf 2 is → k.climax ≡ None)
    → climax_among is ≡ k.climax
unfolding climax_among
climax_told d [] s k t none = sym (none tt)
climax_told Rx (_ ∷ is) (a_quality q m h, s) k t none = climax_told Rx is s k t.1 (λ n. none ((λ e. omega arith), n))
climax_told Tx (_ ∷ is) (a_delay v h, s) k t none = simp (climax_value v (le-leb v 127 h)).0 (sym t.0)
climax_told d (_ ∷ is) (main _, s) k t none = climax_told d is s k t.1 (λ n. none ((λ e. omega arith), n))
climax_told d (_ ∷ is) (standby _, s) k t none = climax_told d is s k t.1 (λ n. none ((λ e. omega arith), n))
climax_told d (_ ∷ is) (stepped_over _ v h, s) k t none = climax_told d is s k t.1 (λ n. none ((λ e. omega arith), n))

side_told : (d : Direction) (is : List Item) (s : AllStand d is) (k : Items) → AllTold d is s k → (NoneOf 5 is → k.side ≡ None) → side_among is ≡ k.side
unfolding side_among
side_told d [] s k t none = sym (none tt)
side_told Rx (_ ∷ is) (a_quality q m h, s) k t none = side_told Rx is s k t.1 (λ n. none ((λ e. omega arith), n))
side_told Tx (_ ∷ is) (a_delay v h, s) k t none = side_told Tx is s k t.1 (λ n. none ((λ e. omega arith), n))
side_told d (_ ∷ is) (main _, s) k t none = sym t.0
side_told d (_ ∷ is) (standby _, s) k t none = sym t.0
side_told d (_ ∷ is) (stepped_over _ v h, s) k t none = side_told d is s k t.1 (λ n. none ((λ e. omega arith), n))

pub kept_are : (d : Direction) (is : List Item) (s : AllStand d is) (k : Items) → Keeps d is s k → kept is ≡ k
unfolding kept
kept_are d is s k h = grind (arith, climax_told, side_told, sqi_told_lem)

-- ---- what is found among them is what they tell, where no type comes twice

-- a type that is found further on, or no more
abbrev Further : ℕ → List Item → Type 0 → Type 0
Further t is A = NoneOf t is ⊎ A

onward : {A : Type 0} (t : ℕ) (i : Item) (is : List Item) → Further t (i ∷ is) A → Further t is A
onward t i is h = grind arith

found_here : {A : Type 0} (t : ℕ) (i : Item) (is : List Item) → i.type ≡ t → Further t (i ∷ is) A → A
found_here t i is e h = grind arith

all_told : (d : Direction) (is : List Item) (s : AllStand d is) (k : Items) → EachOnce is → Further 1 is (k.sqi ≡ sqi_among is)
    → Further 2 is (k.climax ≡ climax_among is) → Further 5 is (k.side ≡ side_among is) → AllTold d is s k
unfolding sqi_among climax_among side_among
all_told d [] s k o a b c = tt
all_told Rx (i ∷ is) (a_quality q m h, s) k o a b c =
    let e = sqi_allowed_lem q m h in
    (found_here 1 i is refl a ∙ simp ((sqi_value q m e).0, (sqi_value q m e).1), all_told Rx is s k o.1 (inl o.0) (onward 2 i is b) (onward 5 i is c))
all_told Tx (i ∷ is) (a_delay v h, s) k o a b c =
    (found_here 2 i is refl b ∙ simp (climax_value v (le-leb v 127 h)).0, all_told Tx is s k o.1 (onward 1 i is a) (inl o.0) (onward 5 i is c))
all_told d (i ∷ is) (main _, s) k o a b c = (found_here 5 i is refl c, all_told d is s k o.1 (onward 1 i is a) (onward 2 i is b) (inl o.0))
all_told d (i ∷ is) (standby _, s) k o a b c = (found_here 5 i is refl c, all_told d is s k o.1 (onward 1 i is a) (onward 2 i is b) (inl o.0))
all_told d (i ∷ is) (stepped_over _ v h, s) k o a b c = (tt, all_told d is s k o.1 (onward 1 i is a) (onward 2 i is b) (onward 5 i is c))

none_sqi : (is : List Item) → NoneOf 1 is → sqi_among is ≡ None
unfolding sqi_among
none_sqi [] n = refl
none_sqi (i ∷ is) n = simp (ne_eqb i.type 1 n.0) (none_sqi is n.1)

none_climax : (is : List Item) → NoneOf 2 is → climax_among is ≡ None
unfolding climax_among
none_climax [] n = refl
none_climax (i ∷ is) n = simp (ne_eqb i.type 2 n.0) (none_climax is n.1)

none_side : (is : List Item) → NoneOf 5 is → side_among is ≡ None
unfolding side_among
none_side [] n = refl
none_side (i ∷ is) n = simp (ne_eqb i.type 5 n.0) (none_side is n.1)

pub keeps_found : (d : Direction) (is : List Item) (s : AllStand d is) → EachOnce is → Keeps d is s (kept is)
unfolding kept
keeps_found d is s once = grind (arith, all_told, none_climax, none_side, none_sqi)
