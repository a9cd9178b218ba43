-- Second witness of `air`: 01, Who is on the air, once more in its own words and in numbers. proofs/InWords holds the definitions of Air
-- and Order to it; none of them is cited. The codes of the PTT types: 1 Normal, 2 Coupling, 3 Priority, 4 Emergency, 5 Test.
use Rattle.std.specs.Prelude.{ℕ, suc, ◌≤◌, ◌<◌, ◌≡◌, true, false, cond, List, [], ◌∷◌, ◌↔◌, ◌⊎◌, eqb, length}
use Rattle.base.specs.Lists.{how_many}
use Rattle.record.specs.Record.{entry_of, seat_of}
use Rattle.record.specs.declared.seat.Field.{Field}
use Rattle.record.specs.declared.shown.Air.{Air}
use Rattle.record.specs.declared.whole.Bench.{Bench}

-- "Rank: Test, Coupling, Normal, Priority, Emergency, lowest first."
infix 40 ◌above◌
pub data ◌above◌ : (higher lower : ℕ) → Type 0 where
  coupling_test : 2 above 5
  normal_test : 1 above 5
  normal_coupling : 1 above 2
  priority_test : 3 above 5
  priority_coupling : 3 above 2
  priority_normal : 3 above 1
  emergency_test : 4 above 5
  emergency_coupling : 4 above 2
  emergency_normal : 4 above 1
  emergency_priority : 4 above 3

-- what seat n said last
abbrev pub last_field : Bench → (n : ℕ) → Field
last_field b n = (seat_of b.seats n).heard.field

-- "An open seat takes part if its last accepted packet since opening has PTT on and PM 0; a closed seat never does. If the transmitter is
-- unhealthy, nobody does."
pub record TakesPart (b : Bench) (n : ℕ) : Type 0 where
  pub healthy : b.healthy ≡ true
  pub is_open : (seat_of b.seats n).opened ≡ true
  pub not_off : 1 ≤ (last_field b n).ptt
  pub known : (last_field b n).ptt ≤ 5
  pub unmuted : (last_field b n).pm ≡ false

-- "At the top rank": it takes part, and nobody who does is above it.
pub record AtTop (b : Bench) (n : ℕ) : Type 0 where
  pub part : TakesPart b n
  pub none_above : (m : ℕ) → TakesPart b m → (last_field b m).ptt above (last_field b n).ptt → ⊥

-- "the order in which present keyings began": how many stand before seat n
unfoldable pub place_of : (n : ℕ) → List ℕ → ℕ
place_of n [] = 0
place_of n (k ∷ ks) = cond (eqb k n) 0 (suc (place_of n ks))

-- each seat has a place in it
abbrev pub EachPlaced : Bench → Type 0
EachPlaced b = (n : ℕ) → 1 ≤ n → n ≤ 8 → place_of n b.order < length b.order

-- ".. lockout puts on the air the seat whose present keying began first; summation, all of them."
pub data Leads (b : Bench) (n : ℕ) : Type 0 where
  all_of_them : AtTop b n → b.setup.equal_summation ≡ true → Leads b n
  the_first_one : AtTop b n → b.setup.equal_summation ≡ false
      → ((m : ℕ) → TakesPart b m → (last_field b m).ptt ≡ (last_field b n).ptt → place_of n b.order ≤ place_of m b.order) → Leads b n

-- "With coupling summation a participant keyed Coupling is added when the top rank is above Coupling."
pub record IsAdded (b : Bench) (n : ℕ) : Type 0 where
  pub mode : b.setup.coupling_summation ≡ true
  pub part : TakesPart b n
  pub coupling : (last_field b n).ptt ≡ 2
  pub other : ℕ
  pub takes_part : TakesPart b other
  pub higher : (last_field b other).ptt above 2

abbrev pub OnAir : Bench → (n : ℕ) → Type 0
OnAir b n = Leads b n ⊎ IsAdded b n

-- "PTTS: 1 if two or more seats are on the air, or a seat on the air last sent PTTS 1."
pub data TellsPtts (b : Bench) : Type 0 where
  several : (m n : ℕ) → OnAir b m → OnAir b n → (m ≡ n → ⊥) → TellsPtts b
  sent : (n : ℕ) → OnAir b n → (last_field b n).ptts ≡ true → TellsPtts b

-- What is shown of the air of bench b.
pub record Shows (b : Bench) (air : Air) : Type 0 where
  pub on : (n : ℕ) → (entry_of false air.on n ≡ true) ↔ OnAir b n
  -- "on the air at the top rank"
  pub leads : (n : ℕ) → (entry_of false air.leads n ≡ true) ↔ Leads b n
  -- Report to a seat: "PTT type: the top type, or off. ptt-id: 0 if off; .. else the smallest on the air at the top rank."
  pub nobody : ((n : ℕ) → TakesPart b n → ⊥) → (air.ptt ≡ 0) × (air.id ≡ 0)
  pub top_type : (n : ℕ) → AtTop b n → air.ptt ≡ (last_field b n).ptt
  pub an_id : (n : ℕ) → TakesPart b n → Leads b air.id
  pub smallest_id : (n : ℕ) → Leads b n → air.id ≤ n
  pub ptts : (air.ptts ≡ true) ↔ TellsPtts b

-- "A keying begins at the packet that brought the seat from off, muted or another type": what it said before, and what it says now.
pub record Begins (old new : Field) : Type 0 where
  pub on : 1 ≤ new.ptt
  pub known : new.ptt ≤ 5
  pub unmuted : new.pm ≡ false
  pub from : (old.ptt ≡ 0) ⊎ (old.pm ≡ true) ⊎ (old.ptt ≡ new.ptt → ⊥)

-- each seat stands once in the order
abbrev pub OnceEach : (order : List ℕ) → Type 0
OnceEach order = (n : ℕ) → 1 ≤ n → n ≤ 8 → how_many (λ m. eqb m n) order ≡ 1

-- The seat whose keying begins stands behind all others then, and these as they stood.
pub record MovedLast (n : ℕ) (old new : List ℕ) : Type 0 where
  pub behind : (k : ℕ) → 1 ≤ k → k ≤ 8 → (k ≡ n → ⊥) → place_of k new < place_of n new
  pub others : (j k : ℕ) → 1 ≤ j → j ≤ 8 → 1 ≤ k → k ≤ 8 → (j ≡ n → ⊥) → (k ≡ n → ⊥) → (place_of j new < place_of k new) ↔ (place_of j old < place_of k old)
