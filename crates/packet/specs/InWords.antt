-- Second witness of `packet`: the form in which 01's table of refusals is said once more, and the quality of a level.
use Rattle.std.specs.Prelude.{ℕ, ◌+◌, ◌*◌, ◌-◌, ◌≤◌, ◌<◌, ◌≡◌, List, [], ◌∷◌, ◌↔◌, ◌⊎◌, ℤ, pos, neg_ℤ}
use Rattle.packet.specs.Refusals.{Answer, accepted, refused}

-- 01, What is turned away. A table says for each number and cause when it is met ("No. | When"), and an order in which its numbers are
-- asked ("Orders"). The first that is met:
abbrev pub FirstMet : (Met : (number cause : ℕ) → Type 0) → (order : List ℕ) → (number cause : ℕ) → Type 0
FirstMet Met [] number cause = ⊥
FirstMet Met (n ∷ order) number cause = ((number ≡ n) × Met number cause) ⊎ (((c : ℕ) → Met n c → ⊥) × FirstMet Met order number cause)

abbrev pub NoneMet : (Met : (number cause : ℕ) → Type 0) → (order : List ℕ) → Type 0
NoneMet Met [] = Unit {0}
NoneMet Met (n ∷ order) = ((c : ℕ) → Met n c → ⊥) × NoneMet Met order

-- "Each refusal returns its number and cause": an answer refuses with the first that is met, and with nothing else.
pub record TurnedAway {A : Type 0} (Met : (number cause : ℕ) → Type 0) (order : List ℕ) (answer : Answer A) : Type 0 where
  pub refuses : (number cause : ℕ) → (answer ≡ refused number cause) ↔ FirstMet Met order number cause
  pub accepts : ((a : A) × (answer ≡ accepted a)) ↔ NoneMet Met order

-- "quality 0 below -100 dBm, 15 above -70, between them the floor of (level + 100)/2"; in tenths, 02, request 3: "0 below -1000, 15 above
-- -700, between them the floor of (level + 1000)/20"
pub record IsQuality (level : ℤ) (q : ℕ) : Type 0 where
  pub below : (k : ℕ) → 1000 < k → level ≡ neg_ℤ (pos k) → q ≡ 0
  pub between : (k : ℕ) → 700 ≤ k → k ≤ 1000 → level ≡ neg_ℤ (pos k) → (20 * q ≤ 1000 - k) × (1000 - k < 20 * q + 20)
  pub over : (k : ℕ) → k < 700 → level ≡ neg_ℤ (pos k) → q ≡ 15
  pub above_zero : (k : ℕ) → level ≡ pos k → q ≡ 15
