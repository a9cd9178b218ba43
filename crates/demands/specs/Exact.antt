-- Demand 1: "Each refusal comes in exactly the case document 01 gives for it, and changes neither the bench nor a byte of any buffer."
-- So: refused with n exactly if n's case holds and no earlier case of the list does; accepted exactly if none holds.
use Rattle.std.specs.Prelude.{ℕ, ◌≡◌, List}
use Rattle.packet.specs.Refusals.{Case, FirstCase, NoCase, Answer, accepted, refused, cause_of}
use Rattle.reader.specs.Reading.{reader_refusals, read_tx, read_rx}
use Rattle.packet.specs.declared.message.Direction.TheVariants as direction

pub record Exact {A : Type 0} (cases : List Case) (answer : Answer A) : Type 0 where
  -- its case holds and no earlier one does: it refuses, with its cause
  pub refuses : (n : ℕ) → FirstCase n cases → answer ≡ refused n (cause_of n)
  -- and it refuses in no other case
  pub only_then : (n cause : ℕ) → answer ≡ refused n cause → FirstCase n cases × (cause ≡ cause_of n)
  -- no case holds: a value
  pub accepts : NoCase cases → (a : A) × (answer ≡ accepted a)
  -- and a value in no other case
  pub meets_none : (a : A) → answer ≡ accepted a → NoCase cases

-- The readers, for every extension type and every list of bytes.
pub record ReadersExact : Type 0 where
  pub of_tx : (ext : ℕ) (p : List ℕ) → Exact (reader_refusals direction.Tx ext p) (read_tx ext p)
  pub of_rx : (ext : ℕ) (p : List ℕ) → Exact (reader_refusals direction.Rx ext p) (read_rx ext p)
