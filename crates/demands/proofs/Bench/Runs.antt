-- Induction over the calls of a run.
use mathlib.Core.List.{List, [], ◌∷◌}
use Rattle.bench.specs.Step.{Call, keeping, after}
use Rattle.record.specs.declared.whole.Bench.{Bench}

-- what every call keeps, a run keeps
pub after_run : (P : Bench → Type 0) → ((b : Bench) (c : Call) → P b → P (keeping b c).bench) → (b : Bench) (cs : List Call) → P b → P (after keeping b cs)
unfolding after
after_run P keeps b [] holds = holds
after_run P keeps b (c ∷ cs) holds = after_run P keeps (keeping b c).bench cs (keeps b c holds)
