use Rattle.std.proofs.Common.{rules}
use Rattle.record.proofs.Maps.{mapped}
use Rattle.seats.specs.Ticking.{is_due}
use Rattle.seats.proofs.ticking.due_seats.Goals as goal

pub returns : goal.returns
returns c = mapped _ (is_due c.args.ms) _ (λ x y q k. search rules) 8 _ _ (search rules) c.map.ensures.items
