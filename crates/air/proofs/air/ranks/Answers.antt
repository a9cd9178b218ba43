use Rattle.std.proofs.Common.{rules}
use Rattle.record.proofs.Maps.{mapped}
use Rattle.air.specs.Marks.{with_rank}
use Rattle.air.proofs.air.ranks.Goals as goal

pub returns : goal.returns
returns c = mapped _ (with_rank c.args.healthy c.args.seats.now) _ (λ x y q k. search rules) 8 _ _ (search rules) c.map.ensures.items
