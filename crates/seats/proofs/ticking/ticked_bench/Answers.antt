use mathlib.Core.Path.{ap}
use Rattle.std.proofs.Common.{rules}
use Rattle.base.proofs.Loops.{change_more, change_done}
use Rattle.record.specs.Record.{closed_seat, with_seats}
use Rattle.seats.specs.Ticking.{ticked_seat, ticked_bench}
use Rattle.seats.proofs.ticking.ticked_bench.Goals as goal

pub loop-s-preserved : goal.loop-s-preserved
loop-s-preserved c = change_more (ticked_seat c.args.ms) _ _ _ closed_seat _ (search rules) c.loop-s.invariant c.ticked_seat.ensures

pub returns : goal.returns
unfolding ticked_bench
returns c = ap (with_seats c.args.b) (change_done (ticked_seat c.args.ms) c.loop-s.s-index c.args.b.seats _ (search rules) c.loop-s.invariant)
