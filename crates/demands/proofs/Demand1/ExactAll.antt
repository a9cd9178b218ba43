-- Each refusal of the readers, the writers and every call in exactly its case, and in 01's orders.
use native.Mathlib.Omega.{arith}
use mathlib.Core.Path.{refl}
use Rattle.reader.specs.Reading.{reader_refusals}
use Rattle.writer.specs.Writing.{writer_refusals, write, buffered, put_refusals, put, after_put}
use Rattle.seats.specs.Opening.{open_refusals, seat_refusals}
use Rattle.sending.specs.Sending.{tick_refusals}
use Rattle.seats.specs.Radio.{side_refusals}
use Rattle.air.specs.Air.{among}
use Rattle.hearing.specs.Hearing.{message_refusals, packet_refusals}
use Rattle.reporting.specs.Reporting.{report_refusals}
use Rattle.demands.specs.ExactAll.{WritersExact, Orders, AllExact}
use Rattle.demands.proofs.Demand1.Exact.{exact_judged, readers_exact}
use Rattle.demands.proofs.Demand1.ExactCalls.{calls_exact}

writers_exact : WritersExact
unfolding write buffered put after_put
writers_exact = grind (arith, exact_judged)

orders : Orders
unfolding reader_refusals writer_refusals put_refusals open_refusals seat_refusals tick_refusals side_refusals message_refusals packet_refusals report_refusals
orders = grind arith

pub all_exact : AllExact
unfolding among
all_exact = record { readers = readers_exact; writers = writers_exact; calls = calls_exact; orders = orders; covered = refl }
