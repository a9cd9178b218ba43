-- The one difference between two ticks and the tick of their sum, and the numbers that run further, computed.
use mathlib.Core.Path.{refl}
use Rattle.base.specs.Lists.{how_many}
use Rattle.writer.specs.Writing.{rising_items, item_bytes, words_of, head_of, encode}
use Rattle.record.specs.Kind.{kind_of}
use Rattle.record.specs.Record.{opened_seat, fresh_bench, seat_of, lesson}
use Rattle.air.specs.Air.{takes_part, keyings_of, keyings, top_rank, at_rank, leaders, added, on_air, among, smallest, any_sends, air_of, bench_air}
use Rattle.seats.specs.Opening.{open_refusals, open_said, opened_bench}
use Rattle.seats.specs.Ticking.{falls_silent, is_due, ticked_seat, ticked_bench}
use Rattle.reporting.specs.Reporting.{report_of, report_bytes}
use Rattle.sending.specs.Sending.{tick_refusals, records_from, records, one_further, sent_bench, tick_said}
use Rattle.bench.specs.Step.{does, after}
use Rattle.demands.specs.OneDifference.{OneDifference}

pub one_difference_seen : OneDifference
unfolding how_many rising_items item_bytes words_of head_of encode kind_of opened_seat fresh_bench seat_of lesson takes_part keyings_of keyings top_rank at_rank leaders added on_air among smallest any_sends air_of bench_air open_refusals open_said opened_bench falls_silent is_due ticked_seat ticked_bench report_of report_bytes tick_refusals records_from records one_further sent_bench tick_said does after
one_difference_seen = record { first = refl; second = refl; merged = refl; merged_numbers = refl; same_but_numbers = refl }
