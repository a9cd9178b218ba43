-- The bound of a seat's totals, computed.
use mathlib.Core.Path.{refl}
use Rattle.base.specs.Lists.{how_many}
use Rattle.base.specs.Order.{centred, distance, late, missing}
use Rattle.packet.specs.Packet.{payload, payload_allowed, field_allowed, after_field}
use Rattle.packet.specs.Items.{all_zero, items_behind, item_allowed, all_allowed, has_type, no_type_twice, run_allowed, items_allowed, items_of, climax_among, side_among, kept}
use Rattle.reader.specs.Reading.{reader_refusals, items_here, message_of}
use Rattle.writer.specs.Writing.{rising_items, item_bytes, words_of, head_of, encode}
use Rattle.record.specs.Kind.{kind_of}
use Rattle.record.specs.Record.{fresh_bench, seat_of, lesson}
use Rattle.seats.specs.Opening.{seat_refusals}
use Rattle.air.specs.Air.{takes_part, keyings_of, keyings, top_rank, at_rank, leaders, added, on_air, among, smallest, any_sends, air_of, bench_air}
use Rattle.hearing.specs.Account.{totals_after, total_too_large, totals_said}
use Rattle.hearing.specs.Hearing.{field_heard, keying_barred, id_allowed, side_barred, message_refusals, packet_refusals, heard_seat, takes_effect, side_after, heard_bench, same_field, is_sent, hearing, packet_said}
use Rattle.air.specs.Order.{begins, to_last, order_after}
use Rattle.bench.specs.Step.{does}
use Rattle.demands.specs.TotalsBound.{TotalsBound}

pub totals_bound : TotalsBound
unfolding centred distance late missing payload payload_allowed field_allowed after_field all_zero items_behind item_allowed all_allowed has_type no_type_twice run_allowed items_allowed items_of climax_among side_among kept reader_refusals items_here message_of rising_items item_bytes words_of head_of encode kind_of fresh_bench seat_of lesson takes_part keyings_of keyings top_rank at_rank leaders added on_air among smallest how_many any_sends air_of bench_air field_heard keying_barred id_allowed side_barred seat_refusals totals_after total_too_large totals_said message_refusals packet_refusals heard_seat begins to_last order_after takes_effect side_after heard_bench same_field is_sent hearing packet_said does
totals_bound =
    record {
      reaches = refl;
      reached = refl;
      passes = refl;
      passes_next = refl;
      leaps = refl;
      leaps_past = refl;
      side_first = refl;
      never_wraps = refl;
    }
