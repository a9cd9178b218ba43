-- Computed.
use mathlib.Core.Path.{refl}
use Rattle.base.proofs.Truths.{◌and◌}
use Rattle.base.specs.Lists.{how_many}
use Rattle.base.specs.Order.{centred, distance, late, missing}
use Rattle.packet.specs.Packet.{payload, payload_allowed, field_allowed, after_field}
use Rattle.packet.specs.Items.{all_zero, items_behind, item_allowed, all_allowed, has_type, no_type_twice, run_allowed, items_allowed, items_of, sqi_among, climax_among, side_among, kept}
use Rattle.packet.specs.Quality.{quality}
use Rattle.reader.specs.Reading.{reader_refusals, items_here, message_of, read, read_tx, read_rx}
use Rattle.writer.specs.Writing.{rising_items, item_bytes, words_of, head_of, encode, writable, writer_refusals, write}
use Rattle.record.specs.Kind.{kind_of}
use Rattle.record.specs.Record.{opened_seat, fresh_bench, seat_of, lesson}
use Rattle.seats.specs.Opening.{any_coupling, open_refusals, open_said, opened_bench, seat_refusals, seat_verdict, close_said}
use Rattle.seats.specs.Radio.{side_refusals, side_said}
use Rattle.air.specs.Air.{takes_part, keyings_of, keyings, top_rank, at_rank, leaders, added, on_air, among, smallest, any_sends, air_of, bench_air}
use Rattle.hearing.specs.Account.{totals_after, total_too_large, totals_said}
use Rattle.hearing.specs.Hearing.{field_heard, keying_barred, id_allowed, side_barred, message_refusals, packet_refusals, heard_seat, takes_effect, side_after, heard_bench, same_field, is_sent, hearing, packet_said}
use Rattle.air.specs.Order.{begins, to_last, order_after}
use Rattle.reporting.specs.Reporting.{report_of, report_bytes, report_refusals, report_said, reported_bench}
use Rattle.bench.specs.Step.{does, after}
use Rattle.sending.specs.Sending.{tick_refusals, tick_said}
use Rattle.demands.specs.EachRefusal.{EachRefusal}

pub each_refusal : EachRefusal
unfolding centred distance late missing payload payload_allowed field_allowed after_field all_zero items_behind item_allowed all_allowed has_type no_type_twice run_allowed items_allowed items_of sqi_among climax_among side_among kept quality reader_refusals items_here message_of read read_tx read_rx rising_items item_bytes words_of head_of encode writable writer_refusals write kind_of opened_seat fresh_bench seat_of lesson any_coupling open_refusals open_said opened_bench takes_part keyings_of keyings top_rank at_rank leaders added on_air among smallest how_many any_sends air_of bench_air field_heard keying_barred id_allowed side_barred seat_refusals seat_verdict close_said side_refusals side_said totals_after total_too_large totals_said message_refusals packet_refusals heard_seat begins to_last order_after takes_effect side_after heard_bench same_field is_sent hearing packet_said report_of report_bytes report_refusals report_said reported_bench does after tick_refusals tick_said
each_refusal =
    record {
      reads = refl;
      writes = refl;
      reads_tx = refl;
      writes_tx = refl;
      reads_rx = refl;
      writes_rx = refl;
      turned_away = (refl, refl) and (refl, refl) and (refl, refl) and (refl, refl) and (refl, refl) and (refl, refl) and (refl, refl) and (refl, refl) and (refl, refl) and (refl, refl) and (refl, refl) and (refl, refl) and (refl, refl) and (refl, refl) and (refl, refl) and (refl, refl) and (refl, refl) and (refl, refl) and (refl, refl) and (refl, refl) and (refl, refl) and (refl, refl) and (refl, refl) and (refl, refl) and (refl, refl) and refl and refl and refl and refl and refl and refl and refl and refl and refl and refl and refl and refl and refl and refl and refl and refl and refl and refl and refl and refl and refl and refl and refl and refl and refl and refl and refl and tt;
      unwritable = refl;
    }
