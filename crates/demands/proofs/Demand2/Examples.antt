-- 01's examples, computed.
use mathlib.Core.Path.{refl}
use Rattle.base.proofs.Truths.{◌and◌}
use Rattle.base.specs.Order.{centred, distance, late, missing}
use Rattle.packet.specs.Quality.{quality}
use Rattle.packet.specs.Packet.{payload, payload_allowed, field_allowed, after_field}
use Rattle.packet.specs.Items.{all_zero, items_behind, item_allowed, all_allowed, has_type, no_type_twice, run_allowed, items_allowed, items_of, sqi_among, climax_among, side_among, kept}
use Rattle.reader.specs.Reading.{reader_refusals, items_here, message_of, read, read_tx, read_rx}
use Rattle.writer.specs.Writing.{rising_items, item_bytes, words_of, head_of, encode}
use Rattle.demands.specs.Examples.{Examples}

pub examples : Examples
unfolding payload payload_allowed field_allowed after_field all_zero items_behind item_allowed all_allowed has_type no_type_twice run_allowed items_allowed items_of sqi_among climax_among side_among kept reader_refusals items_here message_of read read_tx read_rx rising_items item_bytes words_of head_of encode quality centred distance late missing
examples =
    (refl, refl) and (refl, refl) and (refl, refl) and (refl, refl)
    and refl and refl and refl and refl and refl
    and refl and refl and refl and refl and refl and refl and refl and refl
    and refl and refl and refl
    and tt
