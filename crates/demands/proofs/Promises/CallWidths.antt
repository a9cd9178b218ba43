-- The kinds of the code's parameters, as the kit reads them off the source.
use mathlib.Core.Path.{refl}
use Rattle.demands.specs.CallWidths.{CallWidths}

pub call_widths : CallWidths
call_widths =
    record {
      received = record { bench = _; more = _; are = refl };
      transmitter = record { bench = _; more = _; are = refl };
      side = record { bench = _; more = _; are = refl };
      opening = record { bench = _; request = _; are = refl; name = _; call = _; fields = refl };
      closing = record { bench = _; more = _; are = refl };
      totals = record { bench = _; more = _; are = refl };
      packet = record { bench = _; more = _; are = refl };
      report = record { bench = _; more = _; are = refl };
      tick = record { bench = _; more = _; are = refl };
    }
