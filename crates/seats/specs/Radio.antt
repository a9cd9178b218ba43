-- 01: "Radio events: signals received (0 to 255) with a level .. (any 16-bit signed number); transmitter healthy or not; side now
-- in use (main or standby), set by the radio itself." 02, request 3: "The level becomes tenths". What they leave is with_signals,
-- with_health and with_side of the record, its air made right (aired).
use Rattle.std.specs.Prelude.{List, [], ◌∷◌}
use Rattle.packet.specs.Refusals.{Case, ◌if◌, Answer, judged}
use Rattle.record.specs.Kind.{kind_of, has_one_side}
use Rattle.record.specs.declared.setup.Setup.{Setup}
use Rattle.record.specs.declared.whole.Bench.{Bench}

-- "Side event 23; the other events are never refused." "23 | .. side event on a single radio"
unfoldable pub side_refusals : Setup → List Case
side_refusals setup = 23 if has_one_side (kind_of setup.kind) ∷ []

unfoldable pub side_said : Bench → Answer (Unit {0})
side_said b = judged (side_refusals b.setup) tt
