-- What the record keeps of the air: it is not read where the air is worked out, and a fresh bench has it right.
use native.Mathlib.Omega.{arith}
use mathlib.Core.Path.{◌≡◌, ap, refl, ◌∙◌}
use mathlib.Core.List.{List, []}
use Rattle.base.specs.Lists.{how_many}
use Rattle.record.specs.Record.{nobody, fresh_bench, seat_of}
use Rattle.air.specs.Air.{takes_part, keyings_of, keyings, top_rank, at_rank, leaders, added, on_air, among, smallest, any_sends, air_of, bench_air, aired}
use Rattle.record.specs.declared.setup.Setup.{Setup}
use Rattle.record.specs.declared.seat.Seat.{Seat}
use Rattle.record.specs.declared.whole.Bench.{Bench}

pub air_unread : (b : Bench) → bench_air (aired b) ≡ bench_air b
unfolding bench_air keyings
air_unread b = refl

-- ---- without a keying nobody is on the air

module _ (setup : Setup) where
  leaders_none : leaders setup [] ≡ []
  unfolding leaders at_rank top_rank
  leaders_none = grind arith

  added_none : added setup [] ≡ []
  unfolding added at_rank top_rank
  added_none = grind arith

  on_none : on_air setup [] ≡ []
  unfolding on_air
  on_none = grind (arith, leaders_none, added_none)

  none_shown : (seats : List Seat) → air_of setup seats [] ≡ nobody
  unfolding air_of
  none_shown seats = rw (on_none, leaders_none) (unfold among smallest how_many any_sends top_rank in refl)

  no_keyings : keyings (fresh_bench setup) ≡ []
  unfolding keyings keyings_of takes_part seat_of fresh_bench
  no_keyings = refl

  pub nobody_at_start : bench_air (fresh_bench setup) ≡ nobody
  unfolding bench_air
  nobody_at_start = ap (air_of (fresh_bench setup).setup (fresh_bench setup).seats) no_keyings ∙ (unfold fresh_bench in none_shown _)

  pub right_at_start : aired (fresh_bench setup) ≡ fresh_bench setup
  right_at_start = rw nobody_at_start (unfold fresh_bench in refl)
