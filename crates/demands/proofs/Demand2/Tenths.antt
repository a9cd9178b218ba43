-- The quality of ten times a level in whole dBm.
use native.Mathlib.Omega.{arith}
use Rattle.packet.specs.Quality.{quality}
use Rattle.demands.specs.Tenths.{whole_quality, Tenths}

pub tenths : Tenths
unfolding quality whole_quality
tenths level = grind arith
