-- What a report tells fits its bits where the air in the record is right: then its message is writable, and 27 would not come.
use Prim.Native.Nat.{ℕ, ◌≤◌}
use mathlib.Core.Path.{◌≡◌}
use mathlib.Core.Bool.{true, false}
use native.Mathlib.Omega.{arith}
use Rattle.std.proofs.lemmas.Bool.Decides.{nat_tests}
use Rattle.packet.proofs.QualityLaws.{quality_most}
use Rattle.packet.specs.Messages.{from_rx}
use Rattle.writer.specs.Writing.{writable}
use Rattle.record.specs.Record.{no_such_seat}
use Rattle.record.proofs.Seats.{seat_in_range}
use Rattle.air.specs.Air.{bench_air}
use Rattle.air.proofs.Bounds.{ptt_most, id_most}
use Rattle.reporting.specs.Reporting.{id_told, audio_barred, report_of}
use Rattle.record.specs.declared.whole.Bench.{Bench}

pub id_told_most : (b : Bench) (n call : ℕ) → no_such_seat n ≡ false → id_told (bench_air b) n call ≤ 8
id_told_most b n call h = grind (arith, nat_tests, seat_in_range, id_most)

pub report_writable : (b : Bench) → b.air ≡ bench_air b → (n timestamp audio : ℕ) → no_such_seat n ≡ false → audio_barred b.signals audio ≡ false
    → writable (from_rx (report_of b n timestamp)) audio ≡ true
unfolding writable report_of
report_writable b right n timestamp audio h e = grind (arith, nat_tests, id_told_most, ptt_most, quality_most)
