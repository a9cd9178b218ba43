-- Where 33 does not refuse, each total fits, so that no sum wraps; and what totals answer, in steps.
use Prim.Native.Nat.{ℕ, ◌+◌, ◌≤◌}
use mathlib.Core.Path.{◌≡◌}
use mathlib.Core.Bool.{false}
use mathlib.Core.List.{[]}
use native.Mathlib.Omega.{arith}
use borrow.Author.Tests.{ltb-false}
use mir.Syntax.{w32}
use mir.Val.{Fits}
use Rattle.packet.specs.Refusals.{accepted}
use Rattle.packet.specs.declared.message.Tx.{Tx}
use Rattle.packet.proofs.Judged.{and_then, judged_split}
use Rattle.record.specs.Record.{seat_of}
use Rattle.seats.specs.Opening.{seat_refusals, seat_verdict}
use Rattle.record.specs.declared.seat.Seat.{Seat}
use Rattle.record.specs.declared.whole.Bench.{Bench}
use Rattle.hearing.specs.Account.{missing_before, most_counted, totals_after, total_too_large, totals_said}

module _ (s : Seat) (m : Tx) (passed : total_too_large (totals_after s m) ≡ false) where
  within_most : s.totals.heard + 1 + (s.totals.missing + missing_before s.heard m) ≤ most_counted
  unfolding total_too_large totals_after
  within_most = ltb-false _ _ passed

  pub heard_fits : Fits w32 (s.totals.heard + 1)
  heard_fits = record { fits = omega (arith, within_most) }

  pub missing_fits : Fits w32 (s.totals.missing + missing_before s.heard m)
  missing_fits = record { fits = omega (arith, within_most) }

-- 13 and 14, then the totals
pub totals_in_steps : (b : Bench) (n : ℕ) → totals_said b n ≡ and_then (seat_verdict n (seat_of b.seats n).opened) (accepted (seat_of b.seats n).totals)
unfolding totals_said seat_verdict seat_refusals
totals_in_steps b n = judged_split (seat_refusals n (seat_of b.seats n).opened) [] (seat_of b.seats n).totals
