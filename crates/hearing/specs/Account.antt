-- 02, request 14: "The network teacher wants totals per seat: heard and missing since opening." What an accepted packet makes of them, when one
-- is refused for them, and the call that tells them. (Opening and closing clear them: opened_seat and closed_seat of the record.)
use Rattle.std.specs.Prelude.{ℕ, ◌+◌, Bool, ltb}
use Rattle.base.specs.Order.{missing}
use Rattle.packet.specs.Refusals.{Answer, judged}
use Rattle.packet.specs.declared.message.Tx.{Tx}
use Rattle.record.specs.Record.{seat_of}
use Rattle.seats.specs.Opening.{seat_refusals}
use Rattle.record.specs.declared.seat.Heard.{Heard}
use Rattle.record.specs.declared.seat.Totals.{Totals}
use Rattle.record.specs.declared.seat.Seat.{Seat}
use Rattle.record.specs.declared.whole.Bench.{Bench}

-- 01: "packets missing before it"
abbrev pub missing_before : (last : Heard) → Tx → ℕ
missing_before last m = missing last.any last.sequence m.sequence

-- one more heard, and those missing before it
unfoldable pub totals_after : Seat → Tx → Totals
totals_after s m = record { heard = s.totals.heard + 1; missing = s.totals.missing + missing_before s.heard m }

-- "33, after 23, if heard plus missing would pass 4,000,000,000"
abbrev pub most_counted : ℕ
most_counted = 4000000000

unfoldable pub total_too_large : Totals → Bool
total_too_large t = ltb most_counted (t.heard + t.missing)

-- "totals per seat", of an open one: 13, 14
unfoldable pub totals_said : Bench → (n : ℕ) → Answer Totals
totals_said b n = judged (seat_refusals n (seat_of b.seats n).opened) (seat_of b.seats n).totals
