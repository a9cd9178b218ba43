-- What a tick sends: the length of its records, each behind its two bytes, and that they always fit. Of any bench, whoever is due.
use Prim.Native.Nat.{ℕ, suc, ◌+◌, ◌*◌, ◌≤◌}
use mathlib.Core.Path.{◌≡◌, refl, sym, ap, ap₂, ◌∙◌}
use mathlib.Core.Bool.{Bool, true, false}
use mathlib.Core.List.{List, [], ◌∷◌}
use native.Mathlib.Omega.{arith}
use native.Mathlib.Nat.{mul-add}
use lib.ListN.{length, replicate, length-append, length-map}
use Rattle.base.specs.Bytes.{bit}
use Rattle.base.specs.Lists.{how_many}
use Rattle.base.proofs.Lists.{many_most}
use Rattle.framing.specs.Framing.{framed}
use Rattle.writer.specs.Writing.{head_of, encode}
use Rattle.seats.specs.Ticking.{is_due, due_seats}
use Rattle.reporting.specs.Reporting.{report_bytes}
use Rattle.reporting.proofs.ReportLength.{two_items, report_long}
use Rattle.record.specs.declared.whole.Bench.{Bench}
use Rattle.sending.specs.Sending.{most_sent, after_closings, record_for, records_from, records, sent_as, in_order, sent_bytes}

-- 22 bytes a report, 26 where it has two items
abbrev pub frame_length : (two : Bool) → ℕ
frame_length two = 22 + 4 * bit two

-- eight of them need no more than 26 asks for
eight_fit : (two : Bool) (reports : ℕ) → reports ≤ 8 → frame_length two * reports ≤ most_sent
eight_fit two reports few = grind arith

module _ (shown : Bench) (timestamp : ℕ) where
  -- a report is never empty, so the one of a seat that is due is sent
  pub report_framed : (n : ℕ) → sent_as (report_bytes shown n timestamp []) ≡ framed (report_bytes shown n timestamp [])
  unfolding report_bytes encode head_of
  report_framed n = refl

  -- nothing is sent to a seat that is not due
  sent_long : (n : ℕ) (due : Bool) → length (sent_as (record_for shown timestamp n due)) ≡ frame_length (two_items shown) * bit due
  unfolding framed
  sent_long n true = rw (report_framed n) (omega (arith, report_long shown n timestamp []))
  sent_long n false = omega arith

  -- the bytes used: so many for each seat that is due
  pub records_long : (n : ℕ) (due : List Bool) → length (in_order (records_from shown timestamp n due)) ≡ frame_length (two_items shown) * how_many (λ d. d) due
  unfolding records_from in_order how_many
  records_long n [] = omega arith
  records_long n (d ∷ ds) =
      length-append (sent_as (record_for shown timestamp n d)) (in_order (records_from shown timestamp (suc n) ds))
      ∙ ap₂ (λ (x y : ℕ). x + y) (sent_long n d) (records_long (suc n) ds)
      ∙ sym (mul-add (frame_length (two_items shown)) (bit d) (how_many (λ d. d) ds))

  -- which always fit, of eight seats,
  pub records_fit : (n : ℕ) (due : List Bool) → length due ≤ 8 → length (in_order (records_from shown timestamp n due)) ≤ most_sent
  records_fit n due eight =
      let few : how_many (λ d. d) due ≤ 8 = omega (arith, many_most (λ d. d) due) in
      omega (arith, records_long n due, eight_fit (two_items shown) (how_many (λ d. d) due) few)

  -- and no less would do
  pub records_fill : (n : ℕ) → two_items shown ≡ true → length (in_order (records_from shown timestamp n (replicate 8 true))) ≡ most_sent
  unfolding how_many
  records_fill n two = records_long n (replicate 8 true) ∙ ap (λ (t : Bool). frame_length t * 8) two

-- So of a tick, whoever is due.
pub sent_most : (b : Bench) (ms timestamp : ℕ) → length b.seats ≤ 8 → length (sent_bytes b ms timestamp) ≤ most_sent
unfolding sent_bytes records
sent_most b ms timestamp eight = records_fit (after_closings b ms) timestamp 1 (due_seats b ms) (omega (arith, length-map b.seats (is_due ms)))
