-- When a tick is turned away, and which numbers it moves, held to InWords.
use Prim.Native.Nat.{ℕ, zero, suc, ◌-◌, ◌<◌}
use mathlib.Core.Path.{◌≡◌, refl, sym, subst, ◌∙◌}
use mathlib.Core.Bool.{Bool, true, false, cond}
use mathlib.Core.List.{List, [], ◌∷◌}
use native.Mathlib.Omega.{arith}
use lib.Dec.{ltb}
use lib.ListN.{length, get_or}
use borrow.Author.Tests.{ltb-true, lt-ltb}
use Rattle.packet.proofs.InWords.{MetIf, Agree}
use Rattle.record.specs.Record.{no_such_seat, entry_of}
use Rattle.record.proofs.Seats.{seat_in_range, flag_is_seat}
use Rattle.reporting.specs.Reporting.{next_sequence}
use Rattle.reporting.specs.InWords.{OneUp}
use Rattle.reporting.proofs.InWords.{one_up}
use Rattle.sending.specs.Sending.{too_long, most_sent, tick_refusals, one_further}
use Rattle.sending.specs.InWords.{TickBarred, too_many_ms, under_208, DueAlone}

-- ---- 24, 26

module _ (ms room : ℕ) where
  by_time : MetIf (TickBarred ms room) 24 (too_long ms)
  by_time = record { if_holds = λ e. too_many_ms (ltb-true 1000 ms e); only_if = only_if }
    where
      only_if : (c : ℕ) → TickBarred ms room 24 c → (too_long ms ≡ true) × (c ≡ 0)
      only_if c (too_many_ms h) = (lt-ltb 1000 ms h, refl)

  by_room : MetIf (TickBarred ms room) 26 (ltb room most_sent)
  by_room = record { if_holds = λ e. under_208 (ltb-true room 208 e); only_if = only_if }
    where
      only_if : (c : ℕ) → TickBarred ms room 26 c → (ltb room most_sent ≡ true) × (c ≡ 0)
      only_if c (under_208 h) = (lt-ltb room 208 h, refl)

  pub tick_agrees : Agree (TickBarred ms room) (tick_refusals ms room)
  unfolding tick_refusals
  tick_agrees = (by_time, λ in-time. (by_room, λ fits. tt))

-- ---- the numbers

further_at : (due : List Bool) (numbers : List ℕ) (i : ℕ) → i < length numbers
    → get_or (one_further due numbers) i 0 ≡ cond (get_or due i false) (next_sequence (get_or numbers i 0)) (get_or numbers i 0)
unfolding one_further
further_at [] qs i h = refl
further_at (d ∷ ds) [] i h = absurd (omega arith)
further_at (d ∷ ds) (q ∷ qs) zero h = refl
further_at (d ∷ ds) (q ∷ qs) (suc i) h = further_at ds qs i (omega arith)

module _ (due : List Bool) (numbers : List ℕ) (eight : length numbers ≡ 8) where
  by_seat : (n : ℕ) → no_such_seat n ≡ false → entry_of 0 (one_further due numbers) n ≡ cond (entry_of false due n) (next_sequence (entry_of 0 numbers n)) (entry_of 0 numbers n)
  by_seat n real = grind (arith, further_at due numbers (n - 1), seat_in_range n real)

  pub due_alone : ((i : ℕ) → get_or numbers i 0 < 65536) → DueAlone due numbers (one_further due numbers)
  due_alone fit = record { of_due = of_due; of_others = λ n e. by_number n (no_such_seat n) refl e }
    where
      of_due : (n : ℕ) → entry_of false due n ≡ true → OneUp (entry_of 0 numbers n) (entry_of 0 (one_further due numbers) n)
      of_due n e =
          let real = flag_is_seat due n e in
          let small : entry_of 0 numbers n < 65536 = grind (arith, fit (n - 1)) in
          subst (OneUp (entry_of 0 numbers n)) (sym (by_seat n real ∙ rw e)) (one_up (entry_of 0 numbers n) small)

      by_number : (n : ℕ) (t : Bool) → no_such_seat n ≡ t → entry_of false due n ≡ false → entry_of 0 (one_further due numbers) n ≡ entry_of 0 numbers n
      by_number n true past e = grind arith
      by_number n false real e = by_seat n real ∙ rw e
