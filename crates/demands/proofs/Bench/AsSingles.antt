-- A tick writes, and leaves, what single reports to the due seats would.
use Prim.Native.Nat.{ℕ, suc, ◌+◌, ◌≤◌, ◌<◌}
use mathlib.Core.Path.{◌≡◌, refl, ap, ◌∙◌}
use mathlib.Core.Bool.{Bool, true, false}
use mathlib.Core.List.{List, [], ◌∷◌, ◌++◌}
use native.Mathlib.Omega.{arith}
use lib.ListN.{length, get_or}
use Rattle.packet.specs.Refusals.{accepted}
use Rattle.packet.proofs.Judged.{accepts}
use Rattle.framing.specs.Framing.{framed}
use Rattle.record.specs.Record.{seat_of}
use Rattle.reporting.specs.Reporting.{report_bytes, report_said, reported_bench}
use Rattle.sending.specs.Sending.{tick_said, tick_buffer}
use Rattle.sending.proofs.Singles.{single_frames, after_singles, due_are_open, single_accepted, sent_as_singles, left_as_singles}
use Rattle.bench.specs.Step.{report, written, Outcome, does, keeping, after}
use Rattle.record.specs.declared.whole.Bench.{Bench}
use Rattle.demands.specs.AsSingles.{singles, frame_of, frames_by, AsSingles}
use Rattle.demands.proofs.Demand1.Calls.{accepted_bench}

-- the due seats from seat n on are open: the first, and those behind it
abbrev Opened : Bench → (n : ℕ) → (due : List Bool) → Type 0
Opened b n due = (j : ℕ) → j < length due → get_or due j false ≡ true → (seat_of b.seats (n + j)).opened ≡ true

module _ (b : Bench) (n : ℕ) (d : Bool) (ds : List Bool) (up : Opened b n (d ∷ ds)) where
  the_first_lem : d ≡ true → (seat_of b.seats n).opened ≡ true
  the_first_lem e = let here : n ≡ n + 0 = omega arith in ap (λ (k : ℕ). (seat_of b.seats k).opened) here ∙ up 0 (omega arith) e

  the_others : Opened b (suc n) ds
  the_others j h e = let here : suc n + j ≡ n + suc j = omega arith in ap (λ (k : ℕ). (seat_of b.seats k).opened) here ∙ up (suc j) (omega arith) e

module _ (timestamp room : ℕ) (enough : 24 ≤ room) where
  -- so each report is written,
  single : (b : Bench) (n : ℕ) → (seat_of b.seats n).opened ≡ true
      → keeping b (report n timestamp [] room) ≡ record { answer = accepted (written (report_bytes b n timestamp [])); bench = reported_bench b n }
  unfolding does report_said
  single b n up = grind (arith, accepts, single_accepted)

  -- and all of them one after the other
  singles_write : (b : Bench) (n : ℕ) (due : List Bool) → Opened b n due → frames_by b (singles timestamp room n due) ≡ single_frames b timestamp n due
  unfolding singles frames_by frame_of single_frames reported_bench
  singles_write b n [] up = refl
  singles_write b n (true ∷ ds) up =
      ap (λ (o : Outcome). frame_of o.answer ++ frames_by o.bench (singles timestamp room (suc n) ds)) (single b n (the_first_lem b n true ds up refl))
      ∙ ap (λ (x : List ℕ). framed (report_bytes b n timestamp []) ++ x) (singles_write (reported_bench b n) (suc n) ds (the_others b n true ds up))
  singles_write b n (false ∷ ds) up = singles_write b (suc n) ds (the_others b n false ds up)

  singles_leave : (b : Bench) (n : ℕ) (due : List Bool) → Opened b n due → after keeping b (singles timestamp room n due) ≡ after_singles b n due
  unfolding singles after after_singles reported_bench
  singles_leave b n [] up = refl
  singles_leave b n (true ∷ ds) up =
      ap (λ (o : Outcome). after keeping o.bench (singles timestamp room (suc n) ds)) (single b n (the_first_lem b n true ds up refl))
      ∙ singles_leave (reported_bench b n) (suc n) ds (the_others b n true ds up)
  singles_leave b n (false ∷ ds) up = singles_leave b (suc n) ds (the_others b n false ds up)

pub as_singles : AsSingles
unfolding tick_said tick_buffer
as_singles b ms timestamp room buffer eight enough none = grind (arith, accepted_bench, accepts, due_are_open, left_as_singles, sent_as_singles, singles_leave, singles_write)
