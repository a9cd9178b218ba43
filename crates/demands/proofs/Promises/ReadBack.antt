-- The records of a tick, read back from the bytes that it sends along the seats that are due: frame after frame, whoever is due.
use Prim.Native.Nat.{ℕ, suc, ◌<◌}
use mathlib.Core.Path.{◌≡◌, refl, ap, ap₂, ◌∙◌}
use mathlib.Core.Bool.{Bool, true, false}
use mathlib.Core.List.{List, [], ◌∷◌}
use native.Mathlib.Omega.{arith}
use lib.ListN.{length}
use Rattle.framing.proofs.Framing.{frames_read_back}
use Rattle.reporting.specs.Reporting.{report_bytes}
use Rattle.reporting.proofs.ReportLength.{report_short}
use Rattle.sending.specs.Sending.{records_from, in_order}
use Rattle.sending.proofs.Records.{report_framed}
use Rattle.record.specs.declared.whole.Bench.{Bench}
use Rattle.demands.specs.StepOfCode.{read_back}

pub read_back_lem : (shown : Bench) (timestamp n : ℕ) (due : List Bool) → read_back due (in_order (records_from shown timestamp n due)) ≡ records_from shown timestamp n due
unfolding read_back in_order records_from
read_back_lem shown timestamp n [] = refl
read_back_lem shown timestamp n (true ∷ ds) =
    let short : length (report_bytes shown n timestamp []) < 65536 = omega (arith, report_short shown n timestamp) in
    let frame = frames_read_back (report_bytes shown n timestamp []) (in_order (records_from shown timestamp (suc n) ds)) short in
    rw (report_framed shown timestamp n)
    (ap₂ (λ (r : List ℕ) (rs : List (List ℕ)). r ∷ rs) frame.its_packet (ap (read_back ds) frame.its_rest ∙ read_back_lem shown timestamp (suc n) ds))
read_back_lem shown timestamp n (false ∷ ds) = ap (λ (rs : List (List ℕ)). [] ∷ rs) (read_back_lem shown timestamp (suc n) ds)
