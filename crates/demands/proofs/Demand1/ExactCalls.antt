-- Each call refuses in exactly its cases, and then changes nothing.
use native.Mathlib.Omega.{arith}
use Prim.Native.Nat.{ℕ}
use mathlib.Core.Path.{◌≡◌, ap}
use mathlib.Core.List.{List}
use lib.ListN.{length}
use Rattle.packet.specs.Refusals.{Answer, refused}
use Rattle.writer.specs.Writing.{filled}
use Rattle.reporting.specs.Reporting.{report_said, report_bytes, report_buffer}
use Rattle.sending.specs.Sending.{sent_bytes, tick_said, tick_buffer}
use Rattle.bench.specs.Step.{Call, tick, report, does, keeping}
use Rattle.record.specs.declared.whole.Bench.{Bench}
use Rattle.demands.specs.Exact.{Exact}
use Rattle.demands.specs.ExactCalls.{refusals_of, CallsExact}
use Rattle.bench.proofs.Keeping.{was_refused, refused_keeps}
use Rattle.demands.proofs.Demand1.Exact.{exact_judged}
use Rattle.demands.proofs.Demand1.Calls.{said_by, call_answer}

each_call : (b : Bench) (c : Call) → Exact (refusals_of b c) (keeping b c).answer
each_call b c = rw (call_answer b c) (exact_judged (said_by b c) (refusals_of b c))

refused_writes_nothing : (b : Bench) (seat timestamp : ℕ) (sound buffer : List ℕ) (n cause : ℕ)
    → (keeping b (report seat timestamp sound (length buffer))).answer ≡ refused n cause → report_buffer b seat timestamp sound buffer ≡ buffer
unfolding does report_buffer
refused_writes_nothing b seat timestamp sound buffer n cause e =
    ap (λ (a : Answer ℕ). filled a (report_bytes b seat timestamp sound) buffer) (was_refused (report_said b seat timestamp sound (length buffer)) _ n cause e)

refused_sends_nothing : (b : Bench) (ms timestamp : ℕ) (buffer : List ℕ) (n cause : ℕ)
    → (keeping b (tick ms timestamp (length buffer))).answer ≡ refused n cause → tick_buffer b ms timestamp buffer ≡ buffer
unfolding does tick_buffer
refused_sends_nothing b ms timestamp buffer n cause e =
    ap (λ (a : Answer ℕ). filled a (sent_bytes b ms timestamp) buffer) (was_refused (tick_said b ms timestamp (length buffer)) _ n cause e)

pub calls_exact : CallsExact
calls_exact = grind (arith, each_call, refused_keeps, refused_sends_nothing, refused_writes_nothing)
