-- When calls are turned away, in words and numbers: each crate's own law of its list of refusals, for what the bench answers.
use Prim.Native.Nat.{ℕ}
use mathlib.Core.Path.{◌≡◌, refl, sym, ◌∙◌}
use mathlib.Core.Logic.{◌⊎◌, inl, inr}
use lib.ListN.{length}
use Rattle.packet.specs.Refusals.{accepted}
use Rattle.packet.specs.InWords.{TurnedAway}
use Rattle.packet.proofs.InWords.{Agree, numbers, turned_away}
use Rattle.writer.specs.Writing.{encode, writer_refusals, write, put_refusals, put}
use Rattle.writer.proofs.InWords.{writer_agrees, put_agrees}
use Rattle.seats.specs.Opening.{call_code, own_id, open_refusals, seat_refusals}
use Rattle.seats.proofs.InWords.{seat_agrees, open_agrees}
use Rattle.reporting.specs.Reporting.{report_refusals}
use Rattle.reporting.proofs.InWords.{report_agrees}
use Rattle.sending.specs.Sending.{tick_refusals}
use Rattle.sending.proofs.InWords.{tick_agrees}
use Rattle.bench.specs.Step.{Call, opening, closing, tick, report, totals, own, does, keeping}
use Rattle.record.specs.declared.whole.Bench.{Bench}
use Rattle.seats.specs.declared.opening.CallType.TheVariants.{Idle, RxOnly, TxRx, Coupling}
use Rattle.seats.specs.declared.opening.Request.{Request}
use Rattle.demands.specs.ExactCalls.{refusals_of}
use Rattle.demands.specs.Limits.{Limits}
use Rattle.demands.proofs.Demand1.Calls.{said_by, call_answer, was_accepted_lem}

-- what a call answers is judged by its list
pub of_call : (Met : (number cause : ℕ) → Type 0) (b : Bench) (c : Call) → Agree Met (refusals_of b c) → TurnedAway Met (numbers (refusals_of b c)) (keeping b c).answer
of_call Met b c agree = rw (call_answer b c) (turned_away Met (said_by b c) (refusals_of b c) agree)

own_told : (b : Bench) (n : ℕ) (r : Request) (id : ℕ) → (keeping b (opening n r)).answer ≡ accepted (own id) → id ≡ own_id n (call_code r.call)
own_told b n r id e = let is : own_id n (call_code r.call) ≡ id = cc (was_accepted_lem b (opening n r) (own id) e).1 in sym is

pub limits : Limits
unfolding open_refusals seat_refusals report_refusals tick_refusals writer_refusals write put_refusals put does
limits =
    record {
      of_open = λ b n r eight. of_call _ b (opening n r) (open_agrees b n r eight);
      own_number = λ b n r id e k. own_told b n r id e ∙ keys n r k;
      own_none = λ b n r id e k. own_told b n r id e ∙ listens n r k;
      of_close = λ b n. of_call _ b (closing n) (seat_agrees b n);
      of_totals = λ b n. of_call _ b (totals n) (seat_agrees b n);
      of_report = λ b n timestamp sound room. of_call _ b (report n timestamp sound room) (report_agrees b n sound room timestamp);
      of_tick = λ b ms timestamp room. of_call _ b (tick ms timestamp room) (tick_agrees ms room);
      by_silence = refl;
      of_received = λ b signals level. refl;
      of_transmitter = λ b healthy. refl;
      of_writers = λ ext m sound room. turned_away _ (length (encode ext m sound)) (writer_refusals ext m sound room) (writer_agrees ext m sound room);
      of_put = λ ext m sound room. turned_away _ (length (encode ext m sound)) (put_refusals ext m sound room) (put_agrees ext m sound room);
    }
  where
    keys : (n : ℕ) (r : Request) → (r.call ≡ TxRx) ⊎ (r.call ≡ Coupling) → own_id n (call_code r.call) ≡ n
    keys n r (inl e) = rw e
    keys n r (inr e) = rw e

    listens : (n : ℕ) (r : Request) → (r.call ≡ Idle) ⊎ (r.call ≡ RxOnly) → own_id n (call_code r.call) ≡ 0
    listens n r (inl e) = rw e
    listens n r (inr e) = rw e
