-- Every call in one form: a list of refusals, what it tells, and what it makes of the bench.
use native.Mathlib.Omega.{arith}
use mathlib.Core.Path.{◌≡◌, refl, sym, ap, subst, ◌∙◌}
use mathlib.Core.List.{List}
use Rattle.packet.specs.Refusals.{Case, NoCase, Answer, accepted, judged}
use Rattle.record.specs.Record.{settled, seat_of, with_side, with_health, with_signals}
use Rattle.seats.specs.Opening.{own_id, call_code, open_said, opened_bench, close_said, closed_bench, seat_verdict}
use Rattle.seats.specs.Ticking.{silent_seats, due_seats}
use Rattle.seats.specs.Radio.{side_said}
use Rattle.air.specs.Air.{aired}
use Rattle.hearing.specs.Account.{totals_said}
use Rattle.hearing.specs.Hearing.{packet_said, hearing, heard_bench, message_in}
use Rattle.reporting.specs.Reporting.{report_said, report_bytes, reported_bench}
use Rattle.sending.specs.Sending.{records, sent_bench, tick_said}
use Rattle.bench.specs.Step.{Call, opening, closing, packet, tick, report, received, transmitter, side, totals, Said, done, own, ticked, written, told, counts, does, keeping}
use Rattle.record.specs.declared.whole.Bench.{Bench}
use Rattle.demands.specs.ExactCalls.{refusals_of}
use Rattle.packet.proofs.Judged.{judged_both, judged_one, judged_mapped, accepts, meets_none}

-- what a call tells where no case of its list holds
abbrev pub said_by : Bench → Call → Said
said_by b (opening n r) = own (own_id n (call_code r.call))
said_by b (closing n) = done
said_by b (packet n p) = told p (hearing b n p)
said_by b (tick ms timestamp room) = ticked (silent_seats b ms) (due_seats b ms) (records b ms timestamp)
said_by b (report n timestamp sound room) = written (report_bytes b n timestamp sound)
said_by b (received signals level) = done
said_by b (transmitter healthy) = done
said_by b (side standby) = done
said_by b (totals n) = counts (seat_of b.seats n).totals

-- what it then makes of the bench
abbrev pub bench_after : Bench → Call → Bench
bench_after b (opening n r) = aired (opened_bench b n r)
bench_after b (closing n) = aired (closed_bench b n)
bench_after b (packet n p) = aired (heard_bench b n (message_in p))
bench_after b (tick ms timestamp room) = aired (sent_bench b ms)
bench_after b (report n timestamp sound room) = reported_bench b n
bench_after b (received signals level) = aired (with_signals b signals level)
bench_after b (transmitter healthy) = aired (with_health b healthy)
bench_after b (side standby) = aired (with_side b standby)
bench_after b (totals n) = b

-- the value does not matter for whether the bench moves
settled_judged : {A B : Type 0} (cs : List Case) (a : A) (b : B) (before after : Bench)
    → settled (judged cs a) before after ≡ settled (judged cs b) before after
settled_judged cs a b before after = judged_both (λ x y. settled x before after ≡ settled y before after) cs a b (λ n c. refl) (λ none. refl)

pub call_answer : (b : Bench) (c : Call) → (keeping b c).answer ≡ judged (refusals_of b c) (said_by b c)
unfolding does open_said close_said seat_verdict packet_said tick_said report_said side_said totals_said
call_answer b c = grind (arith, judged_mapped)

pub call_bench : (b : Bench) (c : Call) → (keeping b c).bench ≡ settled (judged (refusals_of b c) (said_by b c)) b (bench_after b c)
unfolding does open_said close_said seat_verdict packet_said tick_said report_said side_said totals_said
call_bench b c = grind (arith, settled_judged)

-- an accepted call met no case, and tells what said_by has
pub was_accepted_lem : (b : Bench) (c : Call) (said : Said) → (keeping b c).answer ≡ accepted said → NoCase (refusals_of b c) × (said_by b c ≡ said)
was_accepted_lem b c said e = meets_none (refusals_of b c) (said_by b c) said (sym (call_answer b c) ∙ e)

-- what holds of the bench, and of what the call makes of it where it is accepted, holds after the call
pub after_call : (P : Bench → Type 0) (b : Bench) (c : Call) → P b → (NoCase (refusals_of b c) → P (bench_after b c)) → P (keeping b c).bench
after_call P b c old new =
    subst P (sym (call_bench b c)) (judged_one (λ a. P (settled a b (bench_after b c))) (refusals_of b c) (said_by b c) (λ n k. old) new)

pub accepted_bench : (b : Bench) (c : Call) → NoCase (refusals_of b c) → (keeping b c).bench ≡ bench_after b c
accepted_bench b c none = call_bench b c ∙ ap (λ (a : Answer Said). settled a b (bench_after b c)) (accepts (said_by b c) (refusals_of b c) none)
