-- What an accepted packet answers of its audio is what is then shown of the air.
use mathlib.Core.Path.{◌≡◌, sym, ap, ◌∙◌}
use mathlib.Core.Bool.{false, cond}
use mathlib.Core.List.{[]}
use Rattle.packet.specs.Packet.{payload}
use Rattle.air.specs.Air.{aired, keyings, bench_air}
use Rattle.record.specs.Record.{entry_of}
use Rattle.hearing.specs.Hearing.{message_in, heard_bench, is_sent, hearing}
use Rattle.bench.specs.Step.{packet, heard, keeping}
use Rattle.record.specs.declared.whole.Bench.{Bench}
use Rattle.hearing.specs.declared.hearing.Hearing.{Hearing}
use Rattle.demands.specs.AudioSent.{AudioSent}
use Rattle.demands.proofs.Demand1.Calls.{was_accepted_lem, accepted_bench}

pub audio_sent_lem : AudioSent
unfolding hearing is_sent bench_air keyings
audio_sent_lem b n p h sound e =
    let was = was_accepted_lem b (packet n p) (heard h sound) e in
    let next : (keeping b (packet n p)).bench ≡ aired (heard_bench b n (message_in p)) = accepted_bench b (packet n p) was.0 in
    let said : hearing b n p ≡ h = cc was.1 in
    let heard_as : cond (hearing b n p).sent (payload p) [] ≡ sound = cc was.1 in
    record {
      on_air = ap (λ (x : Hearing). x.sent) (sym said) ∙ ap (λ (x : Bench). entry_of false (bench_air x).on n) (sym next);
      on_record = ap (λ (x : Hearing). x.sent) (sym said) ∙ ap (λ (x : Bench). entry_of false x.air.on n) (sym next);
      audio = sym heard_as ∙ ap (λ (x : Hearing). cond x.sent (payload p) []) said;
      to_side = ap (λ (x : Hearing). x.standby) (sym said) ∙ ap (λ (x : Bench). x.standby) (sym next);
    }
