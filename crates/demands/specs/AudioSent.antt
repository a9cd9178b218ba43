-- Second witness of `hearing`: 01: "An accepted audio packet's payload is sent, to the side in use, exactly if its seat is on the air after
-- it."
use Rattle.std.specs.Prelude.{ℕ, ◌≡◌, false, cond, List, []}
use Rattle.packet.specs.Packet.{payload}
use Rattle.packet.specs.Refusals.{accepted}
use Rattle.record.specs.Record.{entry_of}
use Rattle.air.specs.Air.{bench_air}
use Rattle.bench.specs.Step.{packet, heard, keeping}
use Rattle.record.specs.declared.whole.Bench.{Bench}
use Rattle.hearing.specs.declared.hearing.Hearing.{Hearing}

-- A packet for seat n that bench b accepts with the answer h, and the audio.
pub record SentExactly (b : Bench) (n : ℕ) (p : List ℕ) (h : Hearing) (sound : List ℕ) : Type 0 where
  -- ".. exactly if its seat is on the air after it": by 01's sentences, and as the record has it
  pub on_air : h.sent ≡ entry_of false (bench_air (keeping b (packet n p)).bench).on n
  pub on_record : h.sent ≡ entry_of false (keeping b (packet n p)).bench.air.on n
  -- "payload is sent": all of it, or nothing (of R2S the payload is empty)
  pub audio : sound ≡ cond h.sent (payload p) []
  -- ".. to the side in use", after it
  pub to_side : h.standby ≡ (keeping b (packet n p)).bench.standby

abbrev pub AudioSent : Type 0
AudioSent = (b : Bench) (n : ℕ) (p : List ℕ) (h : Hearing) (sound : List ℕ) → (keeping b (packet n p)).answer ≡ accepted (heard h sound) → SentExactly b n p h sound
