-- 01, Packet for a seat: "Accepted, it answers: packets missing before it, whether to reply now, the side in use after it, and the audio to send,
-- which is the payload inside the caller's own packet, or an empty part." Of one call, in the definitions that `packet` and `audio` promise.
use Rattle.std.specs.Prelude.{ℕ, ◌≡◌, List}
use Rattle.std.specs.Borrow.{Bor}
use Rattle.base.specs.Bytes.{LiesAt}
use Rattle.record.specs.Record.{settled}
use Rattle.record.specs.declared.whole.Bench.{Bench}
use Rattle.air.specs.Air.{aired}
use Rattle.hearing.specs.Hearing.{message_in, heard_bench, packet_said, audio_in, audio_at}
use Rattle.relaying.specs.declared.Relayed.{Relayed}
use Rattle.packet.specs.Refusals.{answer_of}

pub record Relays (b : Bench) (n : ℕ) (p : Bor (List ℕ)) (r : Relayed) : Type 0 where
  pub answers : answer_of r.answer ≡ packet_said b n p.now
  pub leaves : r.bench ≡ settled (packet_said b n p.now) b (aired (heard_bench b n (message_in p.now)))
  pub holds : r.audio.now ≡ audio_in (packet_said b n p.now) p.now
  pub lies : LiesAt p (audio_at (packet_said b n p.now) p.now) r.audio
