-- Second witness of `writer` (write, buffered, put, after_put), `reporting` (report_said, report_buffer), `sending` (tick_said, tick_buffer):
-- "Bytes past its length stay.", of a report; 02, of a tick: "bytes past those stay"; and so of what a writer writes. "State and buffers
-- stay the same" where it is refused.
use Rattle.std.specs.Prelude.{ℕ, ◌≤◌, ◌≡◌, List, length, drop}
use Rattle.packet.specs.Refusals.{Answer, accepted, refused}
use Rattle.writer.specs.Writing.{write, buffered, put, after_put}
use Rattle.reporting.specs.Reporting.{report_said, report_buffer}
use Rattle.sending.specs.Sending.{tick_said, tick_buffer}
use Rattle.packet.specs.declared.message.Message.{Message}
use Rattle.record.specs.declared.whole.Bench.{Bench}

-- A lent buffer before and after a call with that answer, the number of bytes written.
pub record Stays (answer : Answer ℕ) (before after : List ℕ) : Type 0 where
  pub as_long : length after ≡ length before
  pub past_it : (n : ℕ) → answer ≡ accepted n → drop n after ≡ drop n before
  pub refused_all : (number cause : ℕ) → answer ≡ refused number cause → after ≡ before

pub record BuffersStay : Type 0 where
  pub of_report : (b : Bench) (n timestamp : ℕ) (sound buffer : List ℕ) → Stays (report_said b n timestamp sound (length buffer)) buffer (report_buffer b n timestamp sound buffer)
  -- the bench has no more than eight seats: to more of them more than 208 bytes could be sent
  pub of_tick : (b : Bench) (ms timestamp : ℕ) (buffer : List ℕ) → length b.seats ≤ 8
      → Stays (tick_said b ms timestamp (length buffer)) buffer (tick_buffer b ms timestamp buffer)
  pub of_writers : (ext : ℕ) (m : Message) (sound buffer : List ℕ) → Stays (write ext m sound (length buffer)) buffer (buffered ext m sound buffer)
  pub of_put : (ext : ℕ) (m : Message) (sound buffer : List ℕ) → Stays (put ext m sound (length buffer)) buffer (after_put ext m sound buffer)
