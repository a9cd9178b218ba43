-- 02, request 10, of main and standby behind one address: "Reports carry the main/standby item with 0, whichever side is in use. An item of 0
-- is accepted and moves nothing; the radio's own side event still moves the side. .. Refusals: 23 also for an item of 1 here; a lesson seat's
-- item is still refused."
use Rattle.std.specs.Prelude.{ℕ, ◌≡◌, Bool, true, false, List, [], ◌∷◌, Some}
use Rattle.packet.specs.Refusals.{accepted, refused}
use Rattle.reader.specs.Reading.{read_rx}
use Rattle.packet.specs.declared.message.Rx.{Rx}
use Rattle.packet.specs.Messages.{from_rx}
use Rattle.packet.specs.declared.message.Side.TheVariants.{Main}
use Rattle.record.specs.Kind.{kind_code, kind_of}
use Rattle.record.specs.Record.{fresh_bench, seat_of, lesson, with_side}
use Rattle.air.specs.Air.{aired}
use Rattle.hearing.specs.Hearing.{has_side, is_standby, message_in}
use Rattle.reporting.specs.Reporting.{report_of}
use Rattle.bench.specs.Step.{Call, opening, closing, packet, tick, report, received, transmitter, side, totals, Said, done, heard, written, keeping, after}
use Rattle.record.specs.declared.kind.Kind.{Kind}
use Rattle.record.specs.declared.kind.Kind.TheVariants.{Shared}
use Rattle.record.specs.declared.setup.Setup.{Setup}
use Rattle.record.specs.declared.whole.Bench.{Bench}
use Rattle.hearing.specs.declared.hearing.Hearing.{Hearing}
use Rattle.demands.specs.AirKept.{AirRight}
use Rattle.demands.specs.RoundTrip.{Narrow}

abbrev pub IsShared : Bench → Type 0
IsShared b = kind_of b.setup.kind ≡ Shared

-- The side in use after one more call, if the radio's own events alone move it,
abbrev pub side_by : (in_use : Bool) → Call → Bool
side_by in_use (opening n r) = in_use
side_by in_use (closing n) = in_use
side_by in_use (packet n p) = in_use
side_by in_use (tick ms timestamp room) = in_use
side_by in_use (report n timestamp sound room) = in_use
side_by in_use (received signals level) = in_use
side_by in_use (transmitter healthy) = in_use
side_by in_use (side standby) = standby
side_by in_use (totals n) = in_use

-- and after a run: that of the last event.
unfoldable pub last_side : (in_use : Bool) → List Call → Bool
last_side in_use [] = in_use
last_side in_use (c ∷ cs) = last_side (side_by in_use c) cs

pub record SharedRadio : Type 0 where
  -- each kind of radio is set up by its code
  pub codes : (kind : Kind) → kind_of (kind_code kind) ≡ kind
  -- "moves nothing; the radio's own side event still moves the side": so of every call, accepted or refused, on every bench; and main is in
  -- use before any event
  pub by_each_call : (b : Bench) (c : Call) → IsShared b → (keeping b c).bench.standby ≡ side_by b.standby c
  pub in_every_run : (setup : Setup) (cs : List Call) → IsShared (fresh_bench setup) → (after keeping (fresh_bench setup) cs).standby ≡ last_side false cs
  -- and that event is never refused
  pub event_accepted : (b : Bench) (standby : Bool) → IsShared b → keeping b (side standby) ≡ record { answer = accepted done; bench = aired (with_side b standby) }
  -- an accepted packet answers the side really in use, which it leaves as it was
  pub side_answered : (b : Bench) (n : ℕ) (p : List ℕ) (h : Hearing) (sound : List ℕ) → IsShared b
      → (keeping b (packet n p)).answer ≡ accepted (heard h sound) → h.standby ≡ b.standby
  -- and an item of 0 is a value that can differ, as on a pair: "Reply now" where the packet before it had none (of any item, on every kind)
  pub zero_differs : (b : Bench) (n : ℕ) (p : List ℕ) (h : Hearing) (sound : List ℕ) → (seat_of b.seats n).heard.field.sided ≡ false
      → has_side (message_in p).side ≡ true → (keeping b (packet n p)).answer ≡ accepted (heard h sound) → h.reply ≡ true
  -- "23 also for an item of 1 here": no packet with one is accepted, and of a live seat no other is refused with 23
  pub one_refused : (b : Bench) (n : ℕ) (p : List ℕ) (said : Said) → IsShared b
      → (keeping b (packet n p)).answer ≡ accepted said → is_standby (message_in p).side ≡ false
  pub one_alone : (b : Bench) (n : ℕ) (p : List ℕ) → IsShared b → lesson b.setup n ≡ false
      → (keeping b (packet n p)).answer ≡ refused 23 0 → is_standby (message_in p).side ≡ true
  -- "a lesson seat's item is still refused", on every kind of radio
  pub lesson_refused : (b : Bench) (n : ℕ) (p : List ℕ) (said : Said) → lesson b.setup n ≡ true
      → (keeping b (packet n p)).answer ≡ accepted said → has_side (message_in p).side ≡ false
  -- "Reports carry the main/standby item with 0": in the message that a report is made of, and read back from its bytes (those of a tick's
  -- reports too: AsSingles)
  pub zero_told : (b : Bench) (n timestamp : ℕ) → IsShared b → (report_of b n timestamp).side ≡ Some Main
  pub zero_read : (b : Bench) → AirRight b → (n timestamp : ℕ) (sound : List ℕ) (room : ℕ) (bytes : List ℕ) → IsShared b
      → Narrow b.setup.ext (from_rx (report_of b n timestamp)) → (keeping b (report n timestamp sound room)).answer ≡ accepted (written bytes)
      → (m : Rx) × (read_rx b.setup.ext bytes ≡ accepted m) × (m.side ≡ Some Main)
