-- Second witness of `hearing`: 01's "Packet for a seat" once more in words and numbers: what a packet's message is turned away for (19 to
-- 23, and 02's 33), what it answers and what it leaves. proofs/InWords holds the definitions of Hearing and Account to it; none of them is
-- cited. The codes: call types 0 Idle, 1 Rxonly, 2 TxRx, 3 Coupling; kinds 1 a pair, 2 a shared radio, every other a single one.
use Rattle.std.specs.Prelude.{ℕ, ◌+◌, ◌*◌, ◌≤◌, ◌<◌, ◌≡◌, true, false, ◌↔◌, ◌⊎◌, None, Some}
use Rattle.base.specs.InWords.{Missing}
use Rattle.packet.specs.declared.message.Tx.{Tx}
use Rattle.packet.specs.declared.message.Side.TheVariants.{Main, Standby}
use Rattle.record.specs.Record.{seat_of, lesson}
use Rattle.record.specs.declared.setup.Setup.{Setup}
use Rattle.record.specs.declared.seat.Field.{Field}
use Rattle.record.specs.declared.seat.Seat.{Seat}
use Rattle.record.specs.declared.whole.Bench.{Bench}
use Rattle.air.specs.InWords.{last_field}
use Rattle.seats.specs.InWords.{OwnId}
use Rattle.hearing.specs.declared.hearing.Hearing.{Hearing}

-- the packets missing before a message of a seat
abbrev pub Before : Seat → Tx → (missing : ℕ) → Type 0
Before s m missing = Missing s.heard.any s.heard.sequence m.sequence missing

-- "19 to 23", and 02: "33, after 23". A message m for seat n, which is s.
pub data MessageBarred (setup : Setup) (n : ℕ) (s : Seat) (m : Tx) : (number cause : ℕ) → Type 0 where
  -- "19 | other SSRC"
  another_ssrc : s.heard.any ≡ true → (m.ssrc ≡ s.heard.ssrc → ⊥) → MessageBarred setup n s m 19 0
  -- "20 | distance 0 or below": no number of packets is missing before it
  not_after : ((missing : ℕ) → Before s m missing → ⊥) → MessageBarred setup n s m 20 0
  -- "21 | PTT on for Idle or Rxonly; Coupling PTT for TxRx; lesson seat with PTT on other than Test"
  listens_only : 1 ≤ m.ptt → m.ptt ≤ 5 → (s.call ≡ 2 → ⊥) → (s.call ≡ 3 → ⊥) → MessageBarred setup n s m 21 0
  not_coupling : m.ptt ≡ 2 → s.call ≡ 2 → MessageBarred setup n s m 21 0
  lesson_tests : lesson setup n ≡ true → 1 ≤ m.ptt → m.ptt ≤ 4 → MessageBarred setup n s m 21 0
  -- "22 | ptt-id not the seat's own; with PTT off 0 also passes"
  other_id : (OwnId n s.call m.id → ⊥) → (m.ptt ≡ 0 → m.id ≡ 0 → ⊥) → MessageBarred setup n s m 22 0
  -- "23 | main/standby item .. on a single radio; main/standby item from a lesson seat"; 02, of a shared one: "23 also for an item of 1
  -- here"
  item_on_single : (setup.kind ≡ 1 → ⊥) → (setup.kind ≡ 2 → ⊥) → (m.side ≡ None → ⊥) → MessageBarred setup n s m 23 0
  one_on_shared : setup.kind ≡ 2 → m.side ≡ Some Standby → MessageBarred setup n s m 23 0
  item_from_lesson : lesson setup n ≡ true → (m.side ≡ None → ⊥) → MessageBarred setup n s m 23 0
  -- 02: "33, after 23, if heard plus missing would pass 4,000,000,000"
  too_many : (missing : ℕ) → Before s m missing → 4000000000 < s.totals.heard + 1 + (s.totals.missing + missing) → MessageBarred setup n s m 33 0

-- A field that a seat keeps says what the message says.
pub record Says (m : Tx) (f : Field) : Type 0 where
  pub ptt : f.ptt ≡ m.ptt
  pub id : f.id ≡ m.id
  pub pm : f.pm ≡ m.pm
  pub ptts : f.ptts ≡ m.ptts
  pub no_delay : m.climax ≡ None → (f.delayed ≡ false) × (f.delay ≡ 0)
  pub a_delay : (v : ℕ) → m.climax ≡ Some v → (f.delayed ≡ true) × (f.delay ≡ v)
  pub no_side : m.side ≡ None → (f.sided ≡ false) × (f.standby ≡ false)
  pub main : m.side ≡ Some Main → (f.sided ≡ true) × (f.standby ≡ false)
  pub standby : m.side ≡ Some Standby → (f.sided ≡ true) × (f.standby ≡ true)

-- What an accepted message m answers (h) and leaves (next).
pub record Heeded (b : Bench) (n : ℕ) (m : Tx) (h : Hearing) (next : Bench) : Type 0 where
  pub missing : Before (seat_of b.seats n) m h.missing
  -- "Reply now exactly when the field with its items differs in meaning from the seat's previous accepted one."
  pub no_reply : (h.reply ≡ false) ↔ Says m (last_field b n)
  -- "The first accepted packet fixes the seat's SSRC"; "last accepted"; "its last accepted packet"
  pub said : Says m (last_field next n)
  pub any : (seat_of next.seats n).heard.any ≡ true
  pub ssrc : (seat_of next.seats n).heard.ssrc ≡ m.ssrc
  pub sequence : (seat_of next.seats n).heard.sequence ≡ m.sequence
  -- "each accepted packet set a seat's time left to period times multiplier ms"
  pub time : (seat_of next.seats n).left ≡ (seat_of b.seats n).period * (seat_of b.seats n).multiplier
  -- "the side in use after it". "A main/standby item takes effect, setting the side in use, only where that seat's previous accepted packet
  -- carried the other value or no such item. Repeats do nothing." On a pair:
  pub side : h.standby ≡ next.standby
  pub to_main : b.setup.kind ≡ 1 → m.side ≡ Some Main → ((last_field b n).sided ≡ false) ⊎ ((last_field b n).standby ≡ true) → next.standby ≡ false
  pub to_standby : b.setup.kind ≡ 1 → m.side ≡ Some Standby → ((last_field b n).sided ≡ false) ⊎ ((last_field b n).standby ≡ false) → next.standby ≡ true
  pub main_again : m.side ≡ Some Main → (last_field b n).sided ≡ true → (last_field b n).standby ≡ false → next.standby ≡ b.standby
  pub standby_again : m.side ≡ Some Standby → (last_field b n).sided ≡ true → (last_field b n).standby ≡ true → next.standby ≡ b.standby
  pub without : m.side ≡ None → next.standby ≡ b.standby
  -- 02, of a shared radio: "An item of 0 is accepted and moves nothing"; on a single one none is accepted
  pub elsewhere : (b.setup.kind ≡ 1 → ⊥) → next.standby ≡ b.standby
