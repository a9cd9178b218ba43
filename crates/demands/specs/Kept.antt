-- What every bench has at the start and keeps through every call, accepted or refused.
use Rattle.std.specs.Prelude.{ℕ, ◌+◌, ◌*◌, ◌≤◌, ◌<◌, ◌≡◌, Bool, true, false, ◌||◌, List, [], ◌∷◌, ◌⊎◌, eqb, length, get_or}
use Rattle.base.specs.Bytes.{Bytes}
use Rattle.base.specs.Lists.{how_many}
use Rattle.packet.specs.Packet.{off, coupling, test, ptt_on}
use Rattle.record.specs.Kind.{kind_of}
use Rattle.record.specs.Record.{seat_numbers, nothing_heard, closed_seat, fresh_bench, seat_of, lesson}
use Rattle.hearing.specs.Account.{most_counted}
use Rattle.seats.specs.Opening.{may_key, is_coupling, shortest, longest, fewest, most, holds_coupling, own_id}
use Rattle.bench.specs.Step.{Call, opening, closing, packet, tick, report, received, transmitter, side, totals, keeping, after}
use Rattle.record.specs.declared.kind.Kind.{Kind}
use Rattle.record.specs.declared.kind.Kind.TheVariants.{Single, Shared}
use Rattle.record.specs.declared.setup.Setup.{Setup}
use Rattle.record.specs.declared.seat.Field.{Field}
use Rattle.record.specs.declared.seat.Seat.{Seat}
use Rattle.record.specs.declared.whole.Bench.{Bench}

-- The last field of a seat of that call type, with that ptt-id of its own.
pub record FieldKept (is_lesson : Bool) (kind : Kind) (call own : ℕ) (f : Field) : Type 0 where
  -- "6 and 7 are reserved and refused"
  pub type_known : f.ptt ≤ test
  -- not "PTT on for Idle or Rxonly; Coupling PTT for TxRx; lesson seat with PTT on other than Test"
  pub may_key : ptt_on f.ptt ≡ true → may_key call ≡ true
  pub coupling_keys : f.ptt ≡ coupling → is_coupling call ≡ true
  pub lesson_only_tests : is_lesson ≡ true → eqb f.ptt off || eqb f.ptt test ≡ true
  -- not "ptt-id not the seat's own; with PTT off 0 also passes"
  pub own_or_none : (f.id ≡ own) ⊎ (f.id ≡ 0)
  pub keyed_own : ptt_on f.ptt ≡ true → f.id ≡ own
  -- not "main/standby item .. on a single radio", nor "an item of 1" on a shared one, nor "main/standby item from a lesson seat"
  pub no_item_single : kind ≡ Single → f.sided ≡ false
  pub zero_or_none_shared : kind ≡ Shared → f.standby ≡ false
  pub no_item_lesson : is_lesson ≡ true → f.sided ≡ false
  -- the value of an item that is not there
  pub no_delay : f.delayed ≡ false → f.delay ≡ 0
  pub no_side : f.sided ≡ false → f.standby ≡ false

-- What an open seat counts.
pub record TimesKept (s : Seat) : Type 0 where
  -- "R2S period 20 to 1000 ms, multiplier 2 to 50"
  pub period_least : shortest ≤ s.period
  pub period_most : s.period ≤ longest
  pub multiplier_least : fewest ≤ s.multiplier
  pub multiplier_most : s.multiplier ≤ most
  -- "the seat is closed if nothing is left"
  pub some_left : 1 ≤ s.left
  pub left_most : s.left ≤ s.period * s.multiplier
  pub phase_below : s.phase < s.period

pub record SeatKept (setup : Setup) (n : ℕ) (s : Seat) : Type 0 where
  pub closed : s.opened ≡ false → s ≡ closed_seat
  pub times : s.opened ≡ true → TimesKept s
  pub call_known : s.call ≤ 3
  -- not "lesson seat asks Coupling"
  pub lesson_not_coupling : lesson setup n ≡ true → is_coupling s.call ≡ false
  -- "A seat just opened has heard nothing; its last field counts as all zero without items."
  pub nothing_yet : s.heard.any ≡ false → s.heard ≡ nothing_heard
  pub field_kept : FieldKept (lesson setup n) (kind_of setup.kind) s.call (own_id n s.call) s.heard.field
  -- not "heard plus missing would pass 4,000,000,000"
  pub totals_most : s.totals.heard + s.totals.missing ≤ most_counted
  pub sequence_fits : s.heard.sequence < 65536
  pub heard_ssrc_fits : s.heard.ssrc < 4294967296
  pub ssrc_fits : s.ssrc < 4294967296

pub record Kept (b : Bench) : Type 0 where
  -- "a ground radio with eight seats"
  pub eight_seats : length b.seats ≡ 8
  pub eight_sequences : length b.sequences ≡ 8
  pub sequences_fit : (i : ℕ) → get_or b.sequences i 0 < 65536
  -- the order is a permutation of the seats: each stands in it once, and nothing else does
  pub order_of_eight : length b.order ≡ 8
  pub order_counts : (n : ℕ) → how_many (λ m. eqb m n) b.order ≡ how_many (λ m. eqb m n) seat_numbers
  pub each_seat : (n : ℕ) → SeatKept b.setup n (seat_of b.seats n)
  -- not "Coupling asked while another seat is Coupling"
  pub one_coupling : (m n : ℕ) → holds_coupling (seat_of b.seats m) ≡ true → holds_coupling (seat_of b.seats n) ≡ true → m ≡ n
  -- not "side event on a single radio"
  pub single_on_main : kind_of b.setup.kind ≡ Single → b.standby ≡ false

-- The numbers of a call fit the types that the code gives them (where it matters).
abbrev pub InRange : Call → Type 0
InRange (opening n r) = (r.ssrc < 4294967296) × (r.sequence < 65536)
InRange (closing n) = Unit {0}
InRange (packet n p) = Bytes p
InRange (tick ms timestamp room) = Unit {0}
InRange (report n timestamp sound room) = Unit {0}
InRange (received signals level) = Unit {0}
InRange (transmitter healthy) = Unit {0}
InRange (side standby) = Unit {0}
InRange (totals n) = Unit {0}

abbrev pub AllInRange : List Call → Type 0
AllInRange [] = Unit {0}
AllInRange (c ∷ cs) = InRange c × AllInRange cs

pub record KeptThroughout : Type 0 where
  pub at_the_start : (setup : Setup) → Kept (fresh_bench setup)
  pub by_each_call : (b : Bench) (c : Call) → Kept b → InRange c → Kept (keeping b c).bench
  pub in_every_run : (setup : Setup) (cs : List Call) → AllInRange cs → Kept (after keeping (fresh_bench setup) cs)
