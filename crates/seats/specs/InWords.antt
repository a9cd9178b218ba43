-- Second witness of `seats`: 01's Open, Close and side event once more in words and numbers: 13 to 18, and 23 of the event. proofs/InWords
-- holds the definitions of Opening and Radio to it; none of them is cited. The codes: call types 0 Idle, 1 Rxonly, 2 TxRx, 3 Coupling;
-- kinds 1 a pair, 2 a shared radio, every other a single one.
use Rattle.std.specs.Prelude.{ℕ, ◌<◌, ◌≡◌, true, false, ◌⊎◌}
use Rattle.record.specs.Record.{seat_of, lesson}
use Rattle.record.specs.declared.seat.Seat.{Seat}
use Rattle.record.specs.declared.whole.Bench.{Bench}
use Rattle.seats.specs.declared.opening.CallType.{CallType}
use Rattle.seats.specs.declared.opening.CallType.TheVariants.{Idle, RxOnly, TxRx, Coupling}
use Rattle.seats.specs.declared.opening.Request.{Request}

-- "13 | seat not 1 to 8"
abbrev pub NoSeat : (n : ℕ) → Type 0
NoSeat n = (n ≡ 0) ⊎ (8 < n)

-- A call for a seat that is open: "Close 13, 14.", and in front of what else a packet, a report and totals ask
pub data SeatBarred (b : Bench) (n : ℕ) : (number cause : ℕ) → Type 0 where
  no_seat : NoSeat n → SeatBarred b n 13 0
  -- "14 | seat not open"
  not_open : (seat_of b.seats n).opened ≡ false → SeatBarred b n 14 0

-- "Open 13, 15 to 18."
pub data OpenBarred (b : Bench) (n : ℕ) (r : Request) : (number cause : ℕ) → Type 0 where
  no_seat_there : NoSeat n → OpenBarred b n r 13 0
  -- "15 | seat open already"
  open_already : (seat_of b.seats n).opened ≡ true → OpenBarred b n r 15 0
  -- "16 | period or multiplier": "R2S period 20 to 1000 ms, multiplier 2 to 50"
  too_short : r.period < 20 → OpenBarred b n r 16 0
  period_too_long : 1000 < r.period → OpenBarred b n r 16 0
  too_few : r.multiplier < 2 → OpenBarred b n r 16 0
  too_many : 50 < r.multiplier → OpenBarred b n r 16 0
  -- "17 | lesson seat asks Coupling"
  lesson_coupling : lesson b.setup n ≡ true → r.call ≡ Coupling → OpenBarred b n r 17 0
  -- "18 | Coupling asked while another seat is Coupling (cause 2005)"
  coupling_taken : r.call ≡ Coupling → (other : ℕ) → (seat_of b.seats other).opened ≡ true → (seat_of b.seats other).call ≡ 3 → OpenBarred b n r 18 2005

-- "its own ptt-id: the seat number for TxRx and Coupling, else 0"
pub data OwnId (n call : ℕ) : (id : ℕ) → Type 0 where
  keys : (call ≡ 2) ⊎ (call ≡ 3) → OwnId n call n
  listens : (call ≡ 2 → ⊥) → (call ≡ 3 → ⊥) → OwnId n call 0

-- "a call type (Radio-Idle, Radio-Rxonly, Radio-TxRx, Coupling)", and the code that a seat keeps of it
pub data Coded : CallType → (code : ℕ) → Type 0 where
  idle : Coded Idle 0
  rx_only : Coded RxOnly 1
  tx_rx : Coded TxRx 2
  coupling : Coded Coupling 3

-- "Open a seat 1 to 8 with a call type .., R2S period .., multiplier .., SSRC .. for its reports"
pub record AsAsked (r : Request) (s : Seat) : Type 0 where
  pub call : Coded r.call s.call
  pub period : s.period ≡ r.period
  pub multiplier : s.multiplier ≡ r.multiplier
  pub ssrc : s.ssrc ≡ r.ssrc

-- "A seat just opened has heard nothing; its last field counts as all zero without items."
pub record JustOpened (r : Request) (s : Seat) : Type 0 where
  pub is_open : s.opened ≡ true
  pub as_asked : AsAsked r s
  pub heard_nothing : s.heard.any ≡ false
  pub all_zero : s.heard.field ≡ record { ptt = 0; id = 0; pm = false; ptts = false; delayed = false; delay = 0; sided = false; standby = false }

-- "23 | .. side event on a single radio"
pub data EventBarred (kind : ℕ) : (number cause : ℕ) → Type 0 where
  single : (kind ≡ 1 → ⊥) → (kind ≡ 2 → ⊥) → EventBarred kind 23 0
