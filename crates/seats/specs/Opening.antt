-- 01, The bench and its calls: "Open a seat 1 to 8 .." and "Close a seat."
use Rattle.std.specs.Prelude.{ℕ, Bool, false, cond, not, ◌&&◌, ◌||◌, List, [], ◌∷◌, leb, eqb}
use Rattle.packet.specs.Refusals.{Case, ◌if◌, Answer, judged}
use Rattle.record.specs.Record.{no_such_seat, seat_of, lesson, closed_seat, opened_seat, with_seat, with_sequence}
use Rattle.record.specs.declared.setup.Setup.{Setup}
use Rattle.record.specs.declared.seat.Seat.{Seat}
use Rattle.record.specs.declared.whole.Bench.{Bench}
use Rattle.seats.specs.declared.opening.CallType.{CallType}
use Rattle.seats.specs.declared.opening.CallType.TheVariants.{Idle, RxOnly, TxRx, Coupling}
use Rattle.seats.specs.declared.opening.Request.{Request}

-- "a call type (Radio-Idle, Radio-Rxonly, Radio-TxRx, Coupling)", by the code that a seat keeps
abbrev pub call_code : CallType → ℕ
call_code Idle = 0
call_code RxOnly = 1
call_code TxRx = 2
call_code Coupling = 3

abbrev pub is_tx_rx : (call : ℕ) → Bool
is_tx_rx call = eqb call 2

abbrev pub is_coupling : (call : ℕ) → Bool
is_coupling call = eqb call 3

-- the call types that have a ptt-id and may key
abbrev pub may_key : (call : ℕ) → Bool
may_key call = is_tx_rx call || is_coupling call

abbrev pub asks_coupling : Request → Bool
asks_coupling r = is_coupling (call_code r.call)

-- "R2S period 20 to 1000 ms, multiplier 2 to 50"
abbrev pub shortest : ℕ
shortest = 20

abbrev pub longest : ℕ
longest = 1000

abbrev pub fewest : ℕ
fewest = 2

abbrev pub most : ℕ
most = 50

abbrev pub times_allowed : Request → Bool
times_allowed r = leb shortest r.period && leb r.period longest && leb fewest r.multiplier && leb r.multiplier most

-- an open seat of call type Coupling
abbrev pub holds_coupling : Seat → Bool
holds_coupling s = s.opened && is_coupling s.call

unfoldable pub any_coupling : List Seat → Bool
any_coupling [] = false
any_coupling (s ∷ ss) = holds_coupling s || any_coupling ss

-- "Open 13, 15 to 18." (18 says another seat: this one is not open, by 15.)
unfoldable pub open_refusals : Setup → (n : ℕ) → List Seat → Request → List Case
open_refusals setup n seats r =
    13 if no_such_seat n
    ∷ 15 if (seat_of seats n).opened
    ∷ 16 if not (times_allowed r)
    ∷ 17 if (lesson setup n && asks_coupling r)
    ∷ 18 if (asks_coupling r && any_coupling seats)
    ∷ []

-- "The answer is its own ptt-id: the seat number for TxRx and Coupling, else 0."
abbrev pub own_id : (n call : ℕ) → ℕ
own_id n call = cond (may_key call) n 0

unfoldable pub open_said : Bench → (n : ℕ) → Request → Answer ℕ
open_said b n r = judged (open_refusals b.setup n b.seats r) (own_id n (call_code r.call))

-- ".. SSRC and first sequence number for its reports."
unfoldable pub opened_bench : Bench → (n : ℕ) → Request → Bench
opened_bench b n r =
    with_sequence (with_seat b n (opened_seat (call_code r.call) r.period r.multiplier r.ssrc)) n r.sequence

-- "13 | seat not 1 to 8", "14 | seat not open": of each call for a seat that is open. "Close 13, 14."
unfoldable pub seat_refusals : (n : ℕ) → (opened : Bool) → List Case
seat_refusals n opened =
    13 if no_such_seat n
    ∷ 14 if not opened
    ∷ []

unfoldable pub seat_verdict : (n : ℕ) → (opened : Bool) → Answer (Unit {0})
seat_verdict n opened = judged (seat_refusals n opened) tt

unfoldable pub close_said : Bench → (n : ℕ) → Answer (Unit {0})
close_said b n = seat_verdict n (seat_of b.seats n).opened

-- "It can be opened again at once."
unfoldable pub closed_bench : Bench → (n : ℕ) → Bench
closed_bench b n = with_seat b n closed_seat
