-- Opening, closing and the side event, held to InWords.
use Rattle.std.proofs.lemmas.Bool.Decides.{nat_tests}
use Prim.Native.Nat.{ℕ, suc, ◌≤◌, ◌<◌}
use mathlib.Core.Path.{◌≡◌, refl, sym, ap, ◌∙◌}
use mathlib.Core.Bool.{Bool, true, false, not, ◌&&◌, ◌||◌, false≢true}
use mathlib.Core.List.{List, [], ◌∷◌}
use mathlib.Core.Logic.{inl, inr}
use native.Mathlib.Omega.{arith}
use lib.Dec.{ltb, leb, eqb}
use lib.ListN.{length, get_or}
use borrow.Author.Tests.{ltb-true, leb-false, eqb-true, eqb-false, not-true}
use Rattle.base.proofs.Truths.{and_left, and_right, ◌and◌}
use Rattle.packet.proofs.InWords.{MetIf, Agree}
use Rattle.record.specs.Kind.{kind_of, has_one_side}
use Rattle.record.specs.Record.{no_such_seat, closed_seat, opened_seat, seat_of, lesson}
use Rattle.record.proofs.Seats.{seat_at}
use Rattle.record.specs.declared.seat.Seat.{Seat}
use Rattle.record.specs.declared.whole.Bench.{Bench}
use Rattle.seats.specs.Opening.{call_code, own_id, asks_coupling, holds_coupling, times_allowed, any_coupling, open_refusals, seat_refusals}
use Rattle.seats.specs.Radio.{side_refusals}
use Rattle.seats.specs.InWords.{NoSeat, SeatBarred, no_seat, not_open, OpenBarred, no_seat_there, open_already, too_short, period_too_long, too_few, too_many, lesson_coupling, coupling_taken, OwnId, keys, listens, Coded, idle, rx_only, tx_rx, coupling, AsAsked, JustOpened, EventBarred, single}
use Rattle.seats.specs.declared.opening.CallType.{CallType}
use Rattle.seats.specs.declared.opening.CallType.TheVariants.{Idle, RxOnly, TxRx, Coupling}
use Rattle.seats.specs.declared.opening.Request.{Request}
use Rattle.seats.proofs.OpeningLaws.{none_coupling}

-- ---- 13, 14

seat_to : (n : ℕ) → no_such_seat n ≡ true → NoSeat n
seat_to n e = by_case (eqb n 0) refl e
  where
    by_case : (t : Bool) → eqb n 0 ≡ t → t || ltb 8 n ≡ true → NoSeat n
    by_case true q e = inl (eqb-true n 0 q)
    by_case false q e = inr (ltb-true 8 n e)

seat_from : (n : ℕ) → NoSeat n → no_such_seat n ≡ true
seat_from n (inl e) = grind (arith, nat_tests)
seat_from n (inr h) = grind (arith, nat_tests)

module _ (b : Bench) (n : ℕ) where
  pub seat_13 : MetIf (SeatBarred b n) 13 (no_such_seat n)
  seat_13 = record { if_holds = λ e. no_seat (seat_to n e); only_if = only_if }
    where
      only_if : (c : ℕ) → SeatBarred b n 13 c → (no_such_seat n ≡ true) × (c ≡ 0)
      only_if c (no_seat h) = (seat_from n h, refl)

  pub seat_14 : MetIf (SeatBarred b n) 14 (not (seat_of b.seats n).opened)
  seat_14 = record { if_holds = λ e. not_open (not-true _ e); only_if = only_if }
    where
      only_if : (c : ℕ) → SeatBarred b n 14 c → (not (seat_of b.seats n).opened ≡ true) × (c ≡ 0)
      only_if c (not_open h) = (ap not h, refl)

  pub seat_agrees : Agree (SeatBarred b n) (seat_refusals n (seat_of b.seats n).opened)
  unfolding seat_refusals
  seat_agrees = seat_13 and λ _. seat_14 and λ _. tt

  -- a seat bars with 13 and 14 alone
  pub seat_range : {k c : ℕ} → SeatBarred b n k c → (13 ≤ k) × (k ≤ 14)
  seat_range (no_seat h) = (omega arith, omega arith)
  seat_range (not_open h) = (omega arith, omega arith)

-- ---- 15 to 18

module _ (b : Bench) (n : ℕ) (r : Request) where
  open_13 : MetIf (OpenBarred b n r) 13 (no_such_seat n)
  open_13 = record { if_holds = λ e. no_seat_there (seat_to n e); only_if = only_if }
    where
      only_if : (c : ℕ) → OpenBarred b n r 13 c → (no_such_seat n ≡ true) × (c ≡ 0)
      only_if c (no_seat_there h) = (seat_from n h, refl)

  open_15 : MetIf (OpenBarred b n r) 15 (seat_of b.seats n).opened
  open_15 = record { if_holds = open_already; only_if = only_if }
    where
      only_if : (c : ℕ) → OpenBarred b n r 15 c → ((seat_of b.seats n).opened ≡ true) × (c ≡ 0)
      only_if c (open_already h) = (h, refl)

  open_16 : MetIf (OpenBarred b n r) 16 (not (times_allowed r))
  open_16 = record { if_holds = λ e. to (leb 20 r.period) (leb r.period 1000) (leb 2 r.multiplier) (leb r.multiplier 50) refl refl refl refl e; only_if = only_if }
    where
      to : (a c d e : Bool) → leb 20 r.period ≡ a → leb r.period 1000 ≡ c → leb 2 r.multiplier ≡ d → leb r.multiplier 50 ≡ e
          → not (a && c && d && e) ≡ true → OpenBarred b n r 16 0
      to false c d e p q s t h = too_short (leb-false 20 r.period p)
      to true false d e p q s t h = period_too_long (leb-false r.period 1000 q)
      to true true false e p q s t h = too_few (leb-false 2 r.multiplier s)
      to true true true false p q s t h = too_many (leb-false r.multiplier 50 t)
      to true true true true p q s t h = absurd (false≢true h)

      only_if : (c : ℕ) → OpenBarred b n r 16 c → (not (times_allowed r) ≡ true) × (c ≡ 0)
      only_if c (too_short h) = (grind (arith, nat_tests), refl)
      only_if c (period_too_long h) = (grind (arith, nat_tests), refl)
      only_if c (too_few h) = (grind (arith, nat_tests), refl)
      only_if c (too_many h) = (grind (arith, nat_tests), refl)

  asks_to : asks_coupling r ≡ true → r.call ≡ Coupling
  asks_to e = by_call r.call e
    where
      by_call : (c : CallType) → eqb (call_code c) 3 ≡ true → c ≡ Coupling
      by_call Idle e = absurd (false≢true e)
      by_call RxOnly e = absurd (false≢true e)
      by_call TxRx e = absurd (false≢true e)
      by_call Coupling e = refl

  asks_from : r.call ≡ Coupling → asks_coupling r ≡ true
  asks_from e = ap (λ (c : CallType). eqb (call_code c) 3) e

  open_17 : MetIf (OpenBarred b n r) 17 (lesson b.setup n && asks_coupling r)
  open_17 =
      record {
        if_holds = λ e. lesson_coupling (and_left (lesson b.setup n) (asks_coupling r) e) (asks_to (and_right (lesson b.setup n) (asks_coupling r) e));
        only_if = only_if;
      }
    where
      only_if : (c : ℕ) → OpenBarred b n r 17 c → (lesson b.setup n && asks_coupling r ≡ true) × (c ≡ 0)
      only_if c (lesson_coupling h e) = (grind (arith, asks_from e), refl)

  -- the place of a seat of call type Coupling
  coupling_at : (ss : List Seat) → any_coupling ss ≡ true → (i : ℕ) × (i < length ss) × (holds_coupling (get_or ss i closed_seat) ≡ true)
  unfolding any_coupling
  coupling_at [] e = absurd (false≢true e)
  coupling_at (s ∷ ss) e = by_case (holds_coupling s) refl e (coupling_at ss)
    where
      by_case : (t : Bool) → holds_coupling s ≡ t → t || any_coupling ss ≡ true
          → (any_coupling ss ≡ true → (i : ℕ) × (i < length ss) × (holds_coupling (get_or ss i closed_seat) ≡ true))
          → (i : ℕ) × (i < suc (length ss)) × (holds_coupling (get_or (s ∷ ss) i closed_seat) ≡ true)
      by_case true q e rest = (0, omega arith, q)
      by_case false q e rest = let r = rest e in (suc r.0, (let h = r.1 in omega arith), r.2)

  open_18 : length b.seats ≡ 8 → MetIf (OpenBarred b n r) 18 (asks_coupling r && any_coupling b.seats)
  open_18 eight = record { if_holds = λ e. taken (asks_to (and_left (asks_coupling r) _ e)) (and_right (asks_coupling r) _ e); only_if = only_if }
    where
      taken : r.call ≡ Coupling → any_coupling b.seats ≡ true → OpenBarred b n r 18 2005
      taken asks e =
          let at = coupling_at b.seats e in
          let s = seat_of b.seats (suc at.0) in
          let here : holds_coupling s ≡ true = ap holds_coupling (seat_at b.seats at.0 (let h = at.1 in omega arith)) ∙ at.2 in
          coupling_taken asks (suc at.0) (and_left s.opened (eqb s.call 3) here) (eqb-true s.call 3 (and_right s.opened (eqb s.call 3) here))

      any : (k : ℕ) → (seat_of b.seats k).opened ≡ true → (seat_of b.seats k).call ≡ 3 → (u : Bool) → any_coupling b.seats ≡ u → u ≡ true
      any k up is true e = refl
      any k up is false e = sym (none_coupling b.seats k e) ∙ simp (up, is)

      only_if : (c : ℕ) → OpenBarred b n r 18 c → (asks_coupling r && any_coupling b.seats ≡ true) × (c ≡ 2005)
      only_if c (coupling_taken e k up is) = (grind (arith, nat_tests, asks_from e, none_coupling b.seats k, up, is), refl)

  pub open_agrees : length b.seats ≡ 8 → Agree (OpenBarred b n r) (open_refusals b.setup n b.seats r)
  unfolding open_refusals
  open_agrees eight = open_13 and λ _. open_15 and λ _. open_16 and λ _. open_17 and λ _. open_18 eight and λ _. tt

-- ---- the own ptt-id, and a seat just opened

pub own_is : (n call : ℕ) → OwnId n call (own_id n call)
own_is n call = by_cases (eqb call 2) (eqb call 3) refl refl
  where
    by_cases : (two three : Bool) → eqb call 2 ≡ two → eqb call 3 ≡ three → OwnId n call (own_id n call)
    by_cases true three p q = simp p (keys (inl (eqb-true call 2 p)))
    by_cases false true p q = simp (p, q) (keys (inr (eqb-true call 3 q)))
    by_cases false false p q = simp (p, q) (listens (eqb-false call 2 p) (eqb-false call 3 q))

-- no other number is
pub own_only : (n call id : ℕ) → OwnId n call id → id ≡ own_id n call
own_only n call _ (keys (inl e)) = grind (arith, nat_tests)
own_only n call _ (keys (inr e)) = grind (arith, nat_tests)
own_only n call _ (listens two three) = grind (arith, nat_tests, two, three)

coded : (c : CallType) → Coded c (call_code c)
coded Idle = idle
coded RxOnly = rx_only
coded TxRx = tx_rx
coded Coupling = coupling

pub as_asked : (r : Request) → AsAsked r (opened_seat (call_code r.call) r.period r.multiplier r.ssrc)
unfolding opened_seat
as_asked r = record { call = coded r.call; period = refl; multiplier = refl; ssrc = refl }

pub just_opened : (r : Request) → JustOpened r (opened_seat (call_code r.call) r.period r.multiplier r.ssrc)
unfolding opened_seat
just_opened r = record { is_open = refl; as_asked = as_asked r; heard_nothing = refl; all_zero = refl }

-- ---- 23 of the event

pub event_agrees : (b : Bench) → Agree (EventBarred b.setup.kind) (side_refusals b.setup)
unfolding side_refusals kind_of
event_agrees b = (record { if_holds = by_kind (eqb b.setup.kind 1) (eqb b.setup.kind 2) refl refl; only_if = only_if }, λ two. tt)
  where
    by_kind : (one two : Bool) → eqb b.setup.kind 1 ≡ one → eqb b.setup.kind 2 ≡ two → has_one_side (kind_of b.setup.kind) ≡ true → EventBarred b.setup.kind 23 0
    by_kind true two p q e = absurd (false≢true (simp p at e))
    by_kind false true p q e = absurd (false≢true (simp (p, q) at e))
    by_kind false false p q e = single (eqb-false b.setup.kind 1 p) (eqb-false b.setup.kind 2 q)

    only_if : (c : ℕ) → EventBarred b.setup.kind 23 c → (has_one_side (kind_of b.setup.kind) ≡ true) × (c ≡ 0)
    only_if c (single one two) = (grind (arith, nat_tests, one, two), refl)
