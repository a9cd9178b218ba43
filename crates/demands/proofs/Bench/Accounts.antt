-- The totals of an open seat are what its history says: through each accepted call, and so through every run.
use Prim.Native.Nat.{ℕ, ◌+◌}
use mathlib.Core.Path.{◌≡◌, refl, sym, ap, subst, ◌∙◌}
use mathlib.Core.Bool.{Bool, true, false, cond, false≢true}
use mathlib.Core.List.{List, [], ◌∷◌, ◌++◌}
use native.Mathlib.Omega.{arith}
use lib.Dec.{eqb}
use lib.IntN.{ℤ, pos, ◌+ℤ◌, +ℤ_idl, +ℤ_idr, +ℤ_assoc}
use lib.ListN.{length, length-append}
use Rattle.base.specs.Order.{centred, distance, late, missing}
use Rattle.base.proofs.OrderLaws.{missing_is}
use Rattle.packet.specs.Refusals.{NoCase, Answer, accepted, refused}
use Rattle.packet.specs.declared.message.Tx.{Tx}
use Rattle.record.specs.Record.{closed_seat, opened_seat, seat_of, fresh_bench}
use Rattle.record.proofs.Seats.{seat_of_eight_closed}
use Rattle.seats.specs.Opening.{call_code}
use Rattle.seats.specs.Ticking.{ticked_seat}
use Rattle.seats.proofs.Accepted.{seat_accepted}
use Rattle.seats.proofs.TickingLaws.{ticked_cases}
use Rattle.hearing.specs.Account.{missing_before, totals_after}
use Rattle.hearing.specs.Hearing.{heard_seat, message_in}
use Rattle.hearing.proofs.Accepted.{packet_accepted}
use Rattle.bench.specs.Step.{Call, opening, closing, packet, tick, report, received, transmitter, side, totals, Said, totalled, keeping, after, was_accepted, accepted_calls}
use Rattle.bench.proofs.Keeping.{refused_keeps}
use Rattle.record.specs.declared.setup.Setup.{Setup}
use Rattle.record.specs.declared.seat.Heard.{Heard}
use Rattle.record.specs.declared.seat.Seat.{Seat}
use Rattle.record.specs.declared.whole.Bench.{Bench}
use Rattle.demands.specs.ExactCalls.{refusals_of}
use Rattle.demands.specs.SeatAfter.{seat_after}
use Rattle.demands.specs.Accounts.{noted, noted_through, history_of, distances, account, seat_after_run, Accounts}
use Rattle.demands.proofs.Demand1.Calls.{after_call, was_accepted_lem}
use Rattle.demands.proofs.Bench.SeatAfter.{seat_after_lem, none_held, eight_seats}

-- ---- one seat

-- the last number of a history
unfoldable newest : (first : ℕ) → (later : List ℕ) → ℕ
newest first [] = first
newest first (new ∷ later) = newest new later

-- the history ends with what the seat last accepted
abbrev EndsWith : List ℕ → Heard → Type 0
EndsWith [] last = last.any ≡ false
EndsWith (first ∷ later) last = (last.any ≡ true) × (last.sequence ≡ newest first later)

record Sums (history : List ℕ) (s : Seat) : Type 0 where
  total : pos (s.totals.heard + s.totals.missing) ≡ account history
  many : s.totals.heard ≡ length history
  ends : EndsWith history s.heard

sums_opened : (call period multiplier ssrc : ℕ) → Sums [] (opened_seat call period multiplier ssrc)
unfolding opened_seat account
sums_opened call period multiplier ssrc = record { total = refl; many = refl; ends = refl }

-- the first packet counts 1, whatever its number
sums_first : (s : Seat) (m : Tx) → Sums [] s → Sums (m.sequence ∷ []) (heard_seat s m)
unfolding heard_seat totals_after missing account distances newest
sums_first s m sums = grind arith

-- a later one is added at the end of a history
newest_added : (first : ℕ) (later : List ℕ) (new : ℕ) → newest first (later ++ new ∷ []) ≡ new
unfolding newest
newest_added first [] new = refl
newest_added first (next ∷ later) new = newest_added next later new

distances_added : (first : ℕ) (later : List ℕ) (new : ℕ) → distances first (later ++ new ∷ []) ≡ distances first later +ℤ distance (newest first later) new
unfolding distances newest
distances_added first [] new = +ℤ_idr (distance first new) ∙ sym (+ℤ_idl (distance first new))
distances_added first (next ∷ later) new =
    ap (λ (z : ℤ). distance first next +ℤ z) (distances_added next later new) ∙ sym (+ℤ_assoc (distance first next) (distances next later) _)

account_added : (first : ℕ) (later : List ℕ) (new : ℕ) → account (first ∷ later ++ new ∷ []) ≡ account (first ∷ later) +ℤ distance (newest first later) new
unfolding account
account_added first later new = ap (λ (z : ℤ). pos 1 +ℤ z) (distances_added first later new) ∙ sym (+ℤ_assoc (pos 1) (distances first later) _)

-- and counts its distance: those missing before it, and itself
module _ (first : ℕ) (later : List ℕ) (s : Seat) (m : Tx) (sums : Sums (first ∷ later) s) (in_order : late s.heard.any s.heard.sequence m.sequence ≡ false) where
  abbrev lost : ℕ
  lost = missing_before s.heard m

  its_distance : pos (lost + 1) ≡ distance (newest first later) m.sequence
  its_distance = grind (arith, missing_is)

  sums_later : Sums (first ∷ later ++ m.sequence ∷ []) (heard_seat s m)
  unfolding heard_seat totals_after
  sums_later = grind (arith, account_added, its_distance, length-append, newest_added)

sums_heard : (history : List ℕ) (s : Seat) (m : Tx) → late s.heard.any s.heard.sequence m.sequence ≡ false → Sums history s
    → Sums (history ++ m.sequence ∷ []) (heard_seat s m)
sums_heard [] s m in_order sums = sums_first s m sums
sums_heard (first ∷ later) s m in_order sums = sums_later first later s m sums in_order

-- while it is open
abbrev SumsOpen : List ℕ → Seat → Type 0
SumsOpen history s = s.opened ≡ true → Sums history s

sums_closed : (history : List ℕ) → SumsOpen history closed_seat
sums_closed history up = absurd (false≢true up)

sums_ticked : (history : List ℕ) (ms : ℕ) (s : Seat) → SumsOpen history s → SumsOpen history (ticked_seat ms s)
sums_ticked history ms s sums =
    ticked_cases (SumsOpen history) ms s (sums_closed history)
    (λ is_open younger up. let old = sums is_open in record { total = old.total; many = old.many; ends = old.ends }) sums

-- ---- one call

-- the seat that a call names, or another
named : (m n : ℕ) (old new : List ℕ) (s next : Seat) → SumsOpen old s → (n ≡ m → SumsOpen new next)
    → SumsOpen (cond (eqb n m) new old) (cond (eqb n m) next s)
named m n old new s next others its = grind arith

module _ (b : Bench) (n : ℕ) (history : List ℕ) (sums : SumsOpen history (seat_of b.seats n)) where
  abbrev s : Seat
  s = seat_of b.seats n

  sums_accepted : (c : Call) → NoCase (refusals_of b c) → SumsOpen (noted n history c) (seat_after c n s)
  sums_accepted (opening m r) none = named m n history [] s _ sums (λ e up. sums_opened (call_code r.call) r.period r.multiplier r.ssrc)
  sums_accepted (closing m) none = by_name (eqb n m)
    where
      by_name : (t : Bool) → SumsOpen history (cond t closed_seat s)
      by_name true = sums_closed history
      by_name false = sums
  sums_accepted (packet m p) none =
      named m n history (history ++ (message_in p).sequence ∷ []) s (heard_seat s (message_in p)) sums (λ e up. sums_heard history s (message_in p) (in_order e) (sums (unfold heard_seat in up)))
    where
      in_order : n ≡ m → late s.heard.any s.heard.sequence (message_in p).sequence ≡ false
      in_order e =
          subst (λ (k : ℕ). late (seat_of b.seats k).heard.any (seat_of b.seats k).heard.sequence (message_in p).sequence ≡ false) (sym e)
          (packet_accepted b.setup m (seat_of b.seats m) p none).not_late
  sums_accepted (tick ms timestamp room) none = sums_ticked history ms s sums
  sums_accepted (report m timestamp sound room) none = sums
  sums_accepted (received signals level) none = sums
  sums_accepted (transmitter healthy) none = sums
  sums_accepted (side standby) none = sums
  sums_accepted (totals m) none = sums

-- a call is accepted, and noted, or leaves the bench as it was
sums_call : (n : ℕ) (b : Bench) (c : Call) (history : List ℕ) → length b.seats ≡ 8 → SumsOpen history (seat_of b.seats n)
    → SumsOpen (cond (was_accepted (keeping b c).answer) (noted n history c) history) (seat_of (keeping b c).bench.seats n)
sums_call n b c history eight sums = by_answer (keeping b c).answer refl
  where
    by_answer : (a : Answer Said) → (keeping b c).answer ≡ a → SumsOpen (cond (was_accepted a) (noted n history c) history) (seat_of (keeping b c).bench.seats n)
    by_answer (accepted said) e =
        let none = none_held b c said e in
        subst (SumsOpen (noted n history c)) (sym (seat_after_lem b c eight none n)) (sums_accepted b n history sums c none)
    by_answer (refused k cause) e = subst (λ (x : Bench). SumsOpen history (seat_of x.seats n)) (sym (refused_keeps b c k cause e)) sums

-- ---- a run

noted_first : (n : ℕ) (history : List ℕ) (c : Call) (rest : List Call) (t : Bool)
    → noted_through n (cond t (noted n history c) history) rest ≡ noted_through n history (cond t (c ∷ rest) rest)
unfolding noted_through
noted_first n history c rest t = grind arith

sums_run : (n : ℕ) (b : Bench) (cs : List Call) (history : List ℕ) → length b.seats ≡ 8 → SumsOpen history (seat_of b.seats n)
    → SumsOpen (noted_through n history (accepted_calls keeping b cs)) (seat_of (after keeping b cs).seats n)
unfolding after accepted_calls
sums_run n b [] history eight sums = unfold noted_through in sums
sums_run n b (c ∷ cs) history eight sums =
    let next = (keeping b c).bench in
    let rest = accepted_calls keeping next cs in
    subst (λ (h : List ℕ). SumsOpen h (seat_of (after keeping next cs).seats n)) (noted_first n history c rest (was_accepted (keeping b c).answer))
    (sums_run n next cs _ (eight_seats b c ∙ eight) (sums_call n b c history eight sums))

module _ (setup : Setup) (run : List Call) (n : ℕ) where
  at_start : SumsOpen [] (seat_of (fresh_bench setup).seats n)
  unfolding fresh_bench
  at_start = subst (SumsOpen []) (sym (seat_of_eight_closed n)) (sums_closed [])

  its_sums : SumsOpen (history_of n setup run) (seat_after_run n setup run)
  its_sums = sums_run n (fresh_bench setup) run [] (unfold fresh_bench in refl) at_start

  call_tells : (heard missing : ℕ) → (keeping (after keeping (fresh_bench setup) run) (totals n)).answer ≡ accepted (totalled heard missing)
      → (pos (heard + missing) ≡ account (history_of n setup run)) × (heard ≡ length (history_of n setup run))
  call_tells heard missing e =
      let s = seat_after_run n setup run in
      let was = was_accepted_lem (after keeping (fresh_bench setup) run) (totals n) (totalled heard missing) e in
      let sums = its_sums (seat_accepted n s.opened was.0).was_open in
      let is_heard : s.totals.heard ≡ heard = cc was.1 in
      let is_missing : s.totals.missing ≡ missing = cc was.1 in
      (cc (sums.total, is_heard, is_missing), cc (sums.many, is_heard))

pub accounts : Accounts
unfolding centred distance distances account
accounts =
    record {
      for_instance = refl;
      heard_and_missing = λ setup run n up. (its_sums setup run n up).total;
      heard_alone = λ setup run n up. (its_sums setup run n up).many;
      call_tells = call_tells;
      bench_left = λ b n. after_call (λ (x : Bench). x ≡ b) b (totals n) refl (λ none. refl);
    }
