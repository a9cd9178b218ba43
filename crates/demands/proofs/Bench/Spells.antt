-- A ledger of keyings, one call further: what a packet, an opening and a call that leaves the fields make of it.
use Prim.Native.Nat.{ℕ, suc, ◌≤◌, ◌<◌}
use mathlib.Core.Path.{◌≡◌, refl, sym, ap, subst, ◌∙◌}
use mathlib.Core.Bool.{Bool, true, false, cond, not, ◌&&◌, ◌||◌}
use mathlib.Core.List.{List}
use native.Mathlib.Omega.{arith}
use lib.Dec.{eqb}
use lib.ListN.{length}
use borrow.Author.Tests.{eqb-true, eqb-false}
use Rattle.base.proofs.Truths.{or_right}
use Rattle.packet.specs.Packet.{ptt_on}
use Rattle.packet.specs.Refusals.{NoCase, accepted}
use Rattle.packet.specs.declared.message.Tx.{Tx}
use Rattle.record.specs.Record.{opened_seat, seat_of}
use Rattle.record.proofs.Seats.{seat_in_range}
use Rattle.seats.specs.Opening.{call_code, opened_bench}
use Rattle.air.specs.Air.{keyed}
use Rattle.air.specs.Order.{begins, to_last, order_after}
use Rattle.hearing.specs.Hearing.{field_heard, heard_seat, message_in}
use Rattle.hearing.proofs.Accepted.{packet_accepted}
use Rattle.bench.specs.Step.{Call, opening, packet, Said, keeping}
use Rattle.record.specs.declared.seat.Field.{Field}
use Rattle.record.specs.declared.seat.Seat.{Seat}
use Rattle.record.specs.declared.whole.Bench.{Bench}
use Rattle.seats.specs.declared.opening.Request.{Request}
use Rattle.demands.specs.ExactCalls.{refusals_of}
use Rattle.demands.specs.SeatAfter.{seat_after}
use Rattle.air.specs.InWords.{last_field, place_of}
use Rattle.demands.specs.BeganFirst.{Spell, spell_heard, spell_after}
use Rattle.demands.proofs.Demand1.Calls.{was_accepted_lem}
use Rattle.demands.proofs.Bench.SeatAfter.{seat_after_lem}
use Rattle.demands.proofs.Bench.KeyingsInOrder.{Counted, counted_once, next_order, known_type}
use Rattle.air.proofs.OrderInWords.{behind, others}
use Rattle.demands.proofs.Bench.EventsSet.{stays}

-- what a field keys: its PTT type, 0 if it is off or muted
abbrev pub keys : Field → ℕ
keys f = cond (keyed f) f.ptt 0

abbrev pub no_spell : ℕ → Spell
no_spell i = record { type = 0; since = i }

-- ---- a packet against the present keying

module _ (old : Field) (m : Tx) (known : m.ptt ≤ 5) (now : Spell) (is : now.type ≡ keys old) (i : ℕ) where
  quiet_is : (a c : Bool) → m.pm ≡ a → eqb m.ptt 0 ≡ c → ptt_on m.ptt && not m.pm ≡ not (a || c)
  quiet_is a c p q = grind arith

  -- what the keying is after it, and whether one began
  data Heard : Spell → Bool → Type 0 where
    ends : keys (field_heard m) ≡ 0 → Heard (record { type = 0; since = i }) false
    goes_on : keys (field_heard m) ≡ now.type → Heard now false
    another : keys (field_heard m) ≡ m.ptt → Heard (record { type = m.ptt; since = i }) true

  heard_as : Heard (spell_heard i now m) (begins old (field_heard m))
  unfolding begins field_heard
  heard_as = by_quiet (m.pm || eqb m.ptt 0) refl (quiet_is m.pm (eqb m.ptt 0) refl refl)
    where
      by_quiet : (a : Bool) → (m.pm || eqb m.ptt 0) ≡ a → ptt_on m.ptt && not m.pm ≡ not a
          → Heard (cond a (record { type = 0; since = i }) (cond (eqb m.ptt now.type) now (record { type = m.ptt; since = i })))
          (ptt_on m.ptt && not m.pm && not (keyed old && eqb old.ptt m.ptt))
      by_quiet true q on = rw on (ends (rw on))
      by_quiet false q on = rw on (by_type (eqb m.ptt now.type) (keyed old) (eqb old.ptt m.ptt) refl refl refl is)
        where
          is_on : keys (field_heard m) ≡ m.ptt
          is_on = rw on

          by_type : (a c d : Bool) → eqb m.ptt now.type ≡ a → keyed old ≡ c → eqb old.ptt m.ptt ≡ d → now.type ≡ cond c old.ptt 0
              → Heard (cond a now (record { type = m.ptt; since = i })) (not (c && d))
          by_type true true true p r s e = goes_on (is_on ∙ eqb-true m.ptt now.type p)
          by_type true true false p r s e = absurd (eqb-false old.ptt m.ptt s (sym e ∙ sym (eqb-true m.ptt now.type p)))
          by_type true false d p r s e =
              absurd (eqb-false m.ptt 0 (or_right m.pm (eqb m.ptt 0) q) (eqb-true m.ptt now.type p ∙ e))
          by_type false true true p r s e = absurd (eqb-false m.ptt now.type p (sym (eqb-true old.ptt m.ptt s) ∙ sym e))
          by_type false true false p r s e = another is_on
          by_type false false d p r s e = another is_on

  heard_type : {sp : Spell} {t : Bool} → Heard sp t → sp.type ≡ keys (field_heard m)
  heard_type h = grind arith

  heard_since : {sp : Spell} {t : Bool} → Heard sp t → now.since < i → sp.since < suc i
  heard_since h l = grind arith

-- ---- what every bench of a run has

pub record Ledger (b : Bench) (i : ℕ) (spells : ℕ → Spell) : Type 0 where
  pub typed : (n : ℕ) → (seat_of b.seats n).opened ≡ true → (spells n).type ≡ keys (last_field b n)
  pub early : (n : ℕ) → (spells n).since < i
  pub ordered : (j k : ℕ) → 1 ≤ j → j ≤ 8 → 1 ≤ k → k ≤ 8 → ((spells j).type ≡ 0 → ⊥) → ((spells k).type ≡ 0 → ⊥)
      → (spells j).since < (spells k).since → place_of j b.order < place_of k b.order

module _ (b : Bench) (c : Call) (i : ℕ) (spells : ℕ → Spell) (eight : length b.seats ≡ 8) (clear : NoCase (refusals_of b c)) (old : Ledger b i spells) where
  -- a call that leaves each open seat's field
  pub left_alone : (keeping b c).bench.order ≡ b.order
      → ((n : ℕ) (s : Seat) → (seat_after c n s).opened ≡ true → (s.opened ≡ true) × ((seat_after c n s).heard.field ≡ s.heard.field))
      → Ledger (keeping b c).bench (suc i) spells
  left_alone unmoved same = grind (arith, seat_after_lem)

module _ (b : Bench) (i : ℕ) (spells : ℕ → Spell) (eight : length b.seats ≡ 8) (counted : Counted b) (old : Ledger b i spells) where
  pub opened_ledger : (m : ℕ) (r : Request) → NoCase (refusals_of b (opening m r)) → Ledger (keeping b (opening m r)).bench (suc i) (λ n. spell_after n i (spells n) (opening m r))
  unfolding opened_seat
  opened_ledger m r clear =
      record {
        typed = λ n up.
            let q = seat_after_lem b (opening m r) eight clear n in
            typed n (eqb n m) (ap (λ (s : Seat). s.opened) (sym q) ∙ up) ∙ ap (λ (s : Seat). keys s.heard.field) (sym q);
        early = λ n. early n (eqb n m);
        ordered = λ j k a d e f x y l.
            subst (λ (o : List ℕ). place_of j o < place_of k o) (sym (stays (λ (x : Bench). x.order) b (opening m r) (unfold opened_bench in refl)))
            (ordered j k (eqb j m) (eqb k m) a d e f x y l);
      }
    where
      typed : (n : ℕ) (t : Bool)
          → (cond t (opened_seat (call_code r.call) r.period r.multiplier r.ssrc) (seat_of b.seats n)).opened ≡ true
          → (cond t (no_spell i) (spells n)).type
          ≡ keys (cond t (opened_seat (call_code r.call) r.period r.multiplier r.ssrc) (seat_of b.seats n)).heard.field
      typed n true up = refl
      typed n false up = old.typed n up

      early : (n : ℕ) (t : Bool) → (cond t (no_spell i) (spells n)).since < suc i
      early n true = omega arith
      early n false = let l = old.early n in omega arith

      ordered : (j k : ℕ) (t u : Bool) → 1 ≤ j → j ≤ 8 → 1 ≤ k → k ≤ 8 → ((cond t (no_spell i) (spells j)).type ≡ 0 → ⊥)
          → ((cond u (no_spell i) (spells k)).type ≡ 0 → ⊥)
          → (cond t (no_spell i) (spells j)).since < (cond u (no_spell i) (spells k)).since → place_of j b.order < place_of k b.order
      ordered j k true u a d e f x y l = absurd (x refl)
      ordered j k false true a d e f x y l = absurd (y refl)
      ordered j k false false a d e f x y l = old.ordered j k a d e f x y l

  -- what a packet of seat m makes of its keying, and whether its seat moves
  data Moved (m : ℕ) : Spell → Bool → Type 0 where
    gone : Moved m (no_spell i) false
    as_it_was : Moved m (spells m) false
    anew : (ptt : ℕ) → Moved m (record { type = ptt; since = i }) true

  ordered_after : (m : ℕ) → 1 ≤ m → m ≤ 8 → (sp : Spell) (began : Bool) → Moved m sp began → (j k : ℕ) → 1 ≤ j → j ≤ 8 → 1 ≤ k → k ≤ 8
      → ((cond (eqb j m) sp (spells j)).type ≡ 0 → ⊥) → ((cond (eqb k m) sp (spells k)).type ≡ 0 → ⊥) → (cond (eqb j m) sp (spells j)).since < (cond (eqb k m) sp (spells k)).since
      → place_of j (cond began (to_last m b.order) b.order) < place_of k (cond began (to_last m b.order) b.order)
  ordered_after m low high _ _ gone j k a d f g = by_seats (eqb j m) (eqb k m)
    where
      by_seats : (t u : Bool) → ((cond t (no_spell i) (spells j)).type ≡ 0 → ⊥) → ((cond u (no_spell i) (spells k)).type ≡ 0 → ⊥)
          → (cond t (no_spell i) (spells j)).since < (cond u (no_spell i) (spells k)).since → place_of j b.order < place_of k b.order
      by_seats true u x y l = absurd (x refl)
      by_seats false true x y l = absurd (y refl)
      by_seats false false x y l = old.ordered j k a d f g x y l
  ordered_after m low high _ _ as_it_was j k a d f g = λ x y l.
      let p = mine j (eqb j m) refl in
      let q = mine k (eqb k m) refl in
      old.ordered j k a d f g (λ z. x (ap (λ (w : Spell). w.type) p ∙ z)) (λ z. y (ap (λ (w : Spell). w.type) q ∙ z))
      (let u = ap (λ (w : Spell). w.since) p in let v = ap (λ (w : Spell). w.since) q in omega arith)
    where
      mine : (n : ℕ) (t : Bool) → eqb n m ≡ t → cond t (spells m) (spells n) ≡ spells n
      mine n true q = sym (ap spells (eqb-true n m q))
      mine n false q = refl
  ordered_after m low high _ _ (anew ptt) j k a d f g = by_seats (eqb j m) (eqb k m) refl refl
    where
      by_seats : (t u : Bool) → eqb j m ≡ t → eqb k m ≡ u → ((cond t (record { type = ptt; since = i }) (spells j)).type ≡ 0 → ⊥)
          → ((cond u (record { type = ptt; since = i }) (spells k)).type ≡ 0 → ⊥)
          → (cond t (record { type = ptt; since = i }) (spells j)).since < (cond u (record { type = ptt; since = i }) (spells k)).since
          → place_of j (to_last m b.order) < place_of k (to_last m b.order)
      by_seats true true p q x y l = absurd (omega arith)
      by_seats true false p q x y l = absurd (let h = old.early k in omega arith)
      by_seats false true p q x y l =
          subst (λ (n : ℕ). place_of j (to_last m b.order) < place_of n (to_last m b.order)) (sym (eqb-true k m q))
          (behind b.order m (counted_once b counted) low high j a d (eqb-false j m p))
      by_seats false false p q x y l =
          (others b.order m (counted_once b counted) low high j k a d f g (eqb-false j m p) (eqb-false k m q)).1 (old.ordered j k a d f g x y l)

  pub packet_ledger : (m : ℕ) (p : List ℕ) (said : Said) → (keeping b (packet m p)).answer ≡ accepted said
      → Ledger (keeping b (packet m p)).bench (suc i) (λ n. spell_after n i (spells n) (packet m p))
  packet_ledger m p said e =
      record {
        typed = λ n up.
            let q = seat_after_lem b (packet m p) eight clear n in
            typed n (eqb n m) refl (ap (λ (s : Seat). s.opened) (sym q) ∙ up) ∙ ap (λ (s : Seat). keys s.heard.field) (sym q);
        early = λ n. early n (eqb n m) refl;
        ordered = λ j k a d f g x y l.
            subst (λ (o : List ℕ). place_of j o < place_of k o) (sym (next_order b m p said e)) (placed_now j k a d f g x y l);
      }
    where
      clear : NoCase (refusals_of b (packet m p))
      clear = (was_accepted_lem b (packet m p) said e).0

      is_open : (seat_of b.seats m).opened ≡ true
      is_open = (packet_accepted b.setup m (seat_of b.seats m) p (was_accepted_lem b (packet m p) said e).0).was_open

      real : (1 ≤ m) × (m ≤ 8)
      real = seat_in_range m (packet_accepted b.setup m (seat_of b.seats m) p (was_accepted_lem b (packet m p) said e).0).is_seat

      told : (n : ℕ) → (up : (seat_of b.seats n).opened ≡ true)
          → Heard (last_field b n) (message_in p) (known_type b m p said e) (spells n) (old.typed n up) i (spell_heard i (spells n) (message_in p)) (begins (last_field b n) (field_heard (message_in p)))
      told n up = heard_as (last_field b n) (message_in p) (known_type b m p said e) (spells n) (old.typed n up) i

      too : (n : ℕ) → eqb n m ≡ true → (seat_of b.seats n).opened ≡ true
      too n q = subst (λ (k : ℕ). (seat_of b.seats k).opened ≡ true) (sym (eqb-true n m q)) is_open

      typed : (n : ℕ) (t : Bool) → eqb n m ≡ t → (cond t (heard_seat (seat_of b.seats n) (message_in p)) (seat_of b.seats n)).opened ≡ true
          → (cond t (spell_heard i (spells n) (message_in p)) (spells n)).type ≡ keys (cond t (heard_seat (seat_of b.seats n) (message_in p)) (seat_of b.seats n)).heard.field
      typed n true q up = unfold heard_seat in heard_type (last_field b n) (message_in p) (known_type b m p said e) (spells n) (old.typed n (too n q)) i (told n (too n q))
      typed n false q up = old.typed n up

      early : (n : ℕ) (t : Bool) → eqb n m ≡ t → (cond t (spell_heard i (spells n) (message_in p)) (spells n)).since < suc i
      early n true q = heard_since (last_field b n) (message_in p) (known_type b m p said e) (spells n) (old.typed n (too n q)) i (told n (too n q)) (old.early n)
      early n false q = let l = old.early n in omega arith

      moved : {sp : Spell} {began : Bool} → Heard (last_field b m) (message_in p) (known_type b m p said e) (spells m) (old.typed m is_open) i sp began → Moved m sp began
      moved (ends h) = gone
      moved (goes_on h) = as_it_was
      moved (another h) = anew (message_in p).ptt

      its : (j : ℕ) (t : Bool) → eqb j m ≡ t → cond t (spell_heard i (spells j) (message_in p)) (spells j) ≡ cond t (spell_heard i (spells m) (message_in p)) (spells j)
      its j true q = ap (λ (n : ℕ). spell_heard i (spells n) (message_in p)) (eqb-true j m q)
      its j false q = refl

      placed_now : (j k : ℕ) → 1 ≤ j → j ≤ 8 → 1 ≤ k → k ≤ 8 → ((spell_after j i (spells j) (packet m p)).type ≡ 0 → ⊥) → ((spell_after k i (spells k) (packet m p)).type ≡ 0 → ⊥)
          → (spell_after j i (spells j) (packet m p)).since < (spell_after k i (spells k) (packet m p)).since
          → place_of j (order_after m (last_field b m) (field_heard (message_in p)) b.order) < place_of k (order_after m (last_field b m) (field_heard (message_in p)) b.order)
      placed_now j k a d f g x y l =
          unfold order_after in
          ordered_after m real.0 real.1 _ _ (moved (told m is_open)) j k a d f g
          (λ z. x (ap (λ (w : Spell). w.type) (its j (eqb j m) refl) ∙ z)) (λ z. y (ap (λ (w : Spell). w.type) (its k (eqb k m) refl) ∙ z))
          (let u = ap (λ (w : Spell). w.since) (its j (eqb j m) refl) in let v = ap (λ (w : Spell). w.since) (its k (eqb k m) refl) in omega arith)
