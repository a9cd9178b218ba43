-- What an accepted message answers and leaves, held to InWords.
use Prim.Native.Nat.{ℕ}
use mathlib.Core.Path.{◌≡◌, refl, sym, ap, subst, ◌∙◌}
use mathlib.Core.Bool.{Bool, true, false, not, ◌&&◌}
use mathlib.Core.List.{List}
use mathlib.Core.Logic.{◌↔◌, ◌⊎◌}
use native.Mathlib.Omega.{arith}
use lib.ListN.{length}
use borrow.Author.Tests.{eq-eqb, not-false}
use Rattle.std.specs.Prelude.{Some}
use Rattle.base.specs.Order.{late}
use Rattle.base.proofs.InWords.{so_many}
use Rattle.base.proofs.Truths.{and_none}
use Rattle.packet.specs.declared.message.Tx.{Tx}
use Rattle.packet.specs.declared.message.Side.TheVariants.{Main, Standby}
use Rattle.record.specs.Kind.{kind_of}
use Rattle.record.specs.Record.{no_such_seat, seat_of}
use Rattle.record.proofs.Seats.{seat_put}
use Rattle.record.specs.declared.seat.Field.{Field}
use Rattle.record.specs.declared.seat.Seat.{Seat}
use Rattle.record.specs.declared.whole.Bench.{Bench}
use Rattle.air.specs.Air.{aired}
use Rattle.air.specs.InWords.{last_field}
use Rattle.hearing.specs.Hearing.{has_side, field_heard, message_in, heard_seat, takes_effect, side_after, heard_bench, same_field, hearing}
use Rattle.hearing.specs.InWords.{Says, Heeded}
use Rattle.hearing.proofs.Sides.{side_stays, side_unmoved}

-- ---- the field

says_heard : (m : Tx) → Says m (field_heard m)
unfolding field_heard
says_heard m = grind arith

-- ---- reply now

all_eight : (a b c d e f g h : Bool) → a && b && c && d && e && f && g && h ≡ true
    → (a ≡ true) × (b ≡ true) × (c ≡ true) × (d ≡ true) × (e ≡ true) × (f ≡ true) × (g ≡ true) × (h ≡ true)
all_eight a b c d e f g h q = grind arith

module _ (m : Tx) (f : Field) where
  same_if_said : Says m f → same_field f (field_heard m) ≡ true
  unfolding same_field field_heard
  same_if_said s = grind arith

  said_if_same : same_field f (field_heard m) ≡ true → Says m f
  unfolding same_field field_heard
  said_if_same e = grind (arith, all_eight)

  no_reply : (not (same_field f (field_heard m)) ≡ false) ↔ Says m f
  no_reply = (λ e. said_if_same (not-false _ e), λ s. ap not (same_if_said s))

-- ---- the side

module _ (kind : ℕ) (old : Field) (m : Tx) (in_use : Bool) where
  abbrev side_now : Bool
  side_now = side_after (kind_of kind) old (field_heard m) in_use

  to_main : kind ≡ 1 → m.side ≡ Some Main → (old.sided ≡ false) ⊎ (old.standby ≡ true) → side_now ≡ false
  unfolding side_after takes_effect field_heard kind_of
  to_main k q h = grind arith

  to_standby : kind ≡ 1 → m.side ≡ Some Standby → (old.sided ≡ false) ⊎ (old.standby ≡ false) → side_now ≡ true
  unfolding side_after takes_effect field_heard kind_of
  to_standby k q h = grind arith

  main_again : m.side ≡ Some Main → old.sided ≡ true → old.standby ≡ false → side_now ≡ in_use
  unfolding side_after takes_effect field_heard kind_of
  main_again q had was = simp (q, had, was, and_none)

  standby_again : m.side ≡ Some Standby → old.sided ≡ true → old.standby ≡ true → side_now ≡ in_use
  unfolding side_after takes_effect field_heard kind_of
  standby_again q had was = simp (q, had, was, and_none)

  elsewhere : (kind ≡ 1 → ⊥) → side_now ≡ in_use
  unfolding kind_of
  elsewhere other = grind (arith, side_unmoved)

-- ---- the whole

module _ (b : Bench) (n : ℕ) (p : List ℕ) (eight : length b.seats ≡ 8) (real : no_such_seat n ≡ false) where
  abbrev m : Tx
  m = message_in p

  abbrev before : Seat
  before = seat_of b.seats n

  next_seat : seat_of (heard_bench b n m).seats n ≡ heard_seat before m
  unfolding heard_bench
  next_seat = seat_put b.seats n n (heard_seat before m) eight real ∙ rw (eq-eqb n n refl)

  next_side : (heard_bench b n m).standby ≡ side_now b.setup.kind (last_field b n) m b.standby
  unfolding heard_bench
  next_side = refl

  pub heeded : late before.heard.any before.heard.sequence m.sequence ≡ false → Heeded b n m (hearing b n p) (aired (heard_bench b n m))
  unfolding hearing heard_seat field_heard
  heeded in-time =
      record {
        missing = so_many before.heard.sequence m.sequence before.heard.any in-time;
        no_reply = no_reply m (last_field b n);
        said = subst (λ (x : Seat). Says m x.heard.field) (sym next_seat) (says_heard m);
        any = ap (λ (x : Seat). x.heard.any) next_seat;
        ssrc = ap (λ (x : Seat). x.heard.ssrc) next_seat;
        sequence = ap (λ (x : Seat). x.heard.sequence) next_seat;
        time = ap (λ (x : Seat). x.left) next_seat;
        side = refl;
        to_main = λ k q other. next_side ∙ to_main b.setup.kind (last_field b n) m b.standby k q other;
        to_standby = λ k q other. next_side ∙ to_standby b.setup.kind (last_field b n) m b.standby k q other;
        main_again = λ q had was. next_side ∙ main_again b.setup.kind (last_field b n) m b.standby q had was;
        standby_again = λ q had was. next_side ∙ standby_again b.setup.kind (last_field b n) m b.standby q had was;
        without = λ q. next_side ∙ side_stays (kind_of b.setup.kind) (last_field b n) (field_heard m) b.standby (ap has_side q);
        elsewhere = λ other. next_side ∙ elsewhere b.setup.kind (last_field b n) m b.standby other;
      }
