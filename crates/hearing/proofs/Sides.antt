-- The main/standby item: which one a kind of radio bars, who may send none, and which packets leave the side.
use native.Mathlib.Omega.{arith}
use mathlib.Core.Path.{◌≡◌, ap, sym, ◌∙◌}
use mathlib.Core.Bool.{Bool, true, false, ◌&&◌}
use Rattle.std.specs.Prelude.{Option}
use Rattle.base.proofs.Truths.{and_none, and_rest, or_left, or_right}
use Rattle.packet.specs.declared.message.Tx.{Tx}
use Rattle.packet.specs.declared.message.Side.{Side}
use Rattle.record.specs.Kind.{item_barred, items_move_side}
use Rattle.record.specs.declared.kind.Kind.{Kind}
use Rattle.record.specs.declared.kind.Kind.TheVariants.{Single, Shared}
use Rattle.record.specs.declared.seat.Field.{Field}
use Rattle.hearing.specs.Hearing.{has_side, is_standby, side_barred, takes_effect, side_after}

-- any on a single radio, 1 on a shared one
pub single_bars : (item : Option Side) → item_barred Single item ≡ has_side item
single_bars item = grind arith

pub shared_bars : (item : Option Side) → item_barred Shared item ≡ is_standby item
shared_bars item = grind arith

-- 23 not met
module _ (is_lesson : Bool) (kind : Kind) (m : Tx) (passed : side_barred is_lesson kind m ≡ false) where
  by_kind : item_barred kind m.side ≡ false
  unfolding side_barred
  by_kind = or_left (item_barred kind m.side) (is_lesson && has_side m.side) passed

  pub no_item_single : kind ≡ Single → has_side m.side ≡ false
  no_item_single e = sym (ap (λ (k : Kind). item_barred k m.side) e ∙ single_bars m.side) ∙ by_kind

  pub zero_or_none_shared : kind ≡ Shared → is_standby m.side ≡ false
  zero_or_none_shared e = sym (ap (λ (k : Kind). item_barred k m.side) e ∙ shared_bars m.side) ∙ by_kind

  pub no_item_lesson : is_lesson ≡ true → has_side m.side ≡ false
  unfolding side_barred
  no_item_lesson = and_rest is_lesson (has_side m.side) (or_right (item_barred kind m.side) (is_lesson && has_side m.side) passed)

module _ (kind : Kind) (old new : Field) (in_use : Bool) where
  -- a packet without the item leaves the side, on every kind of radio,
  pub side_stays : new.sided ≡ false → side_after kind old new in_use ≡ in_use
  unfolding side_after takes_effect
  side_stays e = simp (e, and_none (items_move_side kind))

  -- and so does every packet where items move nothing
  pub side_unmoved : items_move_side kind ≡ false → side_after kind old new in_use ≡ in_use
  unfolding side_after
  side_unmoved e = simp e
