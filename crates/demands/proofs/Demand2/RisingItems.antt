-- The items of a message, written by rising type: they fit their bytes, they may stand there, and the message keeps them.
use Prim.Native.Nat.{ℕ, ◌+◌, ◌*◌, ◌/◌, ◌%◌}
use mathlib.Core.Path.{◌≡◌}
use mathlib.Core.Bool.{true, false, ◌&&◌}
use mathlib.Core.List.{List, ◌++◌}
use native.Mathlib.Omega.{arith}
use lib.Dec.{ltb, leb}
use borrow.Author.Tests.{leb-true}
use Rattle.std.specs.Prelude.{Option, None, Some}
use Rattle.packet.specs.Items.{Item, ddc_type, sqi_allowed, item_allowed, all_allowed, has_type, no_type_twice, sqi_among, climax_among, side_among, kept}
use Rattle.writer.specs.Writing.{sqi_listed, climax_listed, side_listed, rising_items, sqi_writable, climax_writable}
use Rattle.packet.specs.declared.message.Direction.TheVariants.{Tx, Rx}
use Rattle.packet.specs.declared.message.Items.{Items}
use Rattle.packet.specs.declared.message.Sqi.{Sqi}
use Rattle.packet.specs.declared.message.Side.{Side}
use Rattle.demands.specs.Plain.{Rising}
use Rattle.demands.specs.Unwritable.{sqi_fits}
use Rattle.demands.proofs.Demand2.ItemsBack.{AllWrite}

-- no type twice, none of type 4, by rising type
abbrev Orderly : List Item → Type 0
Orderly is = (no_type_twice is ≡ true) × (has_type ddc_type is ≡ false) × Rising is

-- ---- the value bytes

-- values that fit their bits stand in them
sqi_placed : (q m : ℕ) → ltb q 32 && ltb m 8 ≡ true → ((q * 8 + m * 1) % 256 / 8 % 32 ≡ q) × ((q * 8 + m * 1) % 256 / 1 % 8 ≡ m)
sqi_placed q m e = grind arith

-- what may stand there fits
pub sqi_fits_lem : (s : Option Sqi) → sqi_writable s ≡ true → sqi_fits s ≡ true
sqi_fits_lem s h = grind arith

pub sqi_value : (q m : ℕ) → sqi_allowed q m ≡ true → ((q * 8 + m * 1) % 256 / 8 % 32 ≡ q) × ((q * 8 + m * 1) % 256 / 1 % 8 ≡ m)
sqi_value q m e = sqi_placed q m (sqi_fits_lem (Some (record { quality = q; method = m })) e)

pub climax_value : (v : ℕ) → leb v 127 ≡ true → ((128 + v * 1) % 256 / 1 % 128 ≡ v) × ((128 + v * 1) % 256 / 128 % 2 ≡ 1)
climax_value v e = let h = leb-true v 127 e in omega arith

-- ---- the side, the delay before it, the quality before both

sqi_writes : (s : Option Sqi) (c : Option ℕ) (e : Option Side) → AllWrite (sqi_listed s ++ climax_listed c ++ side_listed e)
sqi_writes s c e = grind arith

sqi_kept : (s : Option Sqi) (c : Option ℕ) (e : Option Side) → sqi_writable s ≡ true → climax_writable c ≡ true
    → kept (sqi_listed s ++ climax_listed c ++ side_listed e) ≡ record { sqi = s; climax = c; side = e }
unfolding kept sqi_among climax_among side_among
sqi_kept s c e h k = grind arith

orderly : (s : Option Sqi) (c : Option ℕ) (e : Option Side) → Orderly (sqi_listed s ++ climax_listed c ++ side_listed e)
unfolding no_type_twice has_type
orderly s c e = grind arith

in_tx_lem : (c : Option ℕ) (e : Option Side) → climax_writable c ≡ true → all_allowed Tx (climax_listed c ++ side_listed e) ≡ true
unfolding all_allowed item_allowed
in_tx_lem c e h = grind arith

in_rx_lem : (s : Option Sqi) (e : Option Side) → sqi_fits s ≡ true → all_allowed Rx (sqi_listed s ++ climax_listed None ++ side_listed e) ≡ sqi_writable s
unfolding all_allowed item_allowed
in_rx_lem s e h = grind arith

-- ---- the same, of a message's items

pub rising_writes : (k : Items) → AllWrite (rising_items k)
unfolding rising_items
rising_writes k = sqi_writes k.sqi k.climax k.side

pub rising_kept : (k : Items) → sqi_writable k.sqi ≡ true → climax_writable k.climax ≡ true → kept (rising_items k) ≡ k
unfolding rising_items
rising_kept k h j = sqi_kept k.sqi k.climax k.side h j

pub rising_once : (k : Items) → no_type_twice (rising_items k) ≡ true
unfolding rising_items
rising_once k = (orderly k.sqi k.climax k.side).0

pub rising_rises : (k : Items) → Rising (rising_items k)
unfolding rising_items
rising_rises k = (orderly k.sqi k.climax k.side).2

-- writers never write type 4
pub no_ddc : (k : Items) → has_type ddc_type (rising_items k) ≡ false
unfolding rising_items
no_ddc k = (orderly k.sqi k.climax k.side).1

pub rising_in_tx : (k : Items) → k.sqi ≡ None → climax_writable k.climax ≡ true → all_allowed Tx (rising_items k) ≡ true
unfolding rising_items
rising_in_tx k e h = simp e (in_tx_lem k.climax k.side h)

pub rising_in_rx : (k : Items) → k.climax ≡ None → sqi_fits k.sqi ≡ true → all_allowed Rx (rising_items k) ≡ sqi_writable k.sqi
unfolding rising_items
rising_in_rx k e h = simp e (in_rx_lem k.sqi k.side h)
