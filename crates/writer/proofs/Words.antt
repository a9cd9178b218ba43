-- The words of a message: how many, and where they stand in the bytes that the code makes of them.
use Prim.Native.Nat.{ℕ, ◌*◌, ◌≤◌}
use mathlib.Core.Path.{◌≡◌}
use mathlib.Core.List.{List, ◌++◌}
use native.Mathlib.Omega.{arith}
use lib.ListN.{length, take, length-append, length-take, length-replicate}
use lib.Seq.{take-take, take-append_seam}
use Rattle.std.specs.Prelude.{Option}
use Rattle.base.proofs.Buffers.{overlaid_then}
use Rattle.packet.specs.Items.{Item}
use Rattle.writer.specs.Pieces.{padded}
use Rattle.writer.specs.Writing.{rising_items, item_bytes, sqi_listed, climax_listed, side_listed, fewest_words, words_of}
use Rattle.packet.specs.declared.message.Sqi.{Sqi}
use Rattle.packet.specs.declared.message.Side.{Side}
use Rattle.packet.specs.declared.message.Items.{Items}
use Rattle.packet.specs.declared.message.Message.{Message}

pub words_length : (m : Message) (is : List Item) → length (words_of m is) ≡ 4 * fewest_words is
unfolding words_of
words_length m is = simp (length-append, length-replicate) (omega arith)

pub few_words : (k : Items) → (1 ≤ fewest_words (rising_items k)) × (fewest_words (rising_items k) ≤ 2)
unfolding rising_items item_bytes
few_words k = by_items k.sqi k.climax k.side
  where
    by_items : (s : Option Sqi) (c : Option ℕ) (d : Option Side)
        → (1 ≤ fewest_words (sqi_listed s ++ climax_listed c ++ side_listed d)) × (fewest_words (sqi_listed s ++ climax_listed c ++ side_listed d) ≤ 2)
    by_items s c d = (omega arith, grind arith)

-- bytes with zeros behind them, without the zeros
unpadded : (P : List ℕ) (n : ℕ) → length P ≤ n → take (length P) (padded n P) ≡ P
unpadded P n h = rw (take-take, take-append_seam)

-- of the eight bytes, the words
pub words_cut : (m : Message) → take (4 * fewest_words (rising_items m.items)) (padded 8 (words_of m (rising_items m.items))) ≡ words_of m (rising_items m.items)
words_cut m =
    let words : List ℕ = words_of m (rising_items m.items) in
    let long : 4 * fewest_words (rising_items m.items) ≡ length words = omega (arith, words_length m (rising_items m.items)) in
    rw long (unpadded words 8 (omega (arith, few_words m.items)))

-- what the words laid over a buffer need
pub ruleset content = (few_words, words_cut, length-take, overlaid_then)
