-- 01: "Plain form: CC 0, items by rising type, the fewest words that hold them." Said of the bytes of a packet alone.
use Rattle.std.specs.Prelude.{ℕ, ◌<◌, ◌≡◌, List, [], ◌∷◌}
use Rattle.packet.specs.Packet.{csrc_count, word_count}
use Rattle.packet.specs.Items.{Item}
use Rattle.reader.specs.Reading.{items_here}
use Rattle.writer.specs.Writing.{fewest_words}

abbrev pub Rising : List Item → Type 0
Rising [] = Unit {0}
Rising (i ∷ []) = Unit {0}
Rising (i ∷ j ∷ is) = (i.type < j.type) × Rising (j ∷ is)

pub record Plain (p : List ℕ) : Type 0 where
  pub no_csrc : csrc_count p ≡ 0
  pub rising : Rising (items_here p)
  pub fewest : word_count p ≡ fewest_words (items_here p)
