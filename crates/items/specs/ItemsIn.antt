-- 01, The packet: "Items follow." What the bytes after the first two of the words hold under X: the items that a message keeps,
-- or that they break a rule.
use Rattle.std.specs.Prelude.{ℕ, cond, List, Option, None, Some}
use Rattle.packet.specs.Items.{items_allowed, items_of, kept}
use Rattle.packet.specs.declared.message.Direction.{Direction}
use Rattle.packet.specs.declared.message.Items.{Items}

unfoldable pub items_read : Direction → (x : ℕ) → List ℕ → Option Items
items_read d x bytes = cond (items_allowed d x bytes) (Some (kept (items_of x bytes))) None
