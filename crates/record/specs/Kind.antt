-- 01: "single radio or pair"; 02, request 10: "The next rack presents main and standby under a shared IP address, where 000 clause 8.1.7 has
-- one session and the status bit 0. Add this as a third radio kind." Every fact that depends on the kind, each said once: no other
-- definition asks which kind it is.
use Rattle.std.specs.Prelude.{ℕ, Bool, true, false, cond, eqb, Option, None, Some}
use Rattle.packet.specs.declared.message.Side.{Side}
use Rattle.packet.specs.declared.message.Side.TheVariants.{Main, Standby}
use Rattle.record.specs.declared.kind.Kind.{Kind}
use Rattle.record.specs.declared.kind.Kind.TheVariants.{Single, Pair, Shared}

-- The code that a set-up holds; any other is a single radio's.
abbrev pub kind_code : Kind → ℕ
kind_code Single = 0
kind_code Pair = 1
kind_code Shared = 2

unfoldable pub kind_of : (code : ℕ) → Kind
kind_of code = cond (eqb code 1) Pair (cond (eqb code 2) Shared Single)

-- "23 | .. side event on a single radio"; of a shared one: "the radio's own side event still moves the side"
abbrev pub has_one_side : Kind → Bool
has_one_side Single = true
has_one_side Pair = false
has_one_side Shared = false

-- "23 | main/standby item .. on a single radio"; of a shared one: "23 also for an item of 1 here", "An item of 0 is accepted". (From a lesson
-- seat any, on every kind: Hearing, side_barred.)
abbrev pub item_barred : Kind → Option Side → Bool
item_barred Single None = false
item_barred Single (Some side) = true
item_barred Pair item = false
item_barred Shared None = false
item_barred Shared (Some Main) = false
item_barred Shared (Some Standby) = true

-- "A main/standby item takes effect, setting the side in use": of a shared radio "moves nothing". (On a single one none is accepted.)
abbrev pub items_move_side : Kind → Bool
items_move_side Single = false
items_move_side Pair = true
items_move_side Shared = false

-- "Main/standby item, with the side in use, exactly for a pair"; of a shared one "with 0, whichever side is in use"
abbrev pub side_told : Kind → (standby : Bool) → Option Side
side_told Single standby = None
side_told Pair standby = Some (cond standby Standby Main)
side_told Shared standby = Some Main
