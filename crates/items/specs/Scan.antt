-- For proofs alone: what the scan does with one byte after another. (Its private functions promise these; proofs/Meaning.antt
-- shows that it finds `items_read`.)
use Rattle.std.specs.Prelude.{ℕ, zero, suc, Bool, true, false, cond, not, ◌&&◌, ◌||◌, eqb, List, Option, None, Some, is_none}
use Rattle.std.specs.List.{fold}
use Rattle.packet.specs.Items.{item_type, item_length, sqi_type, climax_type, ddc_type, side_type, sqi_quality, sqi_method, sqi_allowed, climax_delay, climax_allowed, side_allowed, side_of, in_tx, in_rx}
use Rattle.packet.specs.declared.message.Direction.{Direction}
use Rattle.packet.specs.declared.message.Sqi.{Sqi}
use Rattle.packet.specs.declared.message.Side.{Side}
use Rattle.packet.specs.declared.message.Items.{Items}
use Rattle.items.specs.declared.scan.Mode.{Mode}
use Rattle.items.specs.declared.scan.Mode.TheVariants.{Tail, First, Next, Value, Skip, Broken}
use Rattle.items.specs.declared.scan.Scan.{Scan}

-- an item of each type may stand where its direction has it and none was there before
abbrev pub sqi_free : Direction → Option Sqi → Bool
sqi_free d i = in_rx d && is_none i

abbrev pub climax_free : Direction → Option ℕ → Bool
climax_free d i = in_tx d && is_none i

abbrev pub side_free : Option Side → Bool
side_free i = is_none i

abbrev pub scan_at : Mode → (ddc : Bool) → Items → Scan
scan_at m g k = record { mode = m; ddc = g; items = k }

abbrev pub with_sqi : Items → ℕ → Items
with_sqi k b = record { sqi = Some (record { quality = sqi_quality b; method = sqi_method b }); climax = k.climax; side = k.side }

abbrev pub with_climax : Items → ℕ → Items
with_climax k b = record { sqi = k.sqi; climax = Some (climax_delay b); side = k.side }

abbrev pub with_side : Items → ℕ → Items
with_side k b = record { sqi = k.sqi; climax = k.climax; side = Some (side_of b) }

unfoldable pub take_sqi : Direction → Items → ℕ → Option Items
take_sqi d k b = cond (sqi_free d k.sqi && sqi_allowed (sqi_quality b) (sqi_method b)) (Some (with_sqi k b)) None

unfoldable pub take_climax : Direction → Items → ℕ → Option Items
take_climax d k b = cond (climax_free d k.climax && climax_allowed b) (Some (with_climax k b)) None

unfoldable pub take_side : Items → ℕ → Option Items
take_side k b = cond (side_free k.side && side_allowed b) (Some (with_side k b)) None

-- an item that is kept, once its value is there
unfoldable pub take_item : Direction → Items → (head value : ℕ) → Option Items
take_item d k head value =
    cond (not (eqb (item_length head) 1)) None
    (cond (eqb (item_type head) sqi_type) (take_sqi d k value)
    (cond (eqb (item_type head) climax_type) (take_climax d k value)
    (cond (eqb (item_type head) side_type) (take_side k value)
    None)))

abbrev pub behind_value : (ddc : Bool) → Items → Option Items → Scan
behind_value g k (Some more) = scan_at Next g more
behind_value g k None = scan_at Broken g k

abbrev pub in_zeros : ℕ → Mode
in_zeros b = cond (eqb b 0) Tail Broken

-- so many bytes in front of the next item
abbrev pub past : ℕ → Mode
past zero = Next
past (suc n) = Skip n

abbrev pub is_ddc : ℕ → Bool
is_ddc b = eqb (item_type b) ddc_type

abbrev pub begun : (ddc : Bool) → ℕ → Mode
begun g b = cond (is_ddc b) (cond g Broken (past (item_length b))) (Value b)

abbrev pub behind_item : (ddc : Bool) → ℕ → Mode
behind_item g b = cond (eqb b 0) Tail (begun g b)

-- a type 4 item was met
abbrev pub met : (ddc : Bool) → ℕ → Bool
met g b = is_ddc b || g

abbrev pub step_in : Direction → Mode → (ddc : Bool) → Items → ℕ → Scan
step_in d Tail g k b = scan_at (in_zeros b) g k
step_in d First g k b = scan_at (begun g b) (met g b) k
step_in d Next g k b = scan_at (behind_item g b) (met g b) k
step_in d (Value head) g k b = behind_value g k (take_item d k head b)
step_in d (Skip n) g k b = scan_at (past n) g k
step_in d Broken g k b = scan_at Broken g k

abbrev pub step_of : Direction → Scan → ℕ → Scan
step_of d s b = step_in d s.mode s.ddc s.items b

unfoldable pub scan_of : Direction → Scan → List ℕ → Scan
scan_of d s bytes = fold (step_of d) s bytes

abbrev pub no_items : Items
no_items = record { sqi = None; climax = None; side = None }

abbrev pub start_in : ℕ → Mode
start_in x = cond (eqb x 0) Tail First

abbrev pub may_end : Mode → Bool
may_end Tail = true
may_end First = false
may_end Next = true
may_end (Value head) = false
may_end (Skip n) = false
may_end Broken = false

abbrev pub end_of : Scan → Option Items
end_of s = cond (may_end s.mode) (Some s.items) None
