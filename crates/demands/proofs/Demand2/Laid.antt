-- A packet that is laid out of parts that may stand is read as those parts: Inversion, the other way.
use Prim.Native.Nat.{ℕ, ◌+◌, ◌*◌, ◌-◌, ◌/◌, ◌<◌, ◌≤◌}
use mathlib.Core.Path.{◌≡◌, ap, ◌∙◌, subst}
use mathlib.Core.Bool.{Bool, true, false, ◌&&◌, ◌||◌}
use mathlib.Core.List.{List, ◌++◌, append_assoc}
use native.Mathlib.Omega.{arith}
use lib.Dec.{eqb}
use lib.ListN.{length, replicate, length-append, length-replicate}
use Rattle.std.specs.Prelude.{None}
use Rattle.base.specs.Bytes.{bytes16}
use Rattle.packet.specs.Packet.{x, audio_type, r2s_type, ptt_allowed, field_allowed, payload_allowed, payload}
use Rattle.packet.specs.Items.{Item, kept, all_allowed, no_type_twice, items_allowed, items_of}
use Rattle.packet.specs.Refusals.{accepted}
use Rattle.reader.specs.Reading.{message_of, items_here, read, reader_refusals}
use Rattle.writer.specs.Writing.{item_bytes, field_of}
use Rattle.packet.specs.declared.message.Direction.{Direction}
use Rattle.packet.specs.declared.message.Direction.TheVariants.{Tx, Rx}
use Rattle.packet.specs.declared.message.Message.{Message}
use Rattle.demands.specs.Inversion.{laid, RoomFor}
use Rattle.demands.specs.RoundTrip.{Narrow}
use Rattle.demands.specs.LaidOut.{SaidInField}
use Rattle.demands.proofs.Demand2.ItemsBack.{AllWrite, list_back, allowed_back}
use Rattle.demands.proofs.Demand2.Parts.{heads, HasParts, composed, has_parts}
use Rattle.demands.proofs.Demand2.ReadBack.{cases_left, cases_are, message_made}
use Rattle.demands.proofs.Demand2.Written.{SaysOf, field_written, field_by_type}

-- a message of a direction: what its packets cannot say is off or absent
abbrev pub Says : Direction → Message → Type 0
Says Tx m = (m.squ ≡ false) × (m.sct ≡ false) × (m.items.sqi ≡ None)
Says Rx m = m.items.climax ≡ None

pub said_in_field : (d : Direction) (m : Message) → Says d m → SaidInField d m
said_in_field d m s = grind arith

-- parts that fit their bytes
pub record Fit (csrc : List ℕ) (kind ext words : ℕ) (m : Message) (is : List Item) : Type 0 where
  pub whole : length csrc ≡ 4 * (length csrc / 4)
  pub few : length csrc / 4 ≤ 15
  pub kind_narrow : kind < 128
  pub narrow : Narrow ext m
  pub ptt : m.ptt ≤ 7
  pub id : m.id ≤ 63
  pub writes : AllWrite is
  pub room : RoomFor words is

regroup : (h c e w f i z s : List ℕ) → h ++ c ++ (e ++ w ++ f ++ (i ++ z) ++ s) ≡ h ++ c ++ e ++ w ++ f ++ i ++ z ++ s
regroup h c e w f i z s = simp append_assoc

module _ (csrc : List ℕ) (kind ext words : ℕ) (m : Message) (is : List Item) (sound : List ℕ) (h : Fit csrc kind ext words m is) where
  abbrev p : List ℕ
  p = laid csrc kind ext words m is sound

  abbrev zeros : ℕ
  zeros = 4 * words - (2 + length (item_bytes is))

  abbrev inner : List ℕ
  inner = item_bytes is ++ replicate zeros 0

  abbrev c : ℕ
  c = length csrc / 4

  inner_long : length inner + 2 ≡ 4 * words
  inner_long = simp (length-append, length-replicate) (omega (arith, h.room.0))

  says : SaysOf (field_of m is) m is
  says = field_written m is h.ptt h.id

  together : composed csrc c kind m.sequence m.timestamp m.ssrc ext words (field_of m is) inner sound ≡ p
  unfolding laid
  together = regroup (heads c kind m.sequence m.timestamp m.ssrc) csrc (bytes16 ext) (bytes16 words) (bytes16 (field_of m is)) (item_bytes is) (replicate zeros 0) sound

  pub parts : HasParts p c kind m.sequence m.timestamp m.ssrc ext words (field_of m is) inner sound
  parts =
      subst (λ (q : List ℕ). HasParts q c kind m.sequence m.timestamp m.ssrc ext words (field_of m is) inner sound) together
      (has_parts csrc c kind m.sequence m.timestamp m.ssrc ext words (field_of m is) inner sound h.whole h.few h.kind_narrow
      h.narrow.sequence h.narrow.timestamp h.narrow.ssrc h.narrow.extension (omega (arith, h.room.1)) says.narrow inner_long)

  items_back : items_of (x (field_of m is)) inner ≡ is
  items_back = simp says.x_is (list_back is zeros h.writes)

  pub items_here_lem : items_here p ≡ is
  unfolding items_here
  items_here_lem = simp (parts.field_is, parts.inner_is, items_back)

  pub sound_back : payload p ≡ sound
  sound_back = parts.sound_is

  pub message_back : kept is ≡ m.items → message_of p ≡ m
  message_back keeps = grind (arith, items_back, message_made, parts, says)

  items_allowed_lem : (d : Direction) → items_allowed d (x (field_of m is)) inner ≡ all_allowed d is && no_type_twice is
  items_allowed_lem d = simp says.x_is (allowed_back d is zeros h.writes)

  -- what is left of the refusals
  pub cases : (d : Direction) (asked : ℕ)
      → reader_refusals d asked p ≡ cases_left asked kind ext (field_allowed d (field_of m is)) (all_allowed d is && no_type_twice is) (payload_allowed kind (length sound))
  cases d asked =
      cases_are d p _ _ _ _ _ _ _ _ _ _ parts asked (omega (arith, h.room.0)) h.room.1
      ∙ ap (λ (t : Bool). cases_left asked kind ext (field_allowed d (field_of m is)) t (payload_allowed kind (length sound))) (items_allowed_lem d)

  pub field_allowed_lem : (d : Direction) → SaidInField d m → field_allowed d (field_of m is) ≡ ptt_allowed m.ptt
  field_allowed_lem d s = field_by_type d (field_of m is) m is says s

  pub read_back : (d : Direction) → m.ptt ≤ 5 → SaidInField d m → all_allowed d is ≡ true → no_type_twice is ≡ true → kept is ≡ m.items
      → (eqb kind audio_type || eqb kind r2s_type) ≡ true → payload_allowed kind (length sound) ≡ true → read d ext p ≡ accepted m
  unfolding read
  read_back d real s a t keeps known fine = grind (arith, cases, field_allowed_lem, message_back)
