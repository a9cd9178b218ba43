-- A packet whose parts are known is read: which cases of refusal are left, and that the message is made of those parts.
use Prim.Native.Nat.{ℕ, ◌≤◌}
use mathlib.Core.Path.{◌≡◌}
use mathlib.Core.Bool.{Bool, false, not, ◌||◌}
use mathlib.Core.List.{List, [], ◌∷◌}
use native.Mathlib.Omega.{arith}
use lib.ListN.{length}
use lib.Dec.{eqb}
use Rattle.base.specs.Bytes.{is_set}
use Rattle.packet.specs.Packet.{x, audio_type, r2s_type, field_allowed, payload_allowed, ptt_type, squ, ptt_id, pm, ptts, sct}
use Rattle.packet.specs.Items.{items_allowed, items_of, kept}
use Rattle.packet.specs.Refusals.{Case, ◌if◌}
use Rattle.reader.specs.Reading.{reader_refusals, message_of, items_here}
use Rattle.packet.specs.declared.message.Direction.{Direction}
use Rattle.demands.proofs.Demand2.Parts.{HasParts}

-- the refusals that are left: those of the kind, the extension type, the field, the items and the payload
abbrev pub cases_left : (asked kind ext : ℕ) (field items sound : Bool) → List Case
cases_left asked kind ext field items sound =
    1 if false
    ∷ 2 if false
    ∷ 3 if false
    ∷ 4 if false
    ∷ 5 if not (eqb kind audio_type || eqb kind r2s_type)
    ∷ 6 if false
    ∷ 7 if not (eqb ext asked)
    ∷ 8 if false
    ∷ 9 if false
    ∷ 10 if not field
    ∷ 11 if not items
    ∷ 12 if not sound
    ∷ []

module _ (d : Direction) (p : List ℕ) (c kind seq ts source ext w f : ℕ) (inner sound : List ℕ) (h : HasParts p c kind seq ts source ext w f inner sound) where
  pub cases_are : (asked : ℕ) → 1 ≤ w → w ≤ 15
      → reader_refusals d asked p ≡ cases_left asked kind ext (field_allowed d f) (items_allowed d (x f) inner) (payload_allowed kind (length sound))
  unfolding reader_refusals
  cases_are asked w1 w15 = grind arith

  pub message_made : message_of p
      ≡ record {
        sequence = seq;
        timestamp = ts;
        ssrc = source;
        ptt = ptt_type f;
        squ = is_set (squ f);
        id = ptt_id f;
        pm = is_set (pm f);
        ptts = is_set (ptts f);
        sct = is_set (sct f);
        items = kept (items_of (x f) inner);
      }
  unfolding message_of items_here
  message_made = simp (h.sequence_is, h.timestamp_is, h.ssrc_is, h.field_is, h.inner_is)
