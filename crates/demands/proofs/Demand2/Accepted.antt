-- The message of an accepted packet: its numbers fit, the writer takes it, and it says only what its direction can.
use Prim.Native.Nat.{ℕ}
use mathlib.Core.Path.{◌≡◌}
use mathlib.Core.Bool.{Bool, true, ◌||◌}
use mathlib.Core.List.{List}
use native.Mathlib.Omega.{arith}
use lib.Dec.{eqb}
use lib.ListN.{length}
use borrow.Author.Tests.{le-leb, eqb-true}
use Rattle.std.specs.Prelude.{Option}
use Rattle.base.specs.Bytes.{Bytes}
use Rattle.packet.specs.Packet.{audio_type, r2s_type, audio_length, payload_type, payload, payload_allowed, field, ptt_type, ptt_id, squ, sct}
use Rattle.packet.specs.Items.{kept}
use Rattle.packet.specs.Refusals.{accepted}
use Rattle.reader.specs.Reading.{message_of, items_here, read}
use Rattle.writer.specs.Writing.{kind_for, writable}
use Rattle.packet.specs.declared.message.Direction.{Direction}
use Rattle.packet.specs.declared.message.Direction.TheVariants.{Tx, Rx}
use Rattle.packet.specs.declared.message.Message.{Message}
use Rattle.packet.specs.Messages.{as_tx, as_rx, from_tx, from_rx}
use Rattle.packet.specs.declared.message.Sqi.{Sqi}
use Rattle.demands.specs.RoundTrip.{Narrow}
use Rattle.demands.specs.LaidOut.{AllStand}
use Rattle.reader.proofs.Passed.{Passed, accepted_passed, field_passed}
use Rattle.demands.proofs.Demand2.Inversion.{after_bytes}
use Rattle.demands.proofs.Demand2.AllowedItems.{here_stand, sqi_writable_lem, climax_writable_lem, no_sqi_in_tx, no_climax_in_rx}
use Rattle.demands.proofs.Demand2.Laid.{Says}

-- ---- the kind and the payload

-- the payload's length tells the kind, and a writer takes it
kind_and_sound : (k n : ℕ) → (eqb k audio_type || eqb k r2s_type) ≡ true → payload_allowed k n ≡ true → (k ≡ kind_for n) × ((eqb n 0 || audio_length n) ≡ true)
unfolding payload_allowed
kind_and_sound k n e h = grind arith

-- ---- what the writer asks

module _ (d : Direction) (ext : ℕ) (p : List ℕ) (small : Bytes p) (h : Passed d ext p) where
  pub items_stand : AllStand d (items_here p)
  unfolding items_here
  items_stand = here_stand d _ _ (after_bytes d ext p small h) h.items_allowed_lem

  pub kind_is : payload_type p ≡ kind_for (length (payload p))
  kind_is = (kind_and_sound (payload_type p) (length (payload p)) h.known_kind h.payload_allowed_lem).0

  pub numbers_fit : Narrow ext (message_of p)
  unfolding message_of items_here
  numbers_fit = grind arith

  pub message_writable : writable (message_of p) (length (payload p)) ≡ true
  unfolding writable message_of kept items_here
  message_writable =
      let f = field p in
      simp (
        le-leb (ptt_type f) 5 (field_passed d f h.field_allowed_lem).type_known,
        le-leb (ptt_id f) 63 (omega arith),
        sqi_writable_lem d (items_here p) items_stand,
        climax_writable_lem d (items_here p) items_stand,
        (kind_and_sound (payload_type p) (length (payload p)) h.known_kind h.payload_allowed_lem).1,
      )

-- ---- what its direction can say

-- refusals 10 and 11 leave nothing else
pub message_says : (d : Direction) (ext : ℕ) (p : List ℕ) → Bytes p → Passed d ext p → Says d (message_of p)
unfolding message_of kept items_here
message_says Tx ext p small h =
    let f = field p in
    let passed = field_passed Tx f h.field_allowed_lem in
    let no-squ = eqb-true (squ f) 0 passed.squ_allowed_lem in
    let single : sct f ≡ 0 = omega (arith, passed.unreserved) in
    (simp no-squ, simp single, no_sqi_in_tx (items_here p) (items_stand Tx ext p small h))
message_says Rx ext p small h = no_climax_in_rx (items_here p) (items_stand Rx ext p small h)

says : (d : Direction) (ext : ℕ) (p : List ℕ) (m : Message) → Bytes p → read d ext p ≡ accepted m → Says d m
says d ext p m small e = grind (arith, accepted_passed, message_says)

-- a message, with what only one direction can say put in anew
abbrev saying : Message → (squ sct : Bool) → Option Sqi → Option ℕ → Message
saying m squ sct q c =
    record {
      sequence = m.sequence;
      timestamp = m.timestamp;
      ssrc = m.ssrc;
      ptt = m.ptt;
      squ = squ;
      id = m.id;
      pm = m.pm;
      ptts = m.ptts;
      sct = sct;
      items = record { sqi = q; climax = c; side = m.items.side };
    }

-- the message of the direction leaves out nothing that was read
pub tx_says_all : (ext : ℕ) (p : List ℕ) (m : Message) → Bytes p → read Tx ext p ≡ accepted m → from_tx (as_tx m) ≡ m
tx_says_all ext p m small e =
    let s = says Tx ext p m small e in
    let same : from_tx (as_tx m) ≡ saying m m.squ m.sct m.items.sqi m.items.climax = simp (s.0, s.1, s.2) in
    same

pub rx_says_all : (ext : ℕ) (p : List ℕ) (m : Message) → Bytes p → read Rx ext p ≡ accepted m → from_rx (as_rx m) ≡ m
rx_says_all ext p m small e =
    let same : from_rx (as_rx m) ≡ saying m m.squ m.sct m.items.sqi m.items.climax = simp (says Rx ext p m small e) in
    same
