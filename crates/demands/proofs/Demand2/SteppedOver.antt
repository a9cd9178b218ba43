-- A packet with a type 4 item, and the same packet without it: both are laid out of the same parts but for items that keep the same.
use Prim.Native.Nat.{ℕ, ◌≤◌}
use mathlib.Core.Path.{◌≡◌, refl, ap, ap₂, sym, subst, ◌∙◌}
use mathlib.Core.Bool.{Bool, true, false, cond, not, ◌&&◌, ◌||◌}
use mathlib.Core.List.{List, [], ◌∷◌, ◌++◌}
use native.Mathlib.Omega.{arith}
use lib.Dec.{eqb}
use lib.ListN.{length, length-append}
use borrow.Author.Tests.{eqb-true, eqb-false, ne_eqb, not-true}
use Rattle.base.specs.Bytes.{Bytes}
use Rattle.base.proofs.Truths.{and_left, and_right, or_left, or_right, or_true}
use Rattle.packet.specs.Packet.{payload_type, extension_type, word_count, payload, field_allowed, payload_allowed}
use Rattle.packet.specs.Items.{Item, ddc_type, item_allowed, all_allowed, has_type, no_type_twice, sqi_among, climax_among, side_among, kept}
use Rattle.packet.specs.Refusals.{Case, Answer, accepted, judged}
use Rattle.packet.proofs.Judged.{judged_both}
use Rattle.reader.specs.Reading.{message_of, items_here, read, reader_refusals}
use Rattle.reader.proofs.Passed.{Passed, accepted_passed}
use Rattle.writer.specs.Writing.{item_bytes, field_of}
use Rattle.record.specs.Record.{seat_of}
use Rattle.air.specs.Air.{aired}
use Rattle.hearing.specs.Hearing.{message_in, packet_refusals, heard_bench, hearing, packet_said}
use Rattle.bench.specs.Step.{packet, Said, Outcome, outcome, told, does, keeping}
use Rattle.packet.specs.declared.message.Direction.{Direction}
use Rattle.packet.specs.declared.message.Direction.TheVariants.{Tx}
use Rattle.packet.specs.declared.message.Message.{Message}
use Rattle.packet.specs.declared.message.Items.{Items}
use Rattle.packet.specs.Messages.{as_tx}
use Rattle.record.specs.declared.whole.Bench.{Bench}
use Rattle.hearing.specs.declared.hearing.Hearing.{Hearing}
use Rattle.demands.specs.Inversion.{laid, RoomFor, csrc_words}
use Rattle.demands.specs.RoundTrip.{Narrow}
use Rattle.demands.specs.Rewrite.{WithoutDdc}
use Rattle.demands.specs.SteppedOver.{relaid, others, ddc, Alike, IsRead, SteppedOver}
use Rattle.demands.proofs.Demand2.Inversion.{laid_out, csrc_long, room_here}
use Rattle.demands.proofs.Demand2.ItemsBack.{AllWrite}
use Rattle.demands.proofs.Demand2.AllowedItems.{all_write, here_once}
use Rattle.demands.proofs.Demand2.ReadBack.{cases_left}
use Rattle.demands.proofs.Demand2.Written.{field_written, allowed_alike, writable_is}
use Rattle.demands.proofs.Demand2.Laid.{Fit}
use Rattle.demands.proofs.Demand2.Laid as of-laid
use Rattle.demands.proofs.Demand2.RoundTrip.{never_written}
use Rattle.demands.proofs.Demand2.Accepted.{items_stand, numbers_fit, message_writable}

-- ---- the items without those of type 4

ddc_allowed : (d : Direction) (i : Item) → eqb i.type 4 ≡ true → item_allowed d i ≡ true
unfolding item_allowed
ddc_allowed d i e = simp (e, or_true)

others_allowed : (d : Direction) (is : List Item) → all_allowed d (others is) ≡ all_allowed d is
unfolding others all_allowed
others_allowed d [] = refl
others_allowed d (i ∷ is) = by_type (eqb i.type 4) refl (others_allowed d is)
  where
    by_type : (t : Bool) → eqb i.type 4 ≡ t → all_allowed d (others is) ≡ all_allowed d is
        → all_allowed d (cond t (others is) (i ∷ others is)) ≡ item_allowed d i && all_allowed d is
    by_type true e h = h ∙ sym (ap (λ (a : Bool). a && all_allowed d is) (ddc_allowed d i e))
    by_type false e h = ap (λ (a : Bool). item_allowed d i && a) h

-- no item that is kept is lost
others_kept : (is : List Item) → kept (others is) ≡ kept is
unfolding others kept sqi_among climax_among side_among
others_kept [] = refl
others_kept (i ∷ is) = by_type (eqb i.type 4) refl (others_kept is)
  where
    by_type : (t : Bool) → eqb i.type 4 ≡ t → kept (others is) ≡ kept is → kept (cond t (others is) (i ∷ others is)) ≡ kept (i ∷ is)
    by_type true e h = h ∙ (simp (eqb-true i.type 4 e))
    by_type false e h =
        let q : sqi_among (others is) ≡ sqi_among is = ap (λ (k : Items). k.sqi) h in
        let c : climax_among (others is) ≡ climax_among is = ap (λ (k : Items). k.climax) h in
        let s : side_among (others is) ≡ side_among is = ap (λ (k : Items). k.side) h in
        simp (q, c, s)

-- nor one more made of them
none_more : (t : ℕ) (is : List Item) → has_type t is ≡ false → has_type t (others is) ≡ false
unfolding others has_type
none_more t [] e = refl
none_more t (i ∷ is) e = by_type (eqb i.type 4) (none_more t is (or_right (eqb i.type t) _ e))
  where
    by_type : (c : Bool) → has_type t (others is) ≡ false → has_type t (cond c (others is) (i ∷ others is)) ≡ false
    by_type true h = h
    by_type false h = simp (or_left (eqb i.type t) _ e, h)

others_once : (is : List Item) → no_type_twice is ≡ true → no_type_twice (others is) ≡ true
unfolding others no_type_twice
others_once [] e = refl
others_once (i ∷ is) e = by_type (eqb i.type 4) (others_once is (and_right (not (has_type i.type is)) _ e))
  where
    alone : has_type i.type is ≡ false
    alone = not-true (has_type i.type is) (and_left (not (has_type i.type is)) _ e)

    by_type : (c : Bool) → no_type_twice (others is) ≡ true → no_type_twice (cond c (others is) (i ∷ others is)) ≡ true
    by_type true h = h
    by_type false h = simp (none_more i.type is alone, h)

others_write : (is : List Item) → AllWrite is → AllWrite (others is)
unfolding others
others_write [] w = tt
others_write (i ∷ is) w = by_type (eqb i.type 4) (others_write is w.1)
  where
    by_type : (c : Bool) → AllWrite (others is) → AllWrite (cond c (others is) (i ∷ others is))
    by_type true h = h
    by_type false h = (w.0, h)

others_shorter : (is : List Item) → length (item_bytes (others is)) ≤ length (item_bytes is)
unfolding others item_bytes
others_shorter [] = omega arith
others_shorter (i ∷ is) = by_type (eqb i.type 4) (others_shorter is)
  where
    by_type : (c : Bool) → length (item_bytes (others is)) ≤ length (item_bytes is) → length (item_bytes (cond c (others is) (i ∷ others is))) ≤ length (item_bytes (i ∷ is))
    by_type true h = omega (arith, length-append i.value (item_bytes is))
    by_type false h = omega (arith, length-append i.value (item_bytes is), length-append i.value (item_bytes (others is)))

-- ---- one put in

others_same : (is : List Item) → has_type ddc_type is ≡ false → others is ≡ is
unfolding others has_type
others_same [] e = refl
others_same (i ∷ is) e = simp (or_left (eqb i.type 4) _ e, others_same is (or_right (eqb i.type 4) _ e))

module _ (after : List Item) (value : List ℕ) where
  others_put : (before : List Item) → has_type ddc_type (before ++ after) ≡ false → others (before ++ ddc value ∷ after) ≡ before ++ after
  unfolding others has_type
  others_put [] e = others_same after e
  others_put (i ∷ before) e = simp (or_left (eqb i.type 4) _ e, others_put before (or_right (eqb i.type 4) _ e))

  put_other_type : (t : ℕ) (before : List Item) → eqb t 4 ≡ false → has_type t (before ++ ddc value ∷ after) ≡ has_type t (before ++ after)
  unfolding has_type
  put_other_type t [] e = simp (ne_eqb 4 t (λ z. eqb-false t 4 e (sym z)))
  put_other_type t (i ∷ before) e = ap (λ (b : Bool). eqb i.type t || b) (put_other_type t before e)

  put_once : (before : List Item) → has_type ddc_type (before ++ after) ≡ false → no_type_twice (before ++ after) ≡ true → no_type_twice (before ++ ddc value ∷ after) ≡ true
  unfolding has_type no_type_twice
  put_once [] e o = simp (e, o)
  put_once (i ∷ before) e o =
      let front = and_left (not (has_type i.type (before ++ after))) _ o in
      let rest = put_once before (or_right (eqb i.type 4) _ e) (and_right (not (has_type i.type (before ++ after))) _ o) in
      simp (put_other_type i.type before (or_left (eqb i.type 4) _ e), front, rest)

  put_write : (before : List Item) → length value ≤ 15 → AllWrite (before ++ after) → AllWrite (before ++ ddc value ∷ after)
  put_write [] s w = (record { some = omega arith; type = omega arith; short = omega arith }, w)
  put_write (i ∷ before) s w = (w.0, put_write before s w.1)

-- ---- two packets of the same parts, whose items are kept alike

module _ (csrc : List ℕ) (kind ext : ℕ) (m : Message) (sound : List ℕ) (words other : ℕ) (is js : List Item)
    (f : Fit csrc kind ext words m is) (g : Fit csrc kind ext other m js) (keeps : kept is ≡ m.items) (kept-alike : kept js ≡ kept is)
    (allowed-in : (d : Direction) → all_allowed d js ≡ all_allowed d is) (once : no_type_twice js ≡ no_type_twice is) where
  abbrev p : List ℕ
  p = laid csrc kind ext words m is sound

  abbrev q : List ℕ
  q = laid csrc kind ext other m js sound

  refusals_alike : (d : Direction) (asked : ℕ) → reader_refusals d asked q ≡ reader_refusals d asked p
  refusals_alike d asked =
      let field : field_allowed d (field_of m js) ≡ field_allowed d (field_of m is) =
      allowed_alike d (field_of m js) (field_of m is) m js is (field_written m js f.ptt f.id) (field_written m is f.ptt f.id) in
      of-laid.cases csrc kind ext other m js sound g d asked
      ∙ ap₂ (λ (a b : Bool). cases_left asked kind ext a b (payload_allowed kind (length sound))) field (ap₂ (λ (a b : Bool). a && b) (allowed-in d) once)
      ∙ sym (of-laid.cases csrc kind ext words m is sound f d asked)

  message_alike : message_of q ≡ message_of p
  message_alike =
      of-laid.message_back csrc kind ext other m js sound g (kept-alike ∙ keeps) ∙ sym (of-laid.message_back csrc kind ext words m is sound f keeps)

  sound_alike : payload q ≡ payload p
  sound_alike = of-laid.sound_back csrc kind ext other m js sound g ∙ sym (of-laid.sound_back csrc kind ext words m is sound f)

  module _ (b : Bench) (n : ℕ) where
    abbrev refusals : List ℕ → List Case
    refusals l = packet_refusals b.setup n (seat_of b.seats n) l

    packet_refusals_lem : refusals q ≡ refusals p
    unfolding packet_refusals
    packet_refusals_lem = simp (refusals_alike Tx b.setup.ext, message_alike)

    said_alike : told q (hearing b n q) ≡ told p (hearing b n p)
    unfolding hearing
    said_alike = simp (message_alike, sound_alike)

    bench_alike : heard_bench b n (message_in q) ≡ heard_bench b n (message_in p)
    bench_alike = ap (λ (s : Message). heard_bench b n (as_tx s)) message_alike

    abbrev after : List ℕ → Answer Hearing → Outcome
    after l a = outcome a (told l) b (aired (heard_bench b n (message_in l)))

    heard_alike : keeping b (packet n q) ≡ keeping b (packet n p)
    unfolding does packet_said
    heard_alike =
        ap (λ (cs : List Case). after q (judged cs (hearing b n q))) packet_refusals_lem
        ∙ judged_both (λ x y. after q x ≡ after p y) (refusals p) (hearing b n q) (hearing b n p)
        (λ k c. refl) (λ none. ap₂ (λ (s : Said) (r : Bench). record { answer = accepted s; bench = r }) said_alike (ap aired bench_alike))

  reads_alike : (d : Direction) (asked : ℕ) → read d asked q ≡ read d asked p
  unfolding read
  reads_alike d asked = simp (refusals_alike d asked, message_alike)

-- ---- an accepted packet, with other items

module _ (d : Direction) (ext : ℕ) (p : List ℕ) (small : Bytes p) (h : Passed d ext p) where
  abbrev is : List Item
  is = items_here p

  abbrev m : Message
  m = message_of p

  writes_here : AllWrite is
  writes_here = all_write d is (items_stand d ext p small h)

  once_here : no_type_twice is ≡ true
  unfolding items_here
  once_here = here_once d _ _ h.items_allowed_lem

  fits : (words : ℕ) (js : List Item) → AllWrite js → RoomFor words js → Fit (csrc_words p) (payload_type p) (extension_type p) words m js
  fits words js w room =
      let fine = writable_is m (length (payload p)) (message_writable d ext p small h) in
      let long = csrc_long d ext p small h in
      record {
        whole = omega arith;
        few = omega arith;
        kind_narrow = omega arith;
        narrow = subst (λ (e : ℕ). Narrow e m) (sym h.type_is) (numbers_fit d ext p small h);
        ptt = omega (arith, fine.ptt);
        id = fine.id;
        writes = w;
        room = room;
      }

  own_room : RoomFor (word_count p) is
  own_room = (room_here d ext p small h, h.few_words)

  itself : relaid (word_count p) is p ≡ p
  unfolding relaid
  itself = ap (λ (e : ℕ). laid (csrc_words p) (payload_type p) e (word_count p) m is (payload p)) h.type_is ∙ sym (laid_out d ext p small h)

  module _ (words : ℕ) (js : List Item) (w : AllWrite js) (room : RoomFor words js) (keeps : kept js ≡ kept is)
      (allowed : (d : Direction) → all_allowed d js ≡ all_allowed d is) (once : no_type_twice js ≡ true) where
    abbrev changed : List ℕ
    changed = relaid words js p

    -- what holds of both packets, laid out, holds of the packet itself
    of_both : (R : List ℕ → Type 0) → R (relaid (word_count p) is p) → R p
    of_both R = subst R itself

    with_items : Alike p words js
    unfolding relaid message_of
    with_items =
        let f = fits (word_count p) is writes_here own_room in
        let g = fits words js w room in
        let same : no_type_twice js ≡ no_type_twice is = once ∙ sym once_here in
        record {
          items = of-laid.items_here_lem (csrc_words p) (payload_type p) (extension_type p) words m js (payload p) g;
          reads = λ e asked. of_both (λ l. read e asked changed ≡ read e asked l)
              (reads_alike (csrc_words p) (payload_type p) (extension_type p) m (payload p) (word_count p) words is js f g refl keeps allowed same e asked);
          audio = of-laid.sound_back (csrc_words p) (payload_type p) (extension_type p) words m js (payload p) g;
          heard = λ b n. of_both (λ l. keeping b (packet n changed) ≡ keeping b (packet n l))
              (heard_alike (csrc_words p) (payload_type p) (extension_type p) m (payload p) (word_count p) words is js f g refl keeps allowed same b n);
        }

  without : (words : ℕ) → RoomFor words (others is) → Alike p words (others is)
  without words room = with_items words (others is) (others_write is writes_here) room (others_kept is) (λ e. others_allowed e is) (others_once is once_here)

  with_one : (words : ℕ) (before after : List Item) (value : List ℕ) → WithoutDdc p → is ≡ before ++ after → length value ≤ 15
      → RoomFor words (before ++ ddc value ∷ after) → Alike p words (before ++ ddc value ∷ after)
  with_one words before after value none e short room =
      let gone : others (before ++ ddc value ∷ after) ≡ is = others_put after value before (sym (ap (has_type ddc_type) e) ∙ none) ∙ sym e in
      with_items words (before ++ ddc value ∷ after) (put_write after value before short (subst AllWrite e writes_here)) room
      (sym (others_kept (before ++ ddc value ∷ after)) ∙ ap kept gone)
      (λ t. sym (others_allowed t (before ++ ddc value ∷ after)) ∙ ap (all_allowed t) gone)
      (put_once after value before (sym (ap (has_type ddc_type) e) ∙ none) (sym (ap no_type_twice e) ∙ once_here))

pub stepped_over : SteppedOver
stepped_over =
    record {
      itself = λ p r. itself r.direction r.ext p r.bytes (passed p r);
      taken_out = λ p words r room. without r.direction r.ext p r.bytes (passed p r) words room;
      own_words = λ p r.
          let room = own_room r.direction r.ext p r.bytes (passed p r) in
          (omega (arith, room.0, others_shorter (items_here p)), room.1);
      put_in = λ p words before after value r none is short room.
          with_one r.direction r.ext p r.bytes (passed p r) words before after value none is short room;
      never_written = never_written;
    }
  where
    passed : (p : List ℕ) (r : IsRead p) → Passed r.direction r.ext p
    passed p r = (accepted_passed r.direction r.ext p r.message r.accepts).0
