-- What is laid out of parts that may stand is accepted, and what is accepted is laid out of its own parts, which may stand.
use Prim.Native.Nat.{ℕ}
use mathlib.Core.Path.{◌≡◌, refl, ap, sym, subst, ◌∙◌}
use mathlib.Core.Bool.{Bool, true, false, cond, not, ◌||◌}
use mathlib.Core.List.{List, [], ◌∷◌}
use native.Mathlib.Omega.{arith}
use lib.Dec.{eqb}
use lib.ListN.{length}
use borrow.Author.Tests.{le-leb, eqb-true, eqb-false, ne_eqb, not-true}
use Rattle.base.specs.Bytes.{Bytes}
use Rattle.base.proofs.Truths.{and_left, and_right, or_left, or_right}
use Rattle.packet.specs.Packet.{audio_type, r2s_type, audio_length, csrc_count, payload_type, word_count, payload, payload_allowed}
use Rattle.packet.specs.Items.{Item, item_allowed, all_allowed, has_type, no_type_twice}
use Rattle.packet.specs.Refusals.{accepted, mapped}
use Rattle.reader.specs.Reading.{message_of, items_here, read, read_tx, read_rx}
use Rattle.reader.proofs.Passed.{Passed, accepted_passed}
use Rattle.packet.specs.declared.message.Direction.{Direction}
use Rattle.packet.specs.declared.message.Direction.TheVariants.{Tx, Rx}
use Rattle.packet.specs.declared.message.Message.{Message}
use Rattle.packet.specs.Messages.{as_tx, as_rx, from_tx, from_rx}
use Rattle.demands.specs.Inversion.{laid, csrc_words}
use Rattle.demands.specs.LaidOut.{Carries, r2s, ten_ms, twenty_ms, thirty_ms, Stands, a_quality, a_delay, main, standby, stepped_over, AllStand, NoneOf, EachOnce, Keeps, MayStand, LaidFrom, LaidOut}
use Rattle.demands.proofs.Demand2.Inversion.{laid_out, csrc_long, room_here}
use Rattle.demands.proofs.Demand2.RisingItems.{sqi_value, climax_value}
use Rattle.demands.proofs.Demand2.AllowedItems.{sqi_allowed_lem, all_write, here_once}
use Rattle.demands.proofs.Demand2.KeptItems.{kept_are, keeps_found}
use Rattle.demands.proofs.Demand2.Written.{writable_is}
use Rattle.demands.proofs.Demand2.Laid.{said_in_field, Fit}
use Rattle.demands.proofs.Demand2.Laid as of-laid
use Rattle.demands.proofs.Demand2.Accepted.{items_stand, numbers_fit, message_writable, message_says, tx_says_all, rx_says_all}
use Rattle.demands.proofs.Demand2.Rewrite.{from_mapped}

-- ---- the payload

kind_known : (k n : ℕ) → Carries k n → (eqb k audio_type || eqb k r2s_type) ≡ true
kind_known _ _ r2s = refl
kind_known _ _ ten_ms = refl
kind_known _ _ twenty_ms = refl
kind_known _ _ thirty_ms = refl

pub payload_fits : (k n : ℕ) → Carries k n → payload_allowed k n ≡ true
unfolding payload_allowed
payload_fits _ _ r2s = refl
payload_fits _ _ ten_ms = refl
payload_fits _ _ twenty_ms = refl
payload_fits _ _ thirty_ms = refl

pub carried : (k n : ℕ) → (eqb k audio_type || eqb k r2s_type) ≡ true → payload_allowed k n ≡ true → Carries k n
unfolding payload_allowed
carried k n known fine = by_kind (eqb k 8) refl known fine
  where
    by_length : (s t : Bool) → eqb n 80 ≡ s → eqb n 160 ≡ t → (s || t || eqb n 240) ≡ true → Carries 8 n
    by_length true t p q e = subst (Carries 8) (sym (eqb-true n 80 p)) ten_ms
    by_length false true p q e = subst (Carries 8) (sym (eqb-true n 160 q)) twenty_ms
    by_length false false p q e = subst (Carries 8) (sym (eqb-true n 240 e)) thirty_ms

    by_kind : (t : Bool) → eqb k 8 ≡ t → (t || eqb k 123) ≡ true → cond t (audio_length n) (eqb n 0) ≡ true → Carries k n
    by_kind true p q e = subst (λ (j : ℕ). Carries j n) (sym (eqb-true k 8 p)) (by_length (eqb n 80) (eqb n 160) refl refl e)
    by_kind false p q e = subst (λ (j : ℕ). Carries j n) (sym (eqb-true k 123 q)) (subst (Carries 123) (sym (eqb-true n 0 e)) r2s)

-- ---- the items

stands_allowed : (d : Direction) (i : Item) → Stands d i → item_allowed d i ≡ true
unfolding item_allowed
stands_allowed Rx _ (a_quality q m h) =
    let e = sqi_allowed_lem q m h in
    simp ((sqi_value q m e).0, (sqi_value q m e).1, e)
stands_allowed Tx _ (a_delay v h) = simp (climax_value v (le-leb v 127 h)).1
stands_allowed d _ (main _) = refl
stands_allowed d _ (standby _) = refl
stands_allowed d _ (stepped_over _ v h) = refl

pub all_allowed_lem : (d : Direction) (is : List Item) → AllStand d is → all_allowed d is ≡ true
unfolding all_allowed
all_allowed_lem d [] h = refl
all_allowed_lem d (i ∷ is) h = simp (stands_allowed d i h.0, all_allowed_lem d is h.1)

none_has : (t : ℕ) (is : List Item) → NoneOf t is → has_type t is ≡ false
unfolding has_type
none_has t [] h = refl
none_has t (i ∷ is) h = simp (ne_eqb i.type t h.0, none_has t is h.1)

has_none : (t : ℕ) (is : List Item) → has_type t is ≡ false → NoneOf t is
unfolding has_type
has_none t [] e = tt
has_none t (i ∷ is) e = (eqb-false i.type t (or_left (eqb i.type t) _ e), has_none t is (or_right (eqb i.type t) _ e))

pub none_twice : (is : List Item) → EachOnce is → no_type_twice is ≡ true
unfolding no_type_twice
none_twice [] h = refl
none_twice (i ∷ is) h = simp (none_has i.type is h.0, none_twice is h.1)

pub each_once : (is : List Item) → no_type_twice is ≡ true → EachOnce is
unfolding no_type_twice
each_once [] e = tt
each_once (i ∷ is) e =
    let alone = not-true (has_type i.type is) (and_left (not (has_type i.type is)) _ e) in
    (has_none i.type is alone, each_once is (and_right (not (has_type i.type is)) _ e))

-- ---- from the parts to the message

module _ (d : Direction) (csrc : List ℕ) (kind ext words : ℕ) (m : Message) (is : List Item) (sound : List ℕ) (h : MayStand d csrc kind ext words m is sound) where
  fit : Fit csrc kind ext words m is
  fit = grind (arith, all_write)

  reads : read d ext (laid csrc kind ext words m is sound) ≡ accepted m
  reads =
      of-laid.read_back csrc kind ext words m is sound fit d h.ptt h.in_field (all_allowed_lem d is h.items_stand) (none_twice is h.each_once)
      (kept_are d is h.items_stand m.items h.keeps) (kind_known kind (length sound) h.carries) (payload_fits kind (length sound) h.carries)

-- ---- from the message to the parts

module _ (d : Direction) (ext : ℕ) (p : List ℕ) (small : Bytes p) (h : Passed d ext p) where
  once_here : EachOnce (items_here p)
  unfolding items_here
  once_here = each_once _ (here_once d _ _ h.items_allowed_lem)

  keeps_here : Keeps d (items_here p) (items_stand d ext p small h) (message_of p).items
  unfolding message_of
  keeps_here = keeps_found d (items_here p) (items_stand d ext p small h) once_here

  own_parts : MayStand d (csrc_words p) (payload_type p) ext (word_count p) (message_of p) (items_here p) (payload p)
  own_parts =
      let fine = writable_is (message_of p) (length (payload p)) (message_writable d ext p small h) in
      record {
        csrc_words = record { count = csrc_count p; count_most = omega arith; long = csrc_long d ext p small h };
        carries = carried (payload_type p) (length (payload p)) h.known_kind h.payload_allowed_lem;
        narrow = numbers_fit d ext p small h;
        ptt = fine.ptt;
        id = omega (arith, fine.id);
        in_field = said_in_field d (message_of p) (message_says d ext p small h);
        items_stand = items_stand d ext p small h;
        each_once = once_here;
        keeps = keeps_here;
        fewest = omega (arith, room_here d ext p small h);
        words_most = omega (arith, h.few_words);
      }

  from_parts : LaidFrom d ext p (message_of p)
  from_parts = grind (arith, laid_out, own_parts)

-- ---- both

if_laid : (d : Direction) (ext : ℕ) (p : List ℕ) (m : Message) → LaidFrom d ext p m → read d ext p ≡ accepted m
if_laid d ext p m l = ap (read d ext) l.is_laid ∙ reads d l.csrc l.kind ext l.words m l.items l.sound l.may_stand

only_if_laid : (d : Direction) (ext : ℕ) (p : List ℕ) (m : Message) → Bytes p → read d ext p ≡ accepted m → LaidFrom d ext p m
only_if_laid d ext p m small e = grind (arith, accepted_passed, from_parts)

pub laid_from_parts : LaidOut
unfolding read_tx read_rx
laid_from_parts =
    record {
      accepts = λ d csrc kind ext words m is sound h.
          let f = fit d csrc kind ext words m is sound h in
          (reads d csrc kind ext words m is sound h, of-laid.items_here_lem csrc kind ext words m is sound f, of-laid.sound_back csrc kind ext words m is sound f);
      exactly = λ d ext p m small. (only_if_laid d ext p m small, if_laid d ext p m);
      exactly_tx = λ ext p t small. (
        λ e. let (m, r, same) = from_mapped as_tx (read Tx ext p) t e in
            subst (LaidFrom Tx ext p) (sym (tx_says_all ext p m small r) ∙ ap from_tx same) (only_if_laid Tx ext p m small r),
        λ l. ap (mapped as_tx) (if_laid Tx ext p (from_tx t) l),
      );
      exactly_rx = λ ext p t small. (
        λ e. let (m, r, same) = from_mapped as_rx (read Rx ext p) t e in
            subst (LaidFrom Rx ext p) (sym (rx_says_all ext p m small r) ∙ ap from_rx same) (only_if_laid Rx ext p m small r),
        λ l. ap (mapped as_rx) (if_laid Rx ext p (from_rx t) l),
      );
    }
