-- What a message is turned away for, held to InWords.
use Prim.Native.Nat.{ℕ, zero, suc, ◌+◌, ◌≤◌, ◌<◌}
use mathlib.Core.Path.{◌≡◌, refl, sym, ap, subst, ◌∙◌}
use mathlib.Core.Bool.{Bool, true, false, cond, not, ◌&&◌, ◌||◌, false≢true}
use native.Mathlib.Omega.{arith}
use lib.Dec.{ltb, leb, eqb}
use borrow.Author.Tests.{ltb-true, lt-ltb, leb-true, le-leb, eqb-true, eqb-false, ne_eqb, not-true}
use Rattle.std.specs.Prelude.{Option, None, Some}
use Rattle.base.specs.Order.{other_ssrc, late, missing}
use Rattle.base.proofs.InWords.{so_many, no_other, late_exactly}
use Rattle.base.proofs.Truths.{and_left, and_right, or_left, or_right, ◌and◌, or_true}
use Rattle.packet.specs.Packet.{ptt_on}
use Rattle.packet.proofs.InWords.{MetIf, Agree}
use Rattle.packet.specs.declared.message.Tx.{Tx}
use Rattle.packet.specs.declared.message.Side.TheVariants.{Main, Standby}
use Rattle.packet.specs.declared.message.Side.{Side}
use Rattle.record.specs.Kind.{kind_of, item_barred}
use Rattle.record.specs.Record.{lesson}
use Rattle.record.specs.declared.kind.Kind.TheVariants.{Single, Pair, Shared}
use Rattle.record.specs.declared.setup.Setup.{Setup}
use Rattle.record.specs.declared.seat.Seat.{Seat}
use Rattle.seats.specs.Opening.{own_id}
use Rattle.seats.specs.InWords.{OwnId}
use Rattle.seats.proofs.InWords.{own_is, own_only}
use Rattle.hearing.specs.Account.{totals_after, total_too_large}
use Rattle.hearing.specs.Hearing.{has_side, is_standby, keying_barred, id_allowed, side_barred, message_refusals}
use Rattle.hearing.specs.InWords.{MessageBarred, another_ssrc, not_after, listens_only, not_coupling, lesson_tests, other_id, item_on_single, one_on_shared, item_from_lesson, too_many}
use Rattle.hearing.proofs.Sides.{single_bars, shared_bars}

-- ---- 19 to 23, and 33

module _ (setup : Setup) (n : ℕ) (s : Seat) (m : Tx) where
  abbrev Barred : (number cause : ℕ) → Type 0
  Barred = MessageBarred setup n s m

  by_ssrc : MetIf Barred 19 (other_ssrc s.heard.any s.heard.ssrc m.ssrc)
  by_ssrc =
      record {
        if_holds = λ e. another_ssrc (and_left s.heard.any _ e) (eqb-false m.ssrc s.heard.ssrc (not-true _ (and_right s.heard.any _ e)));
        only_if = only_if;
      }
    where
      only_if : (c : ℕ) → Barred 19 c → (other_ssrc s.heard.any s.heard.ssrc m.ssrc ≡ true) × (c ≡ 0)
      only_if c (another_ssrc any other) = (simp (any, ne_eqb m.ssrc s.heard.ssrc other), refl)

  abbrev is_late : Bool
  is_late = late s.heard.any s.heard.sequence m.sequence

  by_order : MetIf Barred 20 is_late
  by_order = record { if_holds = λ e. not_after ((late_exactly s.heard.sequence m.sequence s.heard.any).0 e); only_if = only_if }
    where
      only_if : (c : ℕ) → Barred 20 c → (is_late ≡ true) × (c ≡ 0)
      only_if c (not_after none) = ((late_exactly s.heard.sequence m.sequence s.heard.any).1 none, refl)

  on_to : ptt_on m.ptt ≡ true → (1 ≤ m.ptt) × (m.ptt ≤ 5)
  on_to e = (ltb-true 0 m.ptt (and_left (ltb 0 m.ptt) (leb m.ptt 5) e), leb-true m.ptt 5 (and_right (ltb 0 m.ptt) (leb m.ptt 5) e))

  on_from : 1 ≤ m.ptt → m.ptt ≤ 5 → ptt_on m.ptt ≡ true
  on_from low high = simp (lt-ltb 0 m.ptt low, le-leb m.ptt 5 high)

  by_keying : MetIf Barred 21 (keying_barred (lesson setup n) s.call m)
  unfolding keying_barred
  by_keying = record { if_holds = if_holds; only_if = only_if }
    where
      by_three : {P : Type 0} (a c d : Bool) → a || c || d ≡ true → (a ≡ true → P) → (c ≡ true → P) → (d ≡ true → P) → P
      by_three true c d e x y z = x refl
      by_three false true d e x y z = y refl
      by_three false false d e x y z = z e

      not_test : (k : ℕ) → k ≤ 5 → eqb k 5 ≡ false → k ≤ 4
      not_test k h e = let other = eqb-false k 5 e in omega arith

      if_holds : keying_barred (lesson setup n) s.call m ≡ true → Barred 21 0
      if_holds e =
          let on = ptt_on m.ptt in
          let may = eqb s.call 2 || eqb s.call 3 in
          let other = not (eqb m.ptt 5) in
          by_three (on && not may) (eqb m.ptt 2 && eqb s.call 2) (lesson setup n && on && other) e
          (λ h.
          let keys = on_to (and_left on (not may) h) in
          let neither = not-true may (and_right on (not may) h) in
          listens_only keys.0 keys.1 (eqb-false s.call 2 (or_left (eqb s.call 2) (eqb s.call 3) neither)) (eqb-false s.call 3 (or_right (eqb s.call 2) (eqb s.call 3) neither)))
          (λ h. not_coupling (eqb-true m.ptt 2 (and_left (eqb m.ptt 2) (eqb s.call 2) h)) (eqb-true s.call 2 (and_right (eqb m.ptt 2) (eqb s.call 2) h)))
          (λ h.
          let both = and_left (lesson setup n && on) other h in
          let keys = on_to (and_right (lesson setup n) on both) in
          lesson_tests (and_left (lesson setup n) on both) keys.0 (not_test m.ptt keys.1 (not-true _ (and_right (lesson setup n && on) other h))))

      only_if : (c : ℕ) → Barred 21 c → (keying_barred (lesson setup n) s.call m ≡ true) × (c ≡ 0)
      only_if c (listens_only low high two three) = (simp (on_from low high, ne_eqb s.call 2 two, ne_eqb s.call 3 three), refl)
      only_if c (not_coupling e f) = (simp (e, f), refl)
      only_if c (lesson_tests l low high) = (simp (l, on_from low (omega arith), ne_eqb m.ptt 5 (λ (z : m.ptt ≡ 5). omega arith), or_true), refl)

  by_id : m.ptt ≤ 5 → MetIf Barred 22 (not (id_allowed (own_id n s.call) m))
  unfolding id_allowed
  by_id known = record { if_holds = if_holds; only_if = only_if }
    where
      if_holds : not (id_allowed (own_id n s.call) m) ≡ true → Barred 22 0
      if_holds e =
          let mine = eqb m.id (own_id n s.call) in
          let free = not (ptt_on m.ptt) && eqb m.id 0 in
          let out = not-true (mine || free) e in
          other_id
          (λ o. eqb-false m.id (own_id n s.call) (or_left mine free out) (own_only n s.call m.id o))
          (λ a z. false≢true (sym (or_right mine free out) ∙ rw (a, z)))

      is_off : (k : ℕ) → k ≤ 5 → ltb 0 k && leb k 5 ≡ false → k ≡ 0
      is_off zero h e = refl
      is_off (suc k) h e = absurd (false≢true (sym e ∙ simp (lt-ltb 0 (suc k) (omega arith), le-leb (suc k) 5 h)))

      only_if : (c : ℕ) → Barred 22 c → (not (id_allowed (own_id n s.call) m) ≡ true) × (c ≡ 0)
      only_if c (other_id other unless) = (simp (ne_eqb m.id (own_id n s.call) not_own, none_free (ptt_on m.ptt) (eqb m.id 0) refl refl), refl)
        where
          not_own : m.id ≡ own_id n s.call → ⊥
          not_own e = other (subst (OwnId n s.call) (sym e) (own_is n s.call))

          none_free : (on none : Bool) → ptt_on m.ptt ≡ on → eqb m.id 0 ≡ none → not on && none ≡ false
          none_free true none p q = refl
          none_free false true p q = absurd (unless (is_off m.ptt known p) (eqb-true m.id 0 q))
          none_free false false p q = refl

  by_side : MetIf Barred 23 (side_barred (lesson setup n) (kind_of setup.kind) m)
  unfolding side_barred kind_of
  by_side = record { if_holds = if_holds; only_if = only_if }
    where
      some : (i : Option Side) → has_side i ≡ true → i ≡ None → ⊥
      some i h e = false≢true (sym (ap has_side e) ∙ h)

      has : (i : Option Side) → (i ≡ None → ⊥) → has_side i ≡ true
      has None out = absurd (out refl)
      has (Some Main) out = refl
      has (Some Standby) out = refl

      is_standby_lem : (i : Option Side) → is_standby i ≡ true → i ≡ Some Standby
      is_standby_lem None e = absurd (false≢true e)
      is_standby_lem (Some Main) e = absurd (false≢true e)
      is_standby_lem (Some Standby) e = refl

      by_kind : (one two : Bool) → eqb setup.kind 1 ≡ one → eqb setup.kind 2 ≡ two → item_barred (cond one Pair (cond two Shared Single)) m.side ≡ true → Barred 23 0
      by_kind true two p q h = absurd (false≢true h)
      by_kind false true p q h = one_on_shared (eqb-true setup.kind 2 q) (is_standby_lem m.side (sym (shared_bars m.side) ∙ h))
      by_kind false false p q h = item_on_single (eqb-false setup.kind 1 p) (eqb-false setup.kind 2 q) (some m.side (sym (single_bars m.side) ∙ h))

      if_holds : side_barred (lesson setup n) (kind_of setup.kind) m ≡ true → Barred 23 0
      if_holds e = by_or (item_barred (kind_of setup.kind) m.side) refl e
        where
          by_or : (t : Bool) → item_barred (kind_of setup.kind) m.side ≡ t → t || (lesson setup n && has_side m.side) ≡ true → Barred 23 0
          by_or true q h = by_kind (eqb setup.kind 1) (eqb setup.kind 2) refl refl q
          by_or false q h = item_from_lesson (and_left (lesson setup n) (has_side m.side) h) (some m.side (and_right (lesson setup n) (has_side m.side) h))

      only_if : (c : ℕ) → Barred 23 c → (side_barred (lesson setup n) (kind_of setup.kind) m ≡ true) × (c ≡ 0)
      only_if c (item_on_single one two out) = (simp (ne_eqb setup.kind 1 one, ne_eqb setup.kind 2 two, single_bars m.side, has m.side out), refl)
      only_if c (one_on_shared e q) = (simp (e, q), refl)
      only_if c (item_from_lesson l out) = (simp (l, has m.side out, or_true), refl)

  by_total : is_late ≡ false → MetIf Barred 33 (total_too_large (totals_after s m))
  unfolding total_too_large totals_after
  by_total in-time = record { if_holds = if_holds; only_if = only_if }
    where
      if_holds : total_too_large (totals_after s m) ≡ true → Barred 33 0
      if_holds e = too_many (missing s.heard.any s.heard.sequence m.sequence) (so_many s.heard.sequence m.sequence s.heard.any in-time) (ltb-true 4000000000 _ e)

      only_if : (c : ℕ) → Barred 33 c → (total_too_large (totals_after s m) ≡ true) × (c ≡ 0)
      only_if c (too_many k before h) =
          (lt-ltb 4000000000 _ (subst (λ (j : ℕ). 4000000000 < s.totals.heard + 1 + (s.totals.missing + j)) (no_other s.heard.sequence m.sequence s.heard.any k before) h), refl)

  pub message_agrees : m.ptt ≤ 5 → Agree (MessageBarred setup n s m) (message_refusals setup n s m)
  unfolding message_refusals
  message_agrees known = by_ssrc and λ _. by_order and λ in-time. by_keying and λ _. by_id known and λ _. by_side and λ _. by_total in-time and λ _. tt

  -- a message is barred with 19 and more
  pub message_range : {k c : ℕ} → MessageBarred setup n s m k c → 19 ≤ k
  message_range h = grind arith
