-- The first number that passes a test, one number at a time; and where one word of a list is missing, none follows.
use Rattle.std.proofs.Common.{◌≡◌, ℕ, zero, suc, ◌+◌, ◌-◌, ◌<◌, Bool, true, false, List, Some, None, drop, refl, ap, ◌∙◌, arith, add-one}
use native.Mathlib.Nat.{add-zero}
use lib.Seq.{drop-drop}
use Rattle.std.specs.List.{prefix_len}
use Rattle.std.proofs.lemmas.List.Sums.{prefix_len-drop_all, prefix_len-drop_no, prefix_len_stops}
use Rattle.words.specs.Input.{is_blank, in_word, past, word_at, word_of, is_at, first_from}

module _ (p : ℕ → Bool) (n : ℕ) where
  pub first_here : (count : ℕ) → 0 < count → p n ≡ true → first_from p n count ≡ Some n
  unfolding first_from
  first_here zero h e = absurd (omega arith)
  first_here (suc count) h e = rw e

  pub first_later : (count rest : ℕ) → count ≡ rest + 1 → p n ≡ false → first_from p n count ≡ first_from p (n + 1) rest
  unfolding first_from
  first_later count rest h e = rw (h, add-one, add-one, e)

  pub first_nowhere : (count : ℕ) → count ≡ 0 → first_from p n count ≡ None
  unfolding first_from
  first_nowhere count h = rw h

module _ (p : ℕ → Bool) where
  prefix_done : (l : List ℕ) → prefix_len p (drop (prefix_len p l) l) ≡ 0
  prefix_done l = grind (arith, prefix_len-drop_all p l (prefix_len p l), prefix_len-drop_no p l (prefix_len p l) 0, prefix_len_stops p l 0)

  past_twice : (s : List ℕ) (at : ℕ) → past p s (past p s at) ≡ past p s at
  past_twice s at =
      ap (λ (k : ℕ). past p s at + k) (rw (← drop-drop (prefix_len p (drop at s)) at s) (prefix_done (drop at s)))
      ∙ add-zero (past p s at)

module _ (w s : List ℕ) where
  -- a word begins behind its blanks
  unblanked : (n : ℕ) → past is_blank s (word_at s n) ≡ word_at s n
  unfolding word_at
  unblanked zero = past_twice is_blank s 0
  unblanked (suc n) = past_twice is_blank s (past in_word s (word_at s n))

  no_word : (n : ℕ) → past in_word s (word_at s n) ≡ word_at s n → is_at w s n ≡ false
  unfolding word_of
  no_word n e = let none : word_at s n - word_at s n ≡ 0 = omega arith in rw (e, none)

  stays : (n : ℕ) → past in_word s (word_at s n) ≡ word_at s n → word_at s (suc n) ≡ word_at s n
  unfolding word_at
  stays n e = rw e (unblanked n)

  pub none_later : (n count : ℕ) → past in_word s (word_at s n) ≡ word_at s n → first_from (is_at w s) n count ≡ None
  unfolding first_from
  none_later n zero e = refl
  none_later n (suc count) e = rw (no_word n e) (none_later (suc n) count (rw (stays n e) e))

pub ruleset choosing = (first_here, first_later, first_nowhere, none_later)
