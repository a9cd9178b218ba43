-- What is left of a blotted report: each byte but 16 and 17, and of these every bit but those of the three.
use Prim.Native.Nat.{ℕ, ◌+◌, ◌*◌, ◌-◌, ◌/◌, ◌%◌, ◌≤◌, ◌<◌}
use mathlib.Core.Path.{◌≡◌, refl, sym, ap, ◌∙◌}
use mathlib.Core.Bool.{Bool, true, false}
use mathlib.Core.List.{List, ◌++◌, append_assoc}
use mathlib.Core.Logic.{◌↔◌}
use native.Mathlib.Omega.{arith}
use lib.Dec.{ltb}
use lib.ListN.{length, take, drop, length-take}
use lib.Seq.{take_at, drop_at, drop-drop, get_or-take, get_or-drop}
use borrow.Author.Tests.{ltb-true, ltb-false}
use Rattle.base.specs.Bytes.{bytes16, placed, Bytes}
use Rattle.packet.specs.Packet.{ptt_type, ptt_id, ptts}
use Rattle.air.specs.InWords.{last_field, TakesPart}
use Rattle.air.proofs.InWords.{part_is, is_part}
use Rattle.record.specs.declared.whole.Bench.{Bench}
use Rattle.demands.specs.Apart.{blotted, is_testing}
use Rattle.demands.specs.Unreadable.{byte}
use Rattle.demands.specs.AtMost.{DifferAtMost, AtMost}

-- ---- the field

-- SQU, PM, and what stands behind PTTS
abbrev left : (high low : ℕ) → ℕ
left high low = 4096 * (high / 16 % 2) + 32 * (low / 32 % 2) + low % 16

left_is : (high low : ℕ) → high < 256 → low < 256
    → let f = high * 256 + low in f - placed 16 0 3 (ptt_type f) - placed 16 4 6 (ptt_id f) - placed 16 11 1 (ptts f) ≡ left high low
left_is high low h l = grind arith

-- ---- the report

-- what x, a report blotted, tells of it
record Tells (r x : List ℕ) : Type 0 where
  as_long : length x ≡ length r
  elsewhere : (i : ℕ) → (i ≡ 16 → ⊥) → (i ≡ 17 → ⊥) → byte x i ≡ byte r i
  high : byte x 16 ≡ 16 * (byte r 16 / 16 % 2)
  low : byte x 17 ≡ 32 * (byte r 17 / 32 % 2) + byte r 17 % 16

module _ (r : List ℕ) (small : Bytes r) (long : 18 ≤ length r) where
  abbrev field : List ℕ
  field = bytes16 (left (byte r 16) (byte r 17))

  apart : blotted r ≡ take 16 r ++ (field ++ drop 18 r)
  unfolding blotted
  apart = rw (left_is (byte r 16) (byte r 17) (small 16) (small 17)) (append_assoc (take 16 r) field (drop 18 r))

  front_long : length (take 16 r) ≡ 16
  front_long = simp length-take (omega arith)

  front : take 16 (blotted r) ≡ take 16 r
  front = rw apart (take_at (take 16 r) _ 16 front_long)

  from_field : drop 16 (blotted r) ≡ field ++ drop 18 r
  from_field = rw apart (drop_at (take 16 r) _ 16 front_long)

  behind : drop 18 (blotted r) ≡ drop 18 r
  behind = sym (drop-drop 2 16 (blotted r)) ∙ ap (drop 2) from_field

  elsewhere : (i : ℕ) → (i ≡ 16 → ⊥) → (i ≡ 17 → ⊥) → byte (blotted r) i ≡ byte r i
  elsewhere i not_16 not-17 = by_place (ltb i 16) refl
    where
      by_place : (t : Bool) → ltb i 16 ≡ t → byte (blotted r) i ≡ byte r i
      by_place true e =
          let under : i < 16 = ltb-true i 16 e in
          simp get_or-take at (ap (λ (l : List ℕ). byte l i) front)
      by_place false e =
          let at : 18 + (i - 18) ≡ i = omega (arith, ltb-false i 16 e) in
          simp (get_or-drop, at) at (ap (λ (l : List ℕ). byte l (i - 18)) behind)

  tells : Tells r (blotted r)
  tells = grind (arith, apart, elsewhere)

differ_at_most : {r s x : List ℕ} → Tells r x → Tells s x → DifferAtMost r s
differ_at_most of-r of-s = grind arith

-- ---- a Test keying

testing : (b : Bench) (n : ℕ) → (is_testing b n ≡ true) ↔ (TakesPart b n × ((last_field b n).ptt ≡ 5))
testing b n = grind (arith, is_part, part_is)

pub at_most : AtMost
at_most =
    record {
      seen_alike = λ r s small_r small-s long-r long-s e. differ_at_most (tells r small_r long-r) (rw (← e) at (tells s small-s long-s));
      testing = testing;
    }
