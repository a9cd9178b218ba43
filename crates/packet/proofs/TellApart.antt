-- The numbers tell all refusals apart, so that a promise about an answer's number leaves one answer.
use Prim.Native.Nat.{ℕ}
use mathlib.Core.Path.{◌≡◌, refl, ap, sym, ◌∙◌}
use mathlib.Core.Bool.{cond}
use lib.Dec.{eqb}
use Rattle.packet.specs.Refusals.{number_of, cause_of, accepted, refusal, answer_of}
use Rattle.packet.specs.declared.refusal.Refusal.{Refusal}
use Rattle.packet.specs.declared.refusal.Refusal.TheVariants.{TooShort, WrongVersion, PaddingOrMarker, NoExtension, PayloadType, ExtensionCut, ExtensionType, WordCount, WordsCut, FieldRule, ItemRule, PayloadLength, NoSuchSeat, SeatNotOpen, SeatOpenAlready, PeriodOrMultiplier, LessonCoupling, CouplingTaken, OtherSsrc, NotAfterLast, KeyingNotAllowed, OtherId, SideNotAllowed, ElapsedTooLong, ReportAudio, BufferTooShort, UnwritableValue, TotalTooLarge}
use Rattle.std.specs.Prelude.{Result, Ok, Err}
use Rattle.packet.proofs.Judged.{never}

-- the refusal of a number
named : ℕ → Refusal
named n =
    cond (eqb n 1) TooShort
    (cond (eqb n 2) WrongVersion
    (cond (eqb n 3) PaddingOrMarker
    (cond (eqb n 4) NoExtension
    (cond (eqb n 5) PayloadType
    (cond (eqb n 6) ExtensionCut
    (cond (eqb n 7) ExtensionType
    (cond (eqb n 8) WordCount
    (cond (eqb n 9) WordsCut
    (cond (eqb n 10) FieldRule
    (cond (eqb n 11) ItemRule
    (cond (eqb n 12) PayloadLength
    (cond (eqb n 13) NoSuchSeat
    (cond (eqb n 14) SeatNotOpen
    (cond (eqb n 15) SeatOpenAlready
    (cond (eqb n 16) PeriodOrMultiplier
    (cond (eqb n 17) LessonCoupling
    (cond (eqb n 18) CouplingTaken
    (cond (eqb n 19) OtherSsrc
    (cond (eqb n 20) NotAfterLast
    (cond (eqb n 21) KeyingNotAllowed
    (cond (eqb n 22) OtherId
    (cond (eqb n 23) SideNotAllowed
    (cond (eqb n 24) ElapsedTooLong
    (cond (eqb n 25) ReportAudio
    (cond (eqb n 26) BufferTooShort
    (cond (eqb n 27) UnwritableValue
    TotalTooLarge))))))))))))))))))))))))))

named_back : (r : Refusal) → named (number_of r) ≡ r
unfolding named
named_back TooShort = refl
named_back WrongVersion = refl
named_back PaddingOrMarker = refl
named_back NoExtension = refl
named_back PayloadType = refl
named_back ExtensionCut = refl
named_back ExtensionType = refl
named_back WordCount = refl
named_back WordsCut = refl
named_back FieldRule = refl
named_back ItemRule = refl
named_back PayloadLength = refl
named_back NoSuchSeat = refl
named_back SeatNotOpen = refl
named_back SeatOpenAlready = refl
named_back PeriodOrMultiplier = refl
named_back LessonCoupling = refl
named_back CouplingTaken = refl
named_back OtherSsrc = refl
named_back NotAfterLast = refl
named_back KeyingNotAllowed = refl
named_back OtherId = refl
named_back SideNotAllowed = refl
named_back ElapsedTooLong = refl
named_back ReportAudio = refl
named_back BufferTooShort = refl
named_back UnwritableValue = refl
named_back TotalTooLarge = refl

pub number_tells : (r s : Refusal) → number_of r ≡ number_of s → r ≡ s
number_tells r s e = sym (named_back r) ∙ ap named e ∙ named_back s

pub refusal_tells : {A : Type 0} (r s : Refusal) → refusal {A = A} r ≡ refusal s → r ≡ s
refusal_tells r s e = number_tells r s (cc)

pub not_refused : {A : Type 0} (a : A) (r : Refusal) → accepted a ≡ refusal r → ⊥
not_refused a r e = never a (number_of r) (cause_of (number_of r)) e

-- so an answer of the code, as 01 writes it, leaves one
pub answer_tells : {A : Type 0} (a b : Result A Refusal) → answer_of a ≡ answer_of b → a ≡ b
answer_tells (Ok a) (Ok b) e = ap Ok (cc)
answer_tells (Ok a) (Err r) e = absurd (not_refused a r e)
answer_tells (Err r) (Ok b) e = absurd (not_refused b r (sym e))
answer_tells (Err r) (Err s) e = ap Err (refusal_tells r s e)
