-- 01, What is turned away: "Each refusal returns its number and cause (0 unless shown)."
use Rattle.std.specs.Prelude.{ℕ, ◌≡◌, Bool, true, false, cond, ◌||◌, List, [], ◌∷◌, ◌⊎◌, eqb, Result, Ok, Err}
use Rattle.packet.specs.declared.refusal.Refusal.{Refusal}
use Rattle.packet.specs.declared.refusal.Refusal.TheVariants.{TooShort, WrongVersion, PaddingOrMarker, NoExtension, PayloadType, ExtensionCut, ExtensionType, WordCount, WordsCut, FieldRule, ItemRule, PayloadLength, NoSuchSeat, SeatNotOpen, SeatOpenAlready, PeriodOrMultiplier, LessonCoupling, CouplingTaken, OtherSsrc, NotAfterLast, KeyingNotAllowed, OtherId, SideNotAllowed, ElapsedTooLong, ReportAudio, BufferTooShort, UnwritableValue, TotalTooLarge}

-- The number of each refusal in 01's table, and in 02.
abbrev pub number_of : Refusal → ℕ
number_of TooShort = 1
number_of WrongVersion = 2
number_of PaddingOrMarker = 3
number_of NoExtension = 4
number_of PayloadType = 5
number_of ExtensionCut = 6
number_of ExtensionType = 7
number_of WordCount = 8
number_of WordsCut = 9
number_of FieldRule = 10
number_of ItemRule = 11
number_of PayloadLength = 12
number_of NoSuchSeat = 13
number_of SeatNotOpen = 14
number_of SeatOpenAlready = 15
number_of PeriodOrMultiplier = 16
number_of LessonCoupling = 17
number_of CouplingTaken = 18
number_of OtherSsrc = 19
number_of NotAfterLast = 20
number_of KeyingNotAllowed = 21
number_of OtherId = 22
number_of SideNotAllowed = 23
number_of ElapsedTooLong = 24
number_of ReportAudio = 25
number_of BufferTooShort = 26
number_of UnwritableValue = 27
number_of TotalTooLarge = 33

-- "10 .. (cause 2012)", "11 .. (cause 2012)", "18 .. (cause 2005)"
abbrev pub cause_of : ℕ → ℕ
cause_of n = cond (eqb n 10 || eqb n 11) 2012 (cond (eqb n 18) 2005 0)

-- A line of the table: a refusal's number, and whether its case holds.
pub record Case : Type 0 where
  pub number : ℕ
  pub holds : Bool

infix 68 ◌if◌
abbrev pub ◌if◌ : ℕ → Bool → Case
n if test = record { number = n; holds = test }

-- What a call says: a value, or a refusal by its number and cause.
pub data Answer (A : Type 0) : Type 0 where
  accepted : A → Answer A
  refused : (number cause : ℕ) → Answer A

-- The first case that holds refuses; where none does, the value is the answer.
abbrev pub judged : {A : Type 0} → List Case → A → Answer A
judged [] a = accepted a
judged (c ∷ cs) a = cond c.holds (refused c.number (cause_of c.number)) (judged cs a)

-- The same answer of a value made from the value.
abbrev pub mapped : {A B : Type 0} → (A → B) → Answer A → Answer B
mapped f (accepted a) = accepted (f a)
mapped f (refused n c) = refused n c

-- A refusal of the code, as 01 writes it.
abbrev pub refusal : {A : Type 0} → Refusal → Answer A
refusal r = refused (number_of r) (cause_of (number_of r))

-- An answer of the code, as 01 writes it.
abbrev pub answer_of : {A : Type 0} → Result A Refusal → Answer A
answer_of (Ok a) = accepted a
answer_of (Err r) = refusal r

-- n's case holds and no earlier case does
abbrev pub FirstCase : ℕ → List Case → Type 0
FirstCase n [] = ⊥
FirstCase n (c ∷ cs) = ((c.holds ≡ true) × (c.number ≡ n)) ⊎ ((c.holds ≡ false) × FirstCase n cs)

-- no case holds
abbrev pub NoCase : List Case → Type 0
NoCase [] = Unit {0}
NoCase (c ∷ cs) = (c.holds ≡ false) × NoCase cs
