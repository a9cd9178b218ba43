-- 01, Who is on the air, sentence by sentence.
use Rattle.std.specs.Prelude.{ℕ, max, Bool, false, cond, not, ◌&&◌, ◌||◌, List, [], ◌∷◌, ◌++◌, map, ltb, leb, eqb}
use Rattle.base.specs.Lists.{how_many}
use Rattle.packet.specs.Packet.{off, normal, coupling, priority, emergency, test, ptt_on}
use Rattle.record.specs.Record.{seat_numbers, seat_of, with_air}
use Rattle.record.specs.declared.setup.Setup.{Setup}
use Rattle.record.specs.declared.seat.Field.{Field}
use Rattle.record.specs.declared.seat.Seat.{Seat}
use Rattle.record.specs.declared.whole.Bench.{Bench}
use Rattle.record.specs.declared.shown.Air.{Air}

-- "Rank: Test, Coupling, Normal, Priority, Emergency, lowest first." 0 for off and for the reserved codes.
abbrev pub rank : (ptt : ℕ) → ℕ
rank ptt =
    cond (eqb ptt test) 1 (cond (eqb ptt coupling) 2 (cond (eqb ptt normal) 3 (cond (eqb ptt priority) 4 (cond (eqb ptt emergency) 5 0))))

abbrev pub coupling_rank : ℕ
coupling_rank = rank coupling

-- the PTT type of a rank, off for 0
abbrev pub type_of : (rank : ℕ) → ℕ
type_of r =
    cond (eqb r 1) test (cond (eqb r 2) coupling (cond (eqb r 3) normal (cond (eqb r 4) priority (cond (eqb r 5) emergency off))))

-- ".. has PTT on and PM 0"
abbrev pub keyed : Field → Bool
keyed f = ptt_on f.ptt && not f.pm

-- "An open seat takes part if its last accepted packet since opening has PTT on and PM 0; a closed seat never does.
-- If the transmitter is unhealthy, nobody does."
unfoldable pub takes_part : (healthy : Bool) → Seat → Bool
takes_part healthy s = healthy && s.opened && keyed s.heard.field

-- The participants, the one whose present keying began first in front: "the order in which present keyings began".
pub record Keying : Type 0 where
  pub seat : ℕ
  pub rank : ℕ

abbrev pub keying_of : List Seat → ℕ → Keying
keying_of seats n = record { seat = n; rank = rank (seat_of seats n).heard.field.ptt }

unfoldable pub keyings_of : (healthy : Bool) → List Seat → (order : List ℕ) → List Keying
keyings_of healthy seats [] = []
keyings_of healthy seats (n ∷ ns) =
    cond (takes_part healthy (seat_of seats n)) (keying_of seats n ∷ keyings_of healthy seats ns) (keyings_of healthy seats ns)

unfoldable pub keyings : Bench → List Keying
keyings b = keyings_of b.healthy b.seats b.order

-- "At the top rank, .."
unfoldable pub top_rank : List Keying → ℕ
top_rank [] = 0
top_rank (k ∷ ks) = max k.rank (top_rank ks)

unfoldable pub at_rank : ℕ → List Keying → List ℕ
at_rank r [] = []
at_rank r (k ∷ ks) = cond (eqb k.rank r) (k.seat ∷ at_rank r ks) (at_rank r ks)

abbrev pub the_first : List ℕ → List ℕ
the_first [] = []
the_first (n ∷ ns) = n ∷ []

-- ".. lockout puts on the air the seat whose present keying began first; summation, all of them."
unfoldable pub leaders : Setup → List Keying → List ℕ
leaders setup ks = cond setup.equal_summation (at_rank (top_rank ks) ks) (the_first (at_rank (top_rank ks) ks))

-- "With coupling summation a participant keyed Coupling is added when the top rank is above Coupling."
unfoldable pub added : Setup → List Keying → List ℕ
added setup ks = cond (setup.coupling_summation && ltb coupling_rank (top_rank ks)) (at_rank coupling_rank ks) []

unfoldable pub on_air : Setup → List Keying → List ℕ
on_air setup ks = leaders setup ks ++ added setup ks

unfoldable pub among : List ℕ → ℕ → Bool
among [] n = false
among (m ∷ ms) n = eqb m n || among ms n

-- the first of rising numbers that is in a set, so the smallest of the set; 0 if there is none
unfoldable pub smallest : List ℕ → (ns : List ℕ) → ℕ
smallest set [] = 0
smallest set (n ∷ ns) = cond (among set n) n (smallest set ns)

-- "or a seat on the air last sent PTTS 1"
unfoldable pub any_sends : List Seat → List ℕ → (ns : List ℕ) → Bool
any_sends seats set [] = false
any_sends seats set (n ∷ ns) = (among set n && (seat_of seats n).heard.field.ptts) || any_sends seats set ns

-- 01, Report to a seat: "PTT type: the top type, or off." "PTTS: 1 if two or more seats are on the air, or a seat on the
-- air last sent PTTS 1." And the id: "the smallest on the air at the top rank".
unfoldable pub air_of : Setup → List Seat → List Keying → Air
air_of setup seats ks =
    record {
      on = map (among (on_air setup ks)) seat_numbers;
      leads = map (among (leaders setup ks)) seat_numbers;
      id = smallest (leaders setup ks) seat_numbers;
      ptt = type_of (top_rank ks);
      ptts = leb 2 (how_many (among (on_air setup ks)) seat_numbers) || any_sends seats (on_air setup ks) seat_numbers;
    }

-- What is shown of the air of a bench.
unfoldable pub bench_air : Bench → Air
bench_air b = air_of b.setup b.seats (keyings b)

-- 02, request 5: "Keep the on_air seats and the top type in the bench record, right after every call". The bench with its air made right.
abbrev pub aired : Bench → Bench
aired b = with_air b (bench_air b)
