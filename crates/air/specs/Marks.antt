-- For proofs alone, what the private functions find: each seat of the order with its rank, and a set of seats as eight marks.
-- proofs/AirFound.antt shows that it is what Air says.
use Rattle.std.specs.Prelude.{ℕ, ◌+◌, Bool, true, false, cond, not, ◌&&◌, ◌||◌, eqb, ltb, leb, get_or}
use mathlib.Core.List.{List, [], ◌∷◌, map, foldl}
use Rattle.base.specs.Lists.{how_many}
use Rattle.record.specs.Record.{seat_numbers, closed_seat, seat_of, with_entry}
use Rattle.air.specs.Air.{rank, coupling_rank, the_first, among}
use Rattle.record.specs.declared.seat.Seat.{Seat}
use Rattle.air.specs.declared.air.Ranked.{Ranked}

-- The rank at which a seat takes part, 0 if it takes none; with PTT off its rank is 0 anyway.
unfoldable pub standing : (healthy : Bool) → Seat → ℕ
standing healthy s = cond (healthy && s.opened && not s.heard.field.pm) (rank s.heard.field.ptt) 0

-- A seat of the order, with that rank.
unfoldable pub with_rank : (healthy : Bool) → List Seat → (n : ℕ) → Ranked
with_rank healthy seats n = record { seat = n; rank = standing healthy (seat_of seats n) }

-- The seats at a rank, in the order.
unfoldable pub seats_at : ℕ → List Ranked → List ℕ
seats_at r [] = []
seats_at r (k ∷ ks) = cond (eqb k.rank r) (k.seat ∷ seats_at r ks) (seats_at r ks)

-- A set of seats as marks, seat n at place n - 1; what is no seat's number leaves no mark.
unfoldable pub marks_of : List ℕ → List Bool
marks_of ns = map (among ns) seat_numbers

-- Each of these seats marked too.
unfoldable pub mark_all : List Bool → List ℕ → List Bool
mark_all marks ns = foldl (λ more n. with_entry more n true) marks ns

unfoldable pub leaders_at : (equal_summation : Bool) → (top : ℕ) → List Ranked → List ℕ
leaders_at equal_summation top ks = cond (eqb top 0) [] (cond equal_summation (seats_at top ks) (the_first (seats_at top ks)))

unfoldable pub added_at : (coupling_summation : Bool) → (top : ℕ) → List Ranked → List ℕ
added_at coupling_summation top ks = cond (coupling_summation && ltb coupling_rank top) (seats_at coupling_rank ks) []

-- The smallest number that is marked, the first mark being n's.
unfoldable pub smallest_from : (n : ℕ) → List Bool → ℕ
smallest_from n [] = 0
smallest_from n (m ∷ marks) = cond m n (smallest_from (n + 1) marks)

-- A marked seat last sent PTTS, the first mark being that of place i.
unfoldable pub sends_from : (i : ℕ) → List Seat → List Bool → Bool
sends_from i seats [] = false
sends_from i seats (m ∷ marks) = (m && (get_or seats i closed_seat).heard.field.ptts) || sends_from (i + 1) seats marks

unfoldable pub ptts_shown : List Seat → List Bool → Bool
ptts_shown seats on = leb 2 (how_many (λ m. m) on) || sends_from 0 seats on
