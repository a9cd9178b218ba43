-- Second witness of `air`: 01: "the seat whose present keying began first". Of every run: from its accepted calls when each seat's present
-- keying began, and that who began earlier stands earlier in the order (which is what lockout asks: OnTheAir, the_first_one). Nothing here
-- cites the definitions of crate `air`.
use Rattle.std.specs.Prelude.{ℕ, suc, ◌≤◌, ◌<◌, ◌≡◌, true, false, cond, ◌||◌, List, [], ◌∷◌, ◌↔◌, eqb}
use Rattle.packet.specs.declared.message.Tx.{Tx}
use Rattle.record.specs.Record.{seat_of, fresh_bench}
use Rattle.hearing.specs.Hearing.{message_in}
use Rattle.bench.specs.Step.{Call, opening, closing, packet, tick, report, received, transmitter, side, totals, keeping, after, accepted_calls}
use Rattle.record.specs.declared.setup.Setup.{Setup}
use Rattle.air.specs.InWords.{last_field, TakesPart, place_of, Leads}

-- A seat's present keying: its PTT type, 0 where there is none, and the number of the call at which it began.
pub record Spell : Type 0 where
  pub type : ℕ
  pub since : ℕ

-- after the i-th accepted call, a packet of its own: off or muted there is none; the same type goes on; another type begins
abbrev pub spell_heard : (i : ℕ) → Spell → Tx → Spell
spell_heard i now m = cond (m.pm || eqb m.ptt 0) (record { type = 0; since = i }) (cond (eqb m.ptt now.type) now (record { type = m.ptt; since = i }))

-- "A seat just opened has heard nothing"; every other call leaves it: "a transmitter fault doesn't restart it"
abbrev pub spell_after : (n i : ℕ) → Spell → Call → Spell
spell_after n i now (packet m p) = cond (eqb n m) (spell_heard i now (message_in p)) now
spell_after n i now (opening m r) = cond (eqb n m) (record { type = 0; since = i }) now
spell_after n i now (closing m) = now
spell_after n i now (tick ms timestamp room) = now
spell_after n i now (report m timestamp sound room) = now
spell_after n i now (received signals level) = now
spell_after n i now (transmitter healthy) = now
spell_after n i now (side standby) = now
spell_after n i now (totals m) = now

unfoldable pub spell_through : (n i : ℕ) → Spell → List Call → Spell
spell_through n i now [] = now
spell_through n i now (c ∷ cs) = spell_through n (suc i) (spell_after n i now c) cs

abbrev pub spell_of : (n : ℕ) → Setup → (run : List Call) → Spell
spell_of n setup run = spell_through n 1 (record { type = 0; since = 0 }) (accepted_calls keeping (fresh_bench setup) run)

pub record BeganFirst : Type 0 where
  -- "An open seat takes part if its last accepted packet since opening has PTT on and PM 0": from the calls, exactly the seats that have a keying
  pub takes_part : (setup : Setup) (run : List Call) (n : ℕ) → let b = after keeping (fresh_bench setup) run in
      TakesPart b n ↔ ((b.healthy ≡ true) × ((seat_of b.seats n).opened ≡ true) × (1 ≤ (spell_of n setup run).type))
  -- and they key what it keys
  pub keyed : (setup : Setup) (run : List Call) (n : ℕ) → let b = after keeping (fresh_bench setup) run in TakesPart b n → (spell_of n setup run).type ≡ (last_field b n).ptt
  -- and of two the one that began earlier stands before the other
  pub earlier : (setup : Setup) (run : List Call) (m n : ℕ) → let b = after keeping (fresh_bench setup) run in TakesPart b m → TakesPart b n
      → (spell_of m setup run).since < (spell_of n setup run).since → place_of m b.order < place_of n b.order
  -- So "lockout puts on the air the seat whose present keying began first".
  pub first : (setup : Setup) (run : List Call) (n : ℕ) → let b = after keeping (fresh_bench setup) run in
      setup.equal_summation ≡ false → Leads b n → (m : ℕ) → TakesPart b m → (last_field b m).ptt ≡ (last_field b n).ptt
      → (spell_of n setup run).since ≤ (spell_of m setup run).since
