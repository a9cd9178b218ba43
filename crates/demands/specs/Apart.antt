-- Demand 3: "Take two runs from one set-up, alike in every call except those naming a lesson seat. While a healthy
-- transmitter has an unmuted live keying above Test, each report to a live seat is the same bytes in both, and no lesson
-- audio is sent. At other times such reports differ at most in PTT type, ptt-id and PTTS. All other answers about live
-- seats are the same, except whether a Test keying is on the air and its audio sent."
use Rattle.std.specs.Prelude.{ℕ, ◌-◌, ◌≡◌, Bool, true, false, cond, not, ◌&&◌, ◌||◌, List, [], ◌∷◌, ◌++◌, map, ltb, eqb, take, drop}
use Rattle.base.specs.Bytes.{number16, bytes16, placed}
use Rattle.packet.specs.Packet.{ptt_type, ptt_id, ptts, test}
use Rattle.packet.specs.Refusals.{Answer, accepted, refused, mapped}
use Rattle.record.specs.Record.{seat_numbers, entry_of, seat_of, lesson, fresh_bench}
use Rattle.air.specs.Air.{rank, takes_part, bench_air}
use Rattle.hearing.specs.Hearing.{message_in}
use Rattle.bench.specs.Step.{Call, opening, closing, packet, tick, report, received, transmitter, side, totals, Said, done, own, heard, ticked, written, totalled, Outcome, Machine, keeping, after}
use Rattle.record.specs.declared.setup.Setup.{Setup}
use Rattle.record.specs.declared.shown.Air.{Air}
use Rattle.record.specs.declared.whole.Bench.{Bench}

-- The seat that a call names, 0 where it names none.
unfoldable pub named : Call → ℕ
named (opening n r) = n
named (closing n) = n
named (packet n p) = n
named (report n timestamp sound room) = n
named (totals n) = n
named (tick ms timestamp room) = 0
named (received signals level) = 0
named (transmitter healthy) = 0
named (side standby) = 0

unfoldable pub without_lessons : Setup → List Call → List Call
without_lessons setup [] = []
without_lessons setup (c ∷ cs) = cond (lesson setup (named c)) (without_lessons setup cs) (c ∷ without_lessons setup cs)

-- Whether a call keys Test: a packet of that PTT type, unmuted.
unfoldable pub keys_test : Call → Bool
keys_test (packet n p) = eqb (message_in p).ptt test && not (message_in p).pm
keys_test (opening n r) = false
keys_test (closing n) = false
keys_test (tick ms timestamp room) = false
keys_test (report n timestamp sound room) = false
keys_test (received signals level) = false
keys_test (transmitter healthy) = false
keys_test (side standby) = false
keys_test (totals n) = false

abbrev pub ptt_of : Bench → (n : ℕ) → ℕ
ptt_of b n = (seat_of b.seats n).heard.field.ptt

-- "a healthy transmitter has an unmuted live keying above Test": one of the seats has it. (takes_part: healthy, open, unmuted)
unfoldable pub live_above_test : Bench → (seats : List ℕ) → Bool
live_above_test b [] = false
live_above_test b (n ∷ ns) =
    (not (lesson b.setup n) && takes_part b.healthy (seat_of b.seats n) && ltb (rank test) (rank (ptt_of b n))) || live_above_test b ns

-- Whether a seat keys Test, as things stand.
abbrev pub is_testing : Bench → (n : ℕ) → Bool
is_testing b n = takes_part b.healthy (seat_of b.seats n) && eqb (ptt_of b n) test

-- "PTT type, ptt-id and PTTS" made 0 in a report's field, its bytes 16 and 17
unfoldable pub blotted : List ℕ → List ℕ
blotted r =
    let f = number16 r 16 in
    take 16 r ++ bytes16 (f - placed 16 0 3 (ptt_type f) - placed 16 4 6 (ptt_id f) - placed 16 11 1 (ptts f)) ++ drop 18 r

-- Of a report "While .." its bytes, "At other times" these blotted.
abbrev pub as_seen : (while : Bool) → (bytes : List ℕ) → List ℕ
as_seen while bytes = cond while bytes (blotted bytes)

-- a tick's flags, of live seats only
unfoldable pub among_live : Setup → List Bool → List Bool
among_live setup flags = map (λ n. not (lesson setup n) && entry_of false flags n) seat_numbers

-- and its records: 02, request 6: "Under demand 3 each live seat's record is compared by itself", as a report is. Those of lesson seats
-- may come and go, and with them the bytes used.
unfoldable pub records_seen : Setup → (while : Bool) → (records : List (List ℕ)) → List (List ℕ)
records_seen setup while records = map (λ n. cond (lesson setup n) [] (as_seen while (entry_of [] records n))) seat_numbers

-- What of an answer has to be the same: of reports what is said above, of "All other answers" everything, but at other times not whether
-- a packet that keys Test is sent, nor its audio.
unfoldable pub fixed : Setup → (while is_test : Bool) → Said → Said
fixed setup while is_test done = done
fixed setup while is_test (own id) = own id
fixed setup while is_test (heard h sound) =
    let open-to-lessons = is_test && not while in
    heard (record { missing = h.missing; reply = h.reply; standby = h.standby; sent = not open-to-lessons && h.sent }) (cond open-to-lessons [] sound)
fixed setup while is_test (ticked closed due records) = ticked (among_live setup closed) (among_live setup due) (records_seen setup while records)
fixed setup while is_test (written bytes) = written (as_seen while bytes)
fixed setup while is_test (totalled packets missing) = totalled packets missing

unfoldable pub compared : Setup → Call → Outcome → Answer Said
compared setup c o = mapped (fixed setup (live_above_test o.bench seat_numbers) (keys_test c)) o.answer

-- Whether an answer says that audio is sent, and the audio.
unfoldable pub audio_sent : Answer Said → Bool × List ℕ
audio_sent (accepted done) = (false, [])
audio_sent (accepted (own id)) = (false, [])
audio_sent (accepted (heard h sound)) = (h.sent, sound)
audio_sent (accepted (ticked closed due records)) = (false, [])
audio_sent (accepted (written bytes)) = (false, [])
audio_sent (accepted (totalled packets missing)) = (false, [])
audio_sent (refused n cause) = (false, [])

-- Of seat n, whether it is on the air, and whether it leads: is on the air at the top rank.
pub record SameOnAir (n : ℕ) (a b : Air) : Type 0 where
  pub on : entry_of false a.on n ≡ entry_of false b.on n
  pub leads : entry_of false a.leads n ≡ entry_of false b.leads n

-- The benches x and y after two such runs of a machine (keeping, below), and any call then: so every call in them, for its forerunners are such runs.
pub record Apart (machine : Machine) (setup : Setup) (x y : Bench) : Type 0 where
  -- "While ..": in both or in neither, before the call and after it
  pub together : live_above_test x seat_numbers ≡ live_above_test y seat_numbers
  pub together_after : (c : Call) → lesson setup (named c) ≡ false
      → live_above_test (machine x c).bench seat_numbers ≡ live_above_test (machine y c).bench seat_numbers
  pub same : (c : Call) → lesson setup (named c) ≡ false → compared setup c (machine x c) ≡ compared setup c (machine y c)
  -- ".. and no lesson audio is sent"
  pub no_lesson_audio : (n : ℕ) (p : List ℕ) → lesson setup n ≡ true → live_above_test (machine x (packet n p)).bench seat_numbers ≡ true
      → audio_sent (machine x (packet n p)).answer ≡ (false, [])
  -- "All other answers .. are the same, except whether a Test keying is on the air": so, at any time, of a live seat that does not key
  -- Test, who is on the air, by 01's sentences
  pub on_air : (n : ℕ) → lesson setup n ≡ false → is_testing x n ≡ false → SameOnAir n (bench_air x) (bench_air y)
  -- and as the record has it
  pub on_record : (n : ℕ) → lesson setup n ≡ false → is_testing x n ≡ false → SameOnAir n x.air y.air

abbrev pub LessonsApart : Type 0
LessonsApart = (setup : Setup) (xs ys : List Call) → without_lessons setup xs ≡ without_lessons setup ys
    → Apart keeping setup (after keeping (fresh_bench setup) xs) (after keeping (fresh_bench setup) ys)
