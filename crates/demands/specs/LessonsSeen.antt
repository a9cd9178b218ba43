-- Demand 3's exceptions do occur: two runs, alike but for a lesson seat, in which live seats see that seat's Test keying. And
-- a live keying above Test wins over a lesson keying that began first.
use Rattle.std.specs.Prelude.{ℕ, ◌≡◌, Bool, true, false, List, [], ◌∷◌, drop, replicate, None}
use Rattle.packet.specs.Packet.{normal, test}
use Rattle.packet.specs.Refusals.{Answer, accepted}
use Rattle.writer.specs.Writing.{encode}
use Rattle.packet.specs.declared.message.Tx.{Tx}
use Rattle.packet.specs.Messages.{from_tx}
use Rattle.record.specs.Kind.{kind_code}
use Rattle.record.specs.Record.{seat_numbers, fresh_bench}
use Rattle.bench.specs.Step.{Call, opening, packet, report, Said, heard, written, keeping, after}
use Rattle.record.specs.declared.kind.Kind.TheVariants.{Single}
use Rattle.record.specs.declared.setup.Setup.{Setup}
use Rattle.seats.specs.declared.opening.CallType.TheVariants.{TxRx}
use Rattle.demands.specs.Examples.{around}
use Rattle.demands.specs.Apart.{without_lessons, live_above_test, blotted}

-- seat 8 is the lesson seat; a single radio, lockout, interruption
abbrev pub lab : Setup
lab =
    record {
      lesson = false ∷ false ∷ false ∷ false ∷ false ∷ false ∷ false ∷ true ∷ [];
      ext = 0x0167;
      kind = kind_code Single;
      equal_summation = false;
      coupling_summation = false;
    }

abbrev pub enters : (n : ℕ) → Call
enters n = opening n (record { call = TxRx; period = 20; multiplier = 2; ssrc = 7; sequence = 1 })

abbrev pub voice : List ℕ
voice = replicate 80 0xD5

-- a packet with audio
abbrev pub keying : (n ptt sequence : ℕ) (ptts : Bool) → Tx
keying n ptt sequence ptts =
    record {
      sequence = sequence;
      timestamp = 0;
      ssrc = n;
      ptt = ptt;
      id = n;
      pm = false;
      ptts = ptts;
      climax = None;
      side = None;
    }

abbrev pub keys : (n ptt sequence : ℕ) → Call
keys n ptt sequence = packet n (encode 0x0167 (from_tx (keying n ptt sequence false)) voice)

abbrev pub keys_ptts : (n ptt sequence : ℕ) → Call
keys_ptts n ptt sequence = packet n (encode 0x0167 (from_tx (keying n ptt sequence true)) voice)

abbrev pub asked : (n : ℕ) → Call
asked n = report n 0 [] 20

-- a report while nobody is on the air and no signal is received
abbrev pub quiet_report : (sequence : ℕ) → List ℕ
quiet_report sequence = 0x90 ∷ 0x7B ∷ 0 ∷ sequence ∷ drop 4 (around (0 ∷ 0 ∷ 0 ∷ 0 ∷ []))

abbrev pub with_lesson : List Call
with_lesson = enters 1 ∷ enters 8 ∷ keys 8 test 1 ∷ []

abbrev pub without_lesson : List Call
without_lesson = enters 1 ∷ []

abbrev pub lesson_first : List Call
lesson_first = enters 1 ∷ enters 8 ∷ keys 8 test 1 ∷ keys 1 normal 1 ∷ []

-- what a packet with audio answers while main is in use: sent, or not
abbrev pub sounds : (missing : ℕ) (reply : Bool) → Answer Said
sounds missing reply = accepted (heard (record { missing = missing; reply = reply; standby = false; sent = true }) voice)

abbrev pub silent : (missing : ℕ) (reply : Bool) → Answer Said
silent missing reply = accepted (heard (record { missing = missing; reply = reply; standby = false; sent = false }) [])

abbrev pub answer : List Call → Call → Answer Said
answer run c = (keeping (after keeping (fresh_bench lab) run) c).answer

pub record LessonsSeen : Type 0 where
  -- the bits that may differ: 0 to 2, 4 to 9 and 11
  pub blots : blotted (around (0xFF ∷ 0xFF ∷ 0xFF ∷ 0xFF ∷ [])) ≡ around (0x10 ∷ 0x2F ∷ 0xFF ∷ 0xFF ∷ [])
  pub alike : without_lessons lab with_lesson ≡ without_lessons lab without_lesson
  -- "whether a Test keying is on the air": live seat 1 is told Test, id 8, or off
  pub seen : answer with_lesson (asked 1) ≡ accepted (written (around (0xA2 ∷ 0x00 ∷ 0x00 ∷ 0x00 ∷ [])))
  pub unseen : answer without_lesson (asked 1) ≡ accepted (written (around (0x00 ∷ 0x00 ∷ 0x00 ∷ 0x00 ∷ [])))
  pub seen_ptts : answer (enters 1 ∷ enters 8 ∷ keys_ptts 8 test 1 ∷ []) (asked 1) ≡ accepted (written (around (0xA2 ∷ 0x10 ∷ 0x00 ∷ 0x00 ∷ [])))
  -- ".. and its audio sent": live seat 1 keys Test and is locked out, or sent
  pub locked_out : answer with_lesson (keys 1 test 1) ≡ silent 0 true
  pub let_through : answer without_lesson (keys 1 test 1) ≡ sounds 0 true
  -- live seat 1 keys Normal: it is sent, the lesson seat that was on the air is no more, and 1 is told Normal, id 1
  pub wins : answer with_lesson (keys 1 normal 1) ≡ sounds 0 true
  pub above : live_above_test (after keeping (fresh_bench lab) lesson_first) seat_numbers ≡ true
  pub silenced : answer lesson_first (keys 8 test 2) ≡ silent 0 false
  pub is_told : answer lesson_first (asked 1) ≡ accepted (written (around (0x20 ∷ 0x40 ∷ 0x00 ∷ 0x00 ∷ [])))
