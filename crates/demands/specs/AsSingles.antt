-- 02, request 6: "Our sender asks who is due and then asks eight times. Merge the two". What the merged call writes, and the bench that it
-- leaves, are those of the old tick followed by single reports to the due seats, in rising order, each without audio.
use Rattle.std.specs.Prelude.{ℕ, suc, ◌≤◌, ◌≡◌, Bool, true, false, List, [], ◌∷◌, ◌++◌, length, drop}
use Rattle.packet.specs.Refusals.{NoCase, Answer, accepted, refused}
use Rattle.framing.specs.Framing.{framed}
use Rattle.seats.specs.Ticking.{due_seats}
use Rattle.sending.specs.Sending.{after_closings, tick_refusals, tick_buffer}
use Rattle.bench.specs.Step.{Call, tick, report, Said, done, own, heard, ticked, written, totalled, keeping, after}
use Rattle.record.specs.declared.whole.Bench.{Bench}

-- a report for each due seat, from seat n on, each with so much room
unfoldable pub singles : (timestamp room n : ℕ) → (due : List Bool) → List Call
singles timestamp room n [] = []
singles timestamp room n (true ∷ ds) = report n timestamp [] room ∷ singles timestamp room (suc n) ds
singles timestamp room n (false ∷ ds) = singles timestamp room (suc n) ds

-- what a call of them writes, behind its length
unfoldable pub frame_of : Answer Said → List ℕ
frame_of (accepted done) = []
frame_of (accepted (own id)) = []
frame_of (accepted (heard h sound)) = []
frame_of (accepted (ticked closed due records)) = []
frame_of (accepted (written bytes)) = framed bytes
frame_of (accepted (totalled packets missing)) = []
frame_of (refused n cause) = []

unfoldable pub frames_by : Bench → List Call → List ℕ
frames_by b [] = []
frames_by b (c ∷ cs) = frame_of (keeping b c).answer ++ frames_by (keeping b c).bench cs

-- after_closings is the bench that the old tick left: its seats as the ms left them, and its air right.
pub record LikeSingles (b : Bench) (ms timestamp room : ℕ) (buffer : List ℕ) : Type 0 where
  pub bytes : let sent = frames_by (after_closings b ms) (singles timestamp room 1 (due_seats b ms)) in
      tick_buffer b ms timestamp buffer ≡ sent ++ drop (length sent) buffer
  pub bench : (keeping b (tick ms timestamp (length buffer))).bench ≡ after keeping (after_closings b ms) (singles timestamp room 1 (due_seats b ms))

-- 24 bytes hold every report without audio, so that none of the single ones is refused.
abbrev pub AsSingles : Type 0
AsSingles = (b : Bench) (ms timestamp room : ℕ) (buffer : List ℕ) → length b.seats ≤ 8 → 24 ≤ room → NoCase (tick_refusals ms (length buffer))
    → LikeSingles b ms timestamp room buffer
