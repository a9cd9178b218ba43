-- Second witness of `packet` (from_tx, from_rx), `reader` (read_tx, read_rx), `writer` (encode, write), `seats`, `hearing`, `reporting`, `sending`: 01, What is turned
-- away: a row for each number, with its cause, next to a packet that is read and written with every byte of its head different, so that
-- byte order and bit places are fixed by this table. (33 is in TotalsBound; 19 to 23 and 33 for every packet: PacketTells; 13 to 18 and 24
-- to 26 for every call: Limits.)
use Rattle.std.specs.Prelude.{ℕ, ◌≡◌, true, false, List, [], ◌∷◌, ◌++◌, replicate, take, Option, None, Some}
use Rattle.packet.specs.Refusals.{Answer, accepted, refused}
use Rattle.reader.specs.Reading.{read_tx, read_rx}
use Rattle.writer.specs.Writing.{encode, write}
use Rattle.packet.specs.declared.message.Tx.{Tx}
use Rattle.packet.specs.declared.message.Rx.{Rx}
use Rattle.packet.specs.Messages.{from_tx, from_rx}
use Rattle.packet.specs.declared.message.Side.TheVariants.{Main, Standby}
use Rattle.packet.specs.declared.message.Side.{Side}
use Rattle.record.specs.Record.{fresh_bench}
use Rattle.bench.specs.Step.{Call, opening, closing, packet, tick, report, side, totals, Said, keeping, after}
use Rattle.record.specs.declared.setup.Setup.{Setup}
use Rattle.seats.specs.declared.opening.CallType.{CallType}
use Rattle.seats.specs.declared.opening.CallType.TheVariants.{Idle, RxOnly, TxRx, Coupling}

-- the head, with its first two bytes; a word count; words
abbrev pub headed : (first second : ℕ) → List ℕ
headed first second = first ∷ second ∷ 0x01 ∷ 0x02 ∷ 0x03 ∷ 0x04 ∷ 0x05 ∷ 0x06 ∷ 0x07 ∷ 0x08 ∷ 0x09 ∷ 0x0A ∷ []

abbrev pub worded : (first second : ℕ) → List ℕ
worded first second = headed 0x90 0x7B ++ 0x01 ∷ 0x67 ∷ 0x00 ∷ 0x01 ∷ first ∷ second ∷ 0x00 ∷ 0x00 ∷ []

-- Normal, id 2, muted
abbrev pub fine : List ℕ
fine = worded 0x20 0xA0

abbrev pub fine_says : Tx
fine_says =
    record { sequence = 258; timestamp = 50595078; ssrc = 117967114; ptt = 1; id = 2; pm = true; ptts = false; climax = None; side = None }

-- Every field set, no two bits alike: Priority, id 45, muted, a delay of 37, standby; and of RX with SQU and SCT, quality 13 by C/N, main.
abbrev pub full_tx : List ℕ
full_tx = headed 0x90 0x7B ++ 0x01 ∷ 0x67 ∷ 0x00 ∷ 0x02 ∷ 0x6B ∷ 0x61 ∷ 0x21 ∷ 0xA5 ∷ 0x51 ∷ 0x80 ∷ 0x00 ∷ 0x00 ∷ []

abbrev pub full_tx_says : Tx
full_tx_says =
    record { sequence = 258; timestamp = 50595078; ssrc = 117967114; ptt = 3; id = 45; pm = true; ptts = false; climax = Some 37; side = Some Standby }

abbrev pub full_rx : List ℕ
full_rx = headed 0x90 0x7B ++ 0x01 ∷ 0x67 ∷ 0x00 ∷ 0x02 ∷ 0x7B ∷ 0x69 ∷ 0x11 ∷ 0x6A ∷ 0x51 ∷ 0x00 ∷ 0x00 ∷ 0x00 ∷ []

abbrev pub full_rx_says : Rx
full_rx_says =
    record {
      sequence = 258;
      timestamp = 50595078;
      ssrc = 117967114;
      ptt = 3;
      squ = true;
      id = 45;
      pm = true;
      ptts = false;
      sct = true;
      sqi = Some (record { quality = 13; method = 2 });
      side = Some Main;
    }

-- seat 8 is a lesson seat; a single radio (kind 0), lockout, interruption
abbrev pub school : Setup
school = record { lesson = replicate 7 false ++ true ∷ []; ext = 0x0167; kind = 0; equal_summation = false; coupling_summation = false }

abbrev pub opens : (n : ℕ) → CallType → (period multiplier : ℕ) → Call
opens n call period multiplier = opening n (record { call = call; period = period; multiplier = multiplier; ssrc = 7; sequence = 1 })

-- a packet without audio for seat n: its number, SSRC, PTT type, ptt-id and side item
abbrev pub sends : (n sequence ssrc ptt id : ℕ) → Option Side → Call
sends n sequence ssrc ptt id s =
    packet n (encode 0x0167 (from_tx (record { sequence = sequence; timestamp = 0; ssrc = ssrc; ptt = ptt; id = id; pm = false; ptts = false; climax = None; side = s })) [])

abbrev pub answer_of : List Call → Call → Answer Said
answer_of run c = (keeping (after keeping (fresh_bench school) run) c).answer

-- A row: bytes that the reader, and a bench whose seat 2 is open, turn away; or calls, and then one that is turned away.
pub data Row : Type 0 where
  bytes : (number cause : ℕ) → List ℕ → Row
  calls : (number cause : ℕ) → List Call → Call → Row

abbrev pub RowHolds : Row → Type 0
RowHolds (bytes k cause p) = (read_tx 0x0167 p ≡ refused k cause) × (answer_of (opens 2 TxRx 200 10 ∷ []) (packet 2 p) ≡ refused k cause)
RowHolds (calls k cause run c) = answer_of run c ≡ refused k cause

abbrev pub AllRows : List Row → Type 0
AllRows [] = Unit {0}
AllRows (r ∷ rs) = RowHolds r × AllRows rs

abbrev pub open2 : List Call
open2 = opens 2 TxRx 200 10 ∷ []

abbrev pub heard2 : List Call
heard2 = opens 2 TxRx 200 10 ∷ sends 2 10 5 1 2 None ∷ []

abbrev pub rows : List Row
rows =
    bytes 1 0 (take 11 fine)
    ∷ bytes 2 0 (headed 0x50 0x7B ++ 0x01 ∷ 0x67 ∷ 0x00 ∷ 0x01 ∷ 0x20 ∷ 0xA0 ∷ 0x00 ∷ 0x00 ∷ [])
    ∷ bytes 3 0 (headed 0xB0 0x7B ++ 0x01 ∷ 0x67 ∷ 0x00 ∷ 0x01 ∷ 0x20 ∷ 0xA0 ∷ 0x00 ∷ 0x00 ∷ [])
    ∷ bytes 3 0 (headed 0x90 0xFB ++ 0x01 ∷ 0x67 ∷ 0x00 ∷ 0x01 ∷ 0x20 ∷ 0xA0 ∷ 0x00 ∷ 0x00 ∷ [])
    ∷ bytes 4 0 (headed 0x80 0x7B ++ 0x01 ∷ 0x67 ∷ 0x00 ∷ 0x01 ∷ 0x20 ∷ 0xA0 ∷ 0x00 ∷ 0x00 ∷ [])
    ∷ bytes 5 0 (headed 0x90 0x7A ++ 0x01 ∷ 0x67 ∷ 0x00 ∷ 0x01 ∷ 0x20 ∷ 0xA0 ∷ 0x00 ∷ 0x00 ∷ [])
    ∷ bytes 6 0 (take 15 fine)
    -- one CSRC word: the head of the extension ends at byte 20
    ∷ bytes 6 0 (headed 0x91 0x7B ++ 0x00 ∷ 0x00 ∷ 0x00 ∷ 0x00 ∷ 0x01 ∷ 0x67 ∷ 0x00 ∷ [])
    ∷ bytes 7 0 (headed 0x90 0x7B ++ 0x67 ∷ 0x01 ∷ 0x00 ∷ 0x01 ∷ 0x20 ∷ 0xA0 ∷ 0x00 ∷ 0x00 ∷ [])
    ∷ bytes 8 0 (headed 0x90 0x7B ++ 0x01 ∷ 0x67 ∷ 0x00 ∷ 0x00 ∷ 0x20 ∷ 0xA0 ∷ 0x00 ∷ 0x00 ∷ [])
    ∷ bytes 8 0 (headed 0x90 0x7B ++ 0x01 ∷ 0x67 ∷ 0x00 ∷ 0x10 ∷ 0x20 ∷ 0xA0 ∷ replicate 62 0x00)
    ∷ bytes 9 0 (take 19 fine)
    -- PTT types 6 and 7; SQU; the three reserved bits
    ∷ bytes 10 2012 (worded 0xC0 0xA0)
    ∷ bytes 10 2012 (worded 0xE0 0xA0)
    ∷ bytes 10 2012 (worded 0x30 0xA0)
    ∷ bytes 10 2012 (worded 0x20 0xA8)
    ∷ bytes 10 2012 (worded 0x20 0xA4)
    ∷ bytes 10 2012 (worded 0x20 0xA2)
    -- X without an item; X clear and a byte that is not zero; an SQI item; length 2; a side other than 00 and 80
    ∷ bytes 11 2012 (worded 0x20 0xA1)
    ∷ bytes 11 2012 (headed 0x90 0x7B ++ 0x01 ∷ 0x67 ∷ 0x00 ∷ 0x01 ∷ 0x20 ∷ 0xA0 ∷ 0x00 ∷ 0x01 ∷ [])
    ∷ bytes 11 2012 (headed 0x90 0x7B ++ 0x01 ∷ 0x67 ∷ 0x00 ∷ 0x01 ∷ 0x20 ∷ 0xA1 ∷ 0x11 ∷ 0x38 ∷ [])
    ∷ bytes 11 2012 (headed 0x90 0x7B ++ 0x01 ∷ 0x67 ∷ 0x00 ∷ 0x02 ∷ 0x20 ∷ 0xA1 ∷ 0x52 ∷ 0x80 ∷ 0x00 ∷ 0x00 ∷ 0x00 ∷ 0x00 ∷ [])
    ∷ bytes 11 2012 (headed 0x90 0x7B ++ 0x01 ∷ 0x67 ∷ 0x00 ∷ 0x01 ∷ 0x20 ∷ 0xA1 ∷ 0x51 ∷ 0x01 ∷ [])
    ∷ bytes 12 0 (fine ++ 0xD5 ∷ [])
    ∷ bytes 12 0 (headed 0x90 0x08 ++ 0x01 ∷ 0x67 ∷ 0x00 ∷ 0x01 ∷ 0x20 ∷ 0xA0 ∷ 0x00 ∷ 0x00 ∷ replicate 81 0xD5)
    ∷ calls 13 0 open2 (packet 0 fine)
    ∷ calls 13 0 open2 (packet 9 fine)
    ∷ calls 13 0 [] (closing 9)
    ∷ calls 14 0 open2 (packet 1 fine)
    ∷ calls 14 0 [] (totals 1)
    ∷ calls 15 0 open2 (opens 2 TxRx 200 10)
    ∷ calls 16 0 [] (opens 2 TxRx 19 10)
    ∷ calls 16 0 [] (opens 2 TxRx 1001 10)
    ∷ calls 16 0 [] (opens 2 TxRx 200 1)
    ∷ calls 16 0 [] (opens 2 TxRx 200 51)
    ∷ calls 17 0 [] (opens 8 Coupling 200 10)
    ∷ calls 18 2005 (opens 1 Coupling 200 10 ∷ []) (opens 2 Coupling 200 10)
    ∷ calls 19 0 heard2 (sends 2 11 6 1 2 None)
    ∷ calls 20 0 heard2 (sends 2 10 5 1 2 None)
    ∷ calls 20 0 heard2 (sends 2 32778 5 1 2 None)
    ∷ calls 21 0 (opens 2 Idle 200 10 ∷ []) (sends 2 1 5 1 0 None)
    ∷ calls 21 0 (opens 2 RxOnly 200 10 ∷ []) (sends 2 1 5 1 0 None)
    ∷ calls 21 0 open2 (sends 2 1 5 2 2 None)
    ∷ calls 21 0 (opens 8 TxRx 200 10 ∷ []) (sends 8 1 5 1 8 None)
    ∷ calls 22 0 open2 (sends 2 1 5 1 3 None)
    ∷ calls 23 0 open2 (sends 2 1 5 1 2 (Some Main))
    ∷ calls 23 0 [] (side true)
    ∷ calls 24 0 [] (tick 1001 0 208)
    ∷ calls 25 0 open2 (report 2 0 (replicate 80 0xD5) 512)
    ∷ calls 25 0 open2 (report 2 0 (replicate 81 0xD5) 512)
    ∷ calls 26 0 open2 (report 2 0 [] 19)
    ∷ calls 26 0 [] (tick 1000 0 207)
    ∷ []

pub record EachRefusal : Type 0 where
  pub reads : read_tx 0x0167 fine ≡ accepted fine_says
  pub writes : encode 0x0167 (from_tx fine_says) [] ≡ fine
  pub reads_tx : read_tx 0x0167 full_tx ≡ accepted full_tx_says
  pub writes_tx : encode 0x0167 (from_tx full_tx_says) [] ≡ full_tx
  pub reads_rx : read_rx 0x0167 full_rx ≡ accepted full_rx_says
  pub writes_rx : encode 0x0167 (from_rx full_rx_says) [] ≡ full_rx
  pub turned_away : AllRows rows
  -- 27: a ptt-id of seven bits
  pub unwritable : write 0x0167 (from_tx (record { sequence = 258; timestamp = 0; ssrc = 5; ptt = 1; id = 64; pm = true; ptts = false; climax = None; side = None })) [] 512
      ≡ refused 27 0
