-- 01, Bench examples: "Marked P: to be proved, as one table under a single theorem."
-- 02, request 3: "01's quality cases change with it": levels here are in tenths of a dBm.
use Rattle.std.specs.Prelude.{ℕ, ◌/◌, ◌≡◌, Bool, true, false, List, [], ◌∷◌, length, ℤ, pos, neg_ℤ, Option, None, Some}
use Rattle.base.specs.Order.{late, missing}
use Rattle.packet.specs.Packet.{off, normal, emergency}
use Rattle.packet.specs.Quality.{quality}
use Rattle.packet.specs.Items.{rssi}
use Rattle.packet.specs.Refusals.{◌if◌, Answer, accepted, refused, judged}
use Rattle.reader.specs.Reading.{read_tx, read_rx}
use Rattle.writer.specs.Writing.{encode}
use Rattle.packet.specs.declared.message.Tx.{Tx}
use Rattle.packet.specs.declared.message.Rx.{Rx}
use Rattle.packet.specs.Messages.{from_tx, from_rx}
use Rattle.packet.specs.declared.message.Side.TheVariants.{Main, Standby}
use Rattle.packet.specs.declared.message.Sqi.{Sqi}
use Rattle.packet.specs.declared.message.Side.{Side}

-- One kind of line for each kind of example. "fields": the words of a packet and what they say. "quality": a level and
-- what it gives. "order": a sequence number, then another, and the answer with the packets missing.
pub data Example : Type 0 where
  tx : (words : List ℕ) → Tx → Example
  rx : (words : List ℕ) → Rx → Example
  level : (tenths : ℤ) (gives : ℕ) → Example
  order : (last new : ℕ) → Answer ℕ → Example

-- The words in 01's printed packet: R2S, extension type 0167, seq=1 ts=0 ssrc=7.
abbrev pub around : (words : List ℕ) → List ℕ
around words = 0x90 ∷ 0x7B ∷ 0 ∷ 1 ∷ 0 ∷ 0 ∷ 0 ∷ 0 ∷ 0 ∷ 0 ∷ 0 ∷ 7 ∷ 0x01 ∷ 0x67 ∷ 0 ∷ length words / 4 ∷ words

abbrev pub tx_says : (ptt id : ℕ) (pm ptts : Bool) → Option ℕ → Option Side → Tx
tx_says ptt id pm ptts c s =
    record { sequence = 1; timestamp = 0; ssrc = 7; ptt = ptt; id = id; pm = pm; ptts = ptts; climax = c; side = s }

abbrev pub rx_says : (ptt id : ℕ) (squ pm ptts sct : Bool) → Option Sqi → Option Side → Rx
rx_says ptt id squ pm ptts sct q s =
    record { sequence = 1; timestamp = 0; ssrc = 7; ptt = ptt; squ = squ; id = id; pm = pm; ptts = ptts; sct = sct; sqi = q; side = s }

-- a level below zero
abbrev pub minus : ℕ → ℤ
minus tenths = neg_ℤ (pos tenths)

-- The words read as the message, and the message is written with these words. The level gives that quality. After a
-- packet with the first number, one with the second is answered so: 20, or how many are missing.
abbrev pub Holds : Example → Type 0
Holds (tx words m) = (read_tx 0x0167 (around words) ≡ accepted m) × (encode 0x0167 (from_tx m) [] ≡ around words)
Holds (rx words m) = (read_rx 0x0167 (around words) ≡ accepted m) × (encode 0x0167 (from_rx m) [] ≡ around words)
Holds (level tenths gives) = quality tenths ≡ gives
Holds (order last new answer) = judged (20 if late true last new ∷ []) (missing true last new) ≡ answer

abbrev pub table : List Example
table =
    -- "Normal, id 2: 20 80 00 00"
    tx (0x20 ∷ 0x80 ∷ 0x00 ∷ 0x00 ∷ []) (tx_says normal 2 false false None None)
    -- "TX Emergency, id 61, PTTS, standby: 8F 51 51 80"
    ∷ tx (0x8F ∷ 0x51 ∷ 0x51 ∷ 0x80 ∷ []) (tx_says emergency 61 false true None (Some Standby))
    -- "Normal, id 2, delay 12 ms, main: 20 81 21 86 51 00 00 00"
    ∷ tx (0x20 ∷ 0x81 ∷ 0x21 ∷ 0x86 ∷ 0x51 ∷ 0x00 ∷ 0x00 ∷ 0x00 ∷ []) (tx_says normal 2 false false (Some (12 / 2)) (Some Main))
    -- "RX off, SQU, SCT, −85 dBm: 10 09 11 38", in tenths
    ∷ rx (0x10 ∷ 0x09 ∷ 0x11 ∷ 0x38 ∷ []) (rx_says off 0 true false false true (Some (record { quality = quality (minus 850); method = rssi })) None)
    -- "−101 gives 0, −99 gives 0, −98 gives 1, −71 gives 14, −70 gives 15.", in tenths
    ∷ level (minus 1010) 0
    ∷ level (minus 990) 0
    ∷ level (minus 980) 1
    ∷ level (minus 710) 14
    ∷ level (minus 700) 15
    -- around both ends, and the ends of the 16 bits
    ∷ level (minus 1001) 0
    ∷ level (minus 1000) 0
    ∷ level (minus 981) 0
    ∷ level (minus 701) 14
    ∷ level (minus 699) 15
    ∷ level (minus 680) 15
    ∷ level (minus 32768) 0
    ∷ level (pos 32767) 15
    -- "65535 then 0: none missing. 10 then 32777: 32766 missing. 10 then 32778: refused 20."
    ∷ order 65535 0 (accepted 0)
    ∷ order 10 32777 (accepted 32766)
    ∷ order 10 32778 (refused 20 0)
    ∷ []

-- The theorem: every line holds.
abbrev pub AllHold : List Example → Type 0
AllHold [] = Unit {0}
AllHold (e ∷ es) = Holds e × AllHold es

abbrev pub Examples : Type 0
Examples = AllHold table
