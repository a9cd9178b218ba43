-- 01: "A program reads one TX packet from standard input .. and prints one line." The lines, as bytes.
use Rattle.std.specs.Prelude.{ℕ, ◌≡◌, refl, false, cond, List, ◌++◌, eqb, length, Option, Some, None}
use Rattle.base.specs.Text.{text}
use Rattle.text.specs.Text.{digits, decimal, bit_text}
use Rattle.packet.specs.Packet.{payload}
use Rattle.packet.specs.Refusals.{Answer, accepted, refused}
use Rattle.reader.specs.Reading.{read_tx}
use Rattle.packet.specs.declared.message.Sqi.{Sqi}
use Rattle.packet.specs.declared.message.Side.{Side}
use Rattle.packet.specs.declared.message.Side.TheVariants.{Main, Standby}
use Rattle.packet.specs.declared.message.Tx.{Tx}
use Rattle.packet.specs.declared.message.Rx.{Rx}

-- "kind is R2S or AUDIO"
abbrev pub kind_text : (audio : ℕ) → List ℕ
kind_text n = cond (eqb n 0) (text " kind=R2S") (text " kind=AUDIO")

-- What the lines of both directions begin with. "Numbers are decimal"
abbrev pub head_text : (name : List ℕ) (sequence timestamp ssrc audio ptt : ℕ) → List ℕ
head_text name q t s n ptt =
    name
    ++ (text " seq=" ++ decimal q)
    ++ (text " ts=" ++ decimal t)
    ++ (text " ssrc=" ++ decimal s)
    ++ kind_text n
    ++ (text " ptt=" ++ decimal ptt)

-- "cld is the 7-bit delay value, mss 0 or 1, `-` an absent item"
abbrev pub climax_text : Option ℕ → List ℕ
climax_text None = text " cld=-"
climax_text (Some value) = text " cld=" ++ decimal value

abbrev pub side_text : Option Side → List ℕ
side_text None = text " mss=-"
side_text (Some Main) = text " mss=0"
side_text (Some Standby) = text " mss=1"

-- "`TX seq=1 ts=0 ssrc=7 kind=R2S ptt=1 id=2 pm=0 ptts=0 cld=- mss=- audio=0`"; "audio is the payload length"
unfoldable pub tx_line : Tx → (audio : ℕ) → List ℕ
tx_line m n =
    head_text (text "TX") m.sequence m.timestamp m.ssrc n m.ptt
    ++ (text " id=" ++ decimal m.id)
    ++ (text " pm=" ++ bit_text m.pm)
    ++ (text " ptts=" ++ bit_text m.ptts)
    ++ climax_text m.climax
    ++ side_text m.side
    ++ (text " audio=" ++ decimal n)

shown : tx_line (record { sequence = 1; timestamp = 0; ssrc = 7; ptt = 1; id = 2; pm = false; ptts = false; climax = None; side = None }) 0
    ≡ text "TX seq=1 ts=0 ssrc=7 kind=R2S ptt=1 id=2 pm=0 ptts=0 cld=- mss=- audio=0"
unfolding tx_line decimal digits
shown = refl

-- The line of a packet in the other direction, made alike; the quality stands before its method.
abbrev pub sqi_text : Option Sqi → List ℕ
sqi_text None = text " sqi=-"
sqi_text (Some sqi) = (text " sqi=" ++ decimal sqi.quality) ++ (text "/" ++ decimal sqi.method)

unfoldable pub rx_line : Rx → (audio : ℕ) → List ℕ
rx_line m n =
    head_text (text "RX") m.sequence m.timestamp m.ssrc n m.ptt
    ++ (text " squ=" ++ bit_text m.squ)
    ++ (text " id=" ++ decimal m.id)
    ++ (text " pm=" ++ bit_text m.pm)
    ++ (text " ptts=" ++ bit_text m.ptts)
    ++ (text " sct=" ++ bit_text m.sct)
    ++ sqi_text m.sqi
    ++ side_text m.side
    ++ (text " audio=" ++ decimal n)

-- "A refused packet prints `refused`, a space and its number."
unfoldable pub refused_line : (number : ℕ) → List ℕ
refused_line number = text "refused " ++ decimal number

-- The console's grammar: "`refused N cause C` for a refusal".
unfoldable pub refusal_line : (number cause : ℕ) → List ℕ
refusal_line number cause = refused_line number ++ (text " cause " ++ decimal cause)

unfoldable pub answer_line : Answer Tx → (audio : ℕ) → List ℕ
answer_line (accepted m) n = tx_line m n
answer_line (refused number cause) n = refused_line number

-- "A program reads one TX packet .. and prints one line."
unfoldable pub decoded_line : (ext : ℕ) → List ℕ → List ℕ
decoded_line ext p = answer_line (read_tx ext p) (length (payload p)) ++ text "\n"
