-- What the reader's private steps answer: pieces of the one list of refusals in Reading.antt, cited by their promises alone.
use Rattle.std.specs.Prelude.{ℕ, List, take, drop}
use Rattle.packet.specs.Refusals.{Answer, judged}
use Rattle.reader.specs.Reading.{reader_refusals, message_of}
use Rattle.packet.specs.declared.message.Direction.{Direction}
use Rattle.packet.specs.declared.message.Direction.TheVariants.{Tx}
use Rattle.packet.specs.declared.message.Message.{Message}

-- 1 to 5, of the RTP head
unfoldable pub head_verdict : List ℕ → Answer (Unit {0})
head_verdict p = judged (take 5 (reader_refusals Tx 0 p)) tt

-- 6 to 9, of the extension's head
unfoldable pub extension_verdict : (ext : ℕ) → List ℕ → Answer (Unit {0})
extension_verdict ext p = judged (take 4 (drop 5 (reader_refusals Tx ext p))) tt

-- 10 to 12, of what the words hold and the payload behind them
unfoldable pub content_answer : Direction → List ℕ → Answer Message
content_answer d p = judged (drop 9 (reader_refusals d 0 p)) (message_of p)
