-- The reader's steps, one after the other, answer what the one list of refusals answers.
use Prim.Native.Nat.{ℕ}
use mathlib.Core.Path.{◌≡◌, ap, ◌∙◌}
use mathlib.Core.List.{List}
use lib.ListN.{take, drop}
use Rattle.reader.specs.Reading.{reader_refusals, message_of, read}
use Rattle.reader.specs.Pieces.{head_verdict, extension_verdict, content_answer}
use Rattle.packet.specs.declared.message.Direction.{Direction}
use Rattle.packet.proofs.Judged.{and_then, judged_split}

pub read_in_steps : (d : Direction) (ext : ℕ) (p : List ℕ) → read d ext p ≡ and_then (head_verdict p) (and_then (extension_verdict ext p) (content_answer d p))
unfolding read head_verdict extension_verdict content_answer reader_refusals
read_in_steps d ext p =
    judged_split (take 5 (reader_refusals d ext p)) (drop 5 (reader_refusals d ext p)) (message_of p)
    ∙ ap (and_then (head_verdict p)) (judged_split (take 4 (drop 5 (reader_refusals d ext p))) (drop 9 (reader_refusals d ext p)) (message_of p))
