-- Where each field of an accepted packet stands: its bits by their bytes (Unreadable).
use Prim.Native.Nat.{ℕ}
use mathlib.Core.Path.{subst}
use mathlib.Core.List.{List}
use native.Mathlib.Omega.{arith}
use Rattle.base.specs.Bytes.{Bytes}
use Rattle.packet.specs.Packet.{payload}
use Rattle.reader.specs.Reading.{message_of}
use Rattle.reader.proofs.Passed.{accepted_passed}
use Rattle.packet.specs.declared.message.Direction.{Direction}
use Rattle.demands.specs.FieldsRead.{SaidBy, FieldsRead}

said : (d : Direction) (ext : ℕ) (p : List ℕ) → Bytes p → SaidBy p (message_of p)
unfolding message_of payload
said d ext p small = grind arith

pub fields_read : FieldsRead
fields_read d ext p m small e = subst (SaidBy p) (accepted_passed d ext p m e).1 (said d ext p small)
