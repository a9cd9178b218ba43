-- 01, The packet: which fields the packets of each direction have. A message of one direction, and the same of either.
use Rattle.std.specs.Prelude.{false, None}
use Rattle.packet.specs.declared.message.Message.{Message}
use Rattle.packet.specs.declared.message.Tx.{Tx}
use Rattle.packet.specs.declared.message.Rx.{Rx}

-- The message of one direction is what that direction's packets can say.
abbrev pub as_tx : Message → Tx
as_tx m =
    record {
      sequence = m.sequence;
      timestamp = m.timestamp;
      ssrc = m.ssrc;
      ptt = m.ptt;
      id = m.id;
      pm = m.pm;
      ptts = m.ptts;
      climax = m.items.climax;
      side = m.items.side;
    }

abbrev pub as_rx : Message → Rx
as_rx m =
    record {
      sequence = m.sequence;
      timestamp = m.timestamp;
      ssrc = m.ssrc;
      ptt = m.ptt;
      squ = m.squ;
      id = m.id;
      pm = m.pm;
      ptts = m.ptts;
      sct = m.sct;
      sqi = m.items.sqi;
      side = m.items.side;
    }

-- A message of one direction, as one of either: what its packets cannot say is off or absent.
abbrev pub from_tx : Tx → Message
from_tx m =
    record {
      sequence = m.sequence;
      timestamp = m.timestamp;
      ssrc = m.ssrc;
      ptt = m.ptt;
      squ = false;
      id = m.id;
      pm = m.pm;
      ptts = m.ptts;
      sct = false;
      items = record { sqi = None; climax = m.climax; side = m.side };
    }

abbrev pub from_rx : Rx → Message
from_rx m =
    record {
      sequence = m.sequence;
      timestamp = m.timestamp;
      ssrc = m.ssrc;
      ptt = m.ptt;
      squ = m.squ;
      id = m.id;
      pm = m.pm;
      ptts = m.ptts;
      sct = m.sct;
      items = record { sqi = m.sqi; climax = None; side = m.side };
    }
