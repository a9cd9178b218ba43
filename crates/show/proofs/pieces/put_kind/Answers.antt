use Rattle.base.proofs.Tests.{tests}
use Rattle.show.proofs.pieces.put_kind.Goals as goal

pub returns-else-audio-eq0 : goal.returns-else-audio-eq0
returns-else-audio-eq0 c = search (tests, c.put-else-audio-eq0.ensures)
