use Rattle.grammar.specs.Grammar.{named_in}
use Rattle.grammar.proofs.line.named.Goals as goal

pub returns : goal.returns
unfolding named_in
returns c = rw c.word.ensures.holds at c.one_of.ensures
