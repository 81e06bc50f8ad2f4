use Rattle.conflict_search.proofs.Words.{no_bits}
use Rattle.conflict_search.proofs.sets.none_of.Goals as goal

pub returns-clause-empty : goal.returns-clause-empty
returns-clause-empty c = no_bits c.loop-word.set.items c.loop-word.invariant.each
