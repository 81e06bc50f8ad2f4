use Rattle.conflict_search.proofs.Words.{has_tests}
use Rattle.conflict_search.proofs.sets.has.Goals as goal

pub returns : goal.returns
returns c = has_tests c.args.set.now c.word.result c.args.value c.word.ensures
