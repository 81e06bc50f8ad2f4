use Rattle.conflict_search.proofs.Words.{added}
use Rattle.conflict_search.proofs.sets.add.Goals as goal
use Rattle.std.proofs.Common.{refl}

pub returns-clause-added : goal.returns-clause-added
returns-clause-added c = added c.args.set.now _ c.args.value c.requires.room refl
