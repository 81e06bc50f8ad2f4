-- The lemmas as they are.
use Rattle.artifact_store.proofs.Sparing.{paths_differ, staging_keeps, sweeping_keeps, holds_the_set, staged_below}
use Rattle.artifact_store.proofs.laws.needed_files_stay.Goals as goal

pub returns-clause-paths : goal.returns-clause-paths
returns-clause-paths c = paths_differ

pub returns-clause-staging : goal.returns-clause-staging
returns-clause-staging c = staging_keeps

pub returns-clause-sweeping : goal.returns-clause-sweeping
returns-clause-sweeping c = sweeping_keeps

pub returns-clause-set : goal.returns-clause-set
returns-clause-set c = holds_the_set

pub returns-clause-below : goal.returns-clause-below
returns-clause-below c kept draft items file = (staged_below kept draft file, λ stray. stray.0)
