use Rattle.std.proofs.Common.{refl}
use Rattle.artifact_store.proofs.Counting.{counts_good, counts_handed, still_disk, still_library, stages_err}
use Rattle.artifact_store.proofs.stages.stage_item.Goals as goal

pub returns-in_err-artifacts-clause-staged : goal.returns-in_err-artifacts-clause-staged
returns-in_err-artifacts-clause-staged g c = λ l e. stages_err _ _ _ _ c.from_residual.ensures.1 (c.in_err-artifacts.ensures.staged l e)

pub returns-in_err-artifacts-clause-counts : goal.returns-in_err-artifacts-clause-counts
returns-in_err-artifacts-clause-counts g c = counts_handed _ _ _ _ _ _ c.from_residual.ensures.1 c.in_err-artifacts.ensures.counts

pub returns-clause-held : goal.returns-clause-held
returns-clause-held g c = λ holds image left. c.in_ok-artifacts.ensures.held holds image left

pub returns-clause-fills : goal.returns-clause-fills
returns-clause-fills g c = record {
  name = refl;
  version = refl;
  recipe = refl;
  config = refl;
  files = c.in_ok-artifacts.ensures.given;
}

pub returns-clause-staged : goal.returns-clause-staged
returns-clause-staged g c = λ l e. c.in_ok-artifacts.ensures.staged l e

pub returns-clause-counts : goal.returns-clause-counts
returns-clause-counts g c =
    let counts = c.in_ok-artifacts.ensures.counts in
    counts_good _ _ _ _ _ (still_disk _ _ _ _ _ counts) (still_library _ _ _ _ _ counts)
