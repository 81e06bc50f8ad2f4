-- The words for how a deployment closed, and for how far a pending one is.
use Rattle.std.specs.Prelude.{ℕ, List, codes}
use Rattle.nuc_base.specs.declared.kinds.Outcome.{Outcome}
use Rattle.nuc_base.specs.declared.kinds.Outcome.TheVariants.{Successful, RollbackComplete, RollbackNotRequested, UnableToRollback}
use Rattle.device.specs.declared.staged.Stage.{Stage}
use Rattle.device.specs.declared.staged.Stage.TheVariants.{Booting, Activating, Backing, Rolling}

abbrev pub outcome_text : Outcome → List ℕ
outcome_text Successful = codes "SUCCESSFUL"
outcome_text RollbackComplete = codes "FAILED_ROLLBACK_COMPLETE"
outcome_text RollbackNotRequested = codes "FAILED_ROLLBACK_NOT_REQUESTED"
outcome_text UnableToRollback = codes "FAILED_UNABLE_TO_ROLLBACK"

abbrev pub stage_text : Stage → List ℕ
stage_text Booting = codes "Booting"
stage_text Activating = codes "Activating"
stage_text Backing = codes "Backing"
stage_text Rolling = codes "Rolling"
