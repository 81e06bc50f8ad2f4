-- The status with which a command ends on the first refusal of its document.
use Rattle.nuc_base.specs.declared.kinds.Outcome.{Outcome}
use Rattle.nuc_base.specs.declared.kinds.Outcome.TheVariants as outcome
use Rattle.nuc_base.specs.declared.status.Status.{Status}
use Rattle.nuc_base.specs.declared.status.Status.TheVariants as status
use Rattle.library_core.specs.declared.fault.CandidatesFault.{CandidatesFault}
use Rattle.library_core.specs.declared.fault.CandidatesFault.TheVariants as gather
use Rattle.plan_core.specs.declared.fault.PlanFault.{PlanFault}
use Rattle.plan_core.specs.declared.fault.PlanFault.TheVariants as plan
use Rattle.plan_core.specs.declared.fault.Refusal.{Refusal}
use Rattle.plan_core.specs.declared.fault.Refusal.TheVariants.{Document, Repeated, Stale, Candidates, Plan, NoMemory}

-- of a deployment that closed so
abbrev pub status_of_outcome : Outcome → Status
status_of_outcome outcome.Successful = status.Done
status_of_outcome outcome.RollbackComplete = status.RolledBack
status_of_outcome outcome.RollbackNotRequested = status.NotRequested
status_of_outcome outcome.UnableToRollback = status.Unable

abbrev pub status_of_candidates : CandidatesFault → Status
status_of_candidates gather.Library = status.Library
status_of_candidates (gather.TooManyRecipes n) = status.Limit
status_of_candidates (gather.Recipe at fault) = status.BadInput
status_of_candidates (gather.RecipeDiffers name version) = status.BadInput
status_of_candidates (gather.TwoRecipes name version) = status.BadInput
status_of_candidates gather.NoMemory = status.Memory

abbrev pub status_of_plan : PlanFault → Status
status_of_plan (plan.TooManyClosed n) = status.Limit
status_of_plan (plan.TooManyGroups n) = status.Limit
status_of_plan plan.NoVersion = status.NoVersion
status_of_plan (plan.TooManyComponents n) = status.Limit
status_of_plan (plan.ConfigTooLarge name n) = status.Limit
status_of_plan plan.NoMemory = status.Memory

abbrev pub status_of_refusal : Refusal → Status
status_of_refusal (Document fault) = status.BadInput
status_of_refusal (Repeated id outcome) = status_of_outcome outcome
status_of_refusal (Stale id revision) = status.Stale
status_of_refusal (Candidates fault) = status_of_candidates fault
status_of_refusal (Plan fault) = status_of_plan fault
status_of_refusal NoMemory = status.Memory
