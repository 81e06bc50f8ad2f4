-- Which statuses a refusal of a document has, and which it has not.
use Rattle.std.proofs.Common.{◌≡◌, ◌∙◌, ℕ, List, Bool, true, false, refl, sym, ap}
use Rattle.std.proofs.lemmas.Bool.{true≢false}
use Rattle.std.specs.Prelude.{codes}
use Rattle.nuc_base.specs.declared.kinds.Outcome.{Outcome}
use Rattle.nuc_base.specs.declared.kinds.Outcome.TheVariants as outcome
use Rattle.nuc_base.specs.declared.status.Status.{Status}
use Rattle.nuc_base.specs.declared.status.Status.TheVariants as status
use Rattle.library_core.specs.declared.fault.CandidatesFault.{CandidatesFault}
use Rattle.library_core.specs.declared.fault.CandidatesFault.TheVariants as gather
use Rattle.plan_core.specs.declared.fault.PlanFault.{PlanFault}
use Rattle.plan_core.specs.declared.fault.PlanFault.TheVariants as plan
use Rattle.plan_core.specs.declared.fault.Refusal.{Refusal}
use Rattle.plan_core.specs.declared.fault.Refusal.TheVariants.{Document, Repeated, Stale, Candidates, Plan, NoMemory}
use Rattle.refusal_lines.specs.Lines.{refusal_line}
use Rattle.refusal_lines.specs.Statuses.{status_of_outcome, status_of_candidates, status_of_plan, status_of_refusal}

-- the statuses that some refusal has
abbrev pub may_refuse : Status → Bool
may_refuse status.Done = true
may_refuse status.BadInput = true
may_refuse status.NoVersion = true
may_refuse status.Library = true
may_refuse status.RolledBack = true
may_refuse status.NotRequested = true
may_refuse status.Unable = true
may_refuse status.Limit = true
may_refuse status.Memory = true
may_refuse status.Stale = true
may_refuse _ = false

of_outcome : (o : Outcome) → may_refuse (status_of_outcome o) ≡ true
of_outcome outcome.Successful = refl
of_outcome outcome.RollbackComplete = refl
of_outcome outcome.RollbackNotRequested = refl
of_outcome outcome.UnableToRollback = refl

of_candidates : (f : CandidatesFault) → may_refuse (status_of_candidates f) ≡ true
of_candidates gather.Library = refl
of_candidates (gather.TooManyRecipes n) = refl
of_candidates (gather.Recipe at fault) = refl
of_candidates (gather.RecipeDiffers name version) = refl
of_candidates (gather.TwoRecipes name version) = refl
of_candidates gather.NoMemory = refl

of_plan : (f : PlanFault) → may_refuse (status_of_plan f) ≡ true
of_plan (plan.TooManyClosed n) = refl
of_plan (plan.TooManyGroups n) = refl
of_plan plan.NoVersion = refl
of_plan (plan.TooManyComponents n) = refl
of_plan (plan.ConfigTooLarge name n) = refl
of_plan plan.NoMemory = refl

pub of_refusal : (r : Refusal) → may_refuse (status_of_refusal r) ≡ true
of_refusal (Document fault) = refl
of_refusal (Repeated id o) = of_outcome o
of_refusal (Stale id revision) = refl
of_refusal (Candidates fault) = of_candidates fault
of_refusal (Plan fault) = of_plan fault
of_refusal NoMemory = refl

-- no refusal has another one
pub no_refusal : (r : Refusal) (s : Status) → may_refuse s ≡ false → status_of_refusal r ≡ s → ⊥
no_refusal r s never is = true≢false (sym (of_refusal r) ∙ ap may_refuse is ∙ never)

-- the library alone fails with its status
pub only_library : (r : Refusal) → status_of_refusal r ≡ status.Library → r ≡ Candidates gather.Library
only_library (Document fault) is = cc
only_library (Repeated id outcome.Successful) is = cc
only_library (Repeated id outcome.RollbackComplete) is = cc
only_library (Repeated id outcome.RollbackNotRequested) is = cc
only_library (Repeated id outcome.UnableToRollback) is = cc
only_library (Stale id revision) is = cc
only_library (Candidates gather.Library) is = refl
only_library (Candidates (gather.TooManyRecipes n)) is = cc
only_library (Candidates (gather.Recipe at fault)) is = cc
only_library (Candidates (gather.RecipeDiffers name version)) is = cc
only_library (Candidates (gather.TwoRecipes name version)) is = cc
only_library (Candidates gather.NoMemory) is = cc
only_library (Plan (plan.TooManyClosed n)) is = cc
only_library (Plan (plan.TooManyGroups n)) is = cc
only_library (Plan plan.NoVersion) is = cc
only_library (Plan (plan.TooManyComponents n)) is = cc
only_library (Plan (plan.ConfigTooLarge name n)) is = cc
only_library (Plan plan.NoMemory) is = cc
only_library NoMemory is = cc

-- a deployment that closed as successful alone is no failure
pub only_successful : (r : Refusal) → status_of_refusal r ≡ status.Done → (id : List ℕ) × (r ≡ Repeated id outcome.Successful)
only_successful (Document fault) is = cc
only_successful (Repeated id outcome.Successful) is = (id, refl)
only_successful (Repeated id outcome.RollbackComplete) is = cc
only_successful (Repeated id outcome.RollbackNotRequested) is = cc
only_successful (Repeated id outcome.UnableToRollback) is = cc
only_successful (Stale id revision) is = cc
only_successful (Candidates gather.Library) is = cc
only_successful (Candidates (gather.TooManyRecipes n)) is = cc
only_successful (Candidates (gather.Recipe at fault)) is = cc
only_successful (Candidates (gather.RecipeDiffers name version)) is = cc
only_successful (Candidates (gather.TwoRecipes name version)) is = cc
only_successful (Candidates gather.NoMemory) is = cc
only_successful (Plan (plan.TooManyClosed n)) is = cc
only_successful (Plan (plan.TooManyGroups n)) is = cc
only_successful (Plan plan.NoVersion) is = cc
only_successful (Plan (plan.TooManyComponents n)) is = cc
only_successful (Plan (plan.ConfigTooLarge name n)) is = cc
only_successful (Plan plan.NoMemory) is = cc
only_successful NoMemory is = cc

-- that no version exists alone has its status
pub only_no_version : (r : Refusal) → status_of_refusal r ≡ status.NoVersion → r ≡ Plan plan.NoVersion
only_no_version (Document fault) is = cc
only_no_version (Repeated id outcome.Successful) is = cc
only_no_version (Repeated id outcome.RollbackComplete) is = cc
only_no_version (Repeated id outcome.RollbackNotRequested) is = cc
only_no_version (Repeated id outcome.UnableToRollback) is = cc
only_no_version (Stale id revision) is = cc
only_no_version (Candidates gather.Library) is = cc
only_no_version (Candidates (gather.TooManyRecipes n)) is = cc
only_no_version (Candidates (gather.Recipe at fault)) is = cc
only_no_version (Candidates (gather.RecipeDiffers name version)) is = cc
only_no_version (Candidates (gather.TwoRecipes name version)) is = cc
only_no_version (Candidates gather.NoMemory) is = cc
only_no_version (Plan (plan.TooManyClosed n)) is = cc
only_no_version (Plan (plan.TooManyGroups n)) is = cc
only_no_version (Plan plan.NoVersion) is = refl
only_no_version (Plan (plan.TooManyComponents n)) is = cc
only_no_version (Plan (plan.ConfigTooLarge name n)) is = cc
only_no_version (Plan plan.NoMemory) is = cc
only_no_version NoMemory is = cc

-- want of memory prints nothing
pub silent : (r : Refusal) → status_of_refusal r ≡ status.Memory → refusal_line r ≡ codes ""
silent (Document fault) is = cc
silent (Repeated id outcome.Successful) is = cc
silent (Repeated id outcome.RollbackComplete) is = cc
silent (Repeated id outcome.RollbackNotRequested) is = cc
silent (Repeated id outcome.UnableToRollback) is = cc
silent (Stale id revision) is = cc
silent (Candidates gather.Library) is = cc
silent (Candidates (gather.TooManyRecipes n)) is = cc
silent (Candidates (gather.Recipe at fault)) is = cc
silent (Candidates (gather.RecipeDiffers name version)) is = cc
silent (Candidates (gather.TwoRecipes name version)) is = cc
silent (Candidates gather.NoMemory) is = refl
silent (Plan (plan.TooManyClosed n)) is = cc
silent (Plan (plan.TooManyGroups n)) is = cc
silent (Plan plan.NoVersion) is = cc
silent (Plan (plan.TooManyComponents n)) is = cc
silent (Plan (plan.ConfigTooLarge name n)) is = cc
silent (Plan plan.NoMemory) is = refl
silent NoMemory is = refl
