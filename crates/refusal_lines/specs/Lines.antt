-- The line of the first refusal of a document, and the lines of a plan.
use Rattle.std.specs.Prelude.{ℕ, List, [], ◌∷◌, ◌++◌, codes, decimal}
use Rattle.std.specs.List.{flat_map}
use Rattle.recipe_reader.specs.Reasons.{reason_of as reason_of_recipe}
use Rattle.recipe_reader.specs.declared.fault.RecipeFault.{RecipeFault}
use Rattle.deployment_doc.specs.Reasons.{reason_of as reason_of_document}
use Rattle.deployment_doc.specs.declared.fault.DocFault.{DocFault}
use Rattle.records.specs.Stored.{DraftItem, Draft}
use Rattle.library_core.specs.declared.fault.CandidatesFault.{CandidatesFault}
use Rattle.library_core.specs.declared.fault.CandidatesFault.TheVariants as gather
use Rattle.plan_core.specs.declared.fault.PlanFault.{PlanFault}
use Rattle.plan_core.specs.declared.fault.PlanFault.TheVariants as plan
use Rattle.plan_core.specs.declared.fault.Refusal.{Refusal}
use Rattle.plan_core.specs.declared.fault.Refusal.TheVariants.{Document, Repeated, Stale, Candidates, Plan, NoMemory}
use Rattle.status_text.specs.Status.{line, closed_line}

-- ---- refusals

abbrev pub document_line : DocFault → List ℕ
document_line fault = line (codes "refused 2 document") (reason_of_document fault ∷ [])

-- the document of this id is older than its group, which has this revision
abbrev pub stale_line : List ℕ → ℕ → List ℕ
stale_line id revision = line (codes "refused 18 Stale") (id ∷ decimal revision ∷ [])

-- the recipe at this index has this fault
abbrev pub recipe_line : ℕ → RecipeFault → List ℕ
recipe_line at fault = line (codes "refused 2 recipe") (decimal at ∷ reason_of_recipe fault ∷ [])

-- a number behind each limit: the quantity that was found
abbrev pub candidates_line : CandidatesFault → List ℕ
candidates_line gather.Library = line (codes "refused 7 library") []
candidates_line (gather.TooManyRecipes n) = line (codes "refused 14 TooManyRecipes") (decimal n ∷ [])
candidates_line (gather.Recipe at fault) = recipe_line at fault
candidates_line (gather.RecipeDiffers name version) = line (codes "refused 2 RecipeDiffers") (name ∷ version ∷ [])
candidates_line (gather.TwoRecipes name version) = line (codes "refused 2 TwoRecipes") (name ∷ version ∷ [])
candidates_line gather.NoMemory = []

abbrev pub plan_fault_line : PlanFault → List ℕ
plan_fault_line (plan.TooManyClosed n) = line (codes "refused 14 TooManyClosed") (decimal n ∷ [])
plan_fault_line (plan.TooManyGroups n) = line (codes "refused 14 TooManyGroups") (decimal n ∷ [])
plan_fault_line plan.NoVersion = line (codes "refused 3 NoVersion") []
plan_fault_line (plan.TooManyComponents n) = line (codes "refused 14 TooManyComponents") (decimal n ∷ [])
plan_fault_line (plan.ConfigTooLarge name n) = line (codes "refused 14 ConfigTooLarge") (name ∷ decimal n ∷ [])
plan_fault_line plan.NoMemory = []

-- A deployment that closed before prints its line again. Want of memory prints nothing.
abbrev pub refusal_line : Refusal → List ℕ
refusal_line (Document fault) = document_line fault
refusal_line (Repeated id outcome) = closed_line (id, outcome)
refusal_line (Stale id revision) = stale_line id revision
refusal_line (Candidates fault) = candidates_line fault
refusal_line (Plan fault) = plan_fault_line fault
refusal_line NoMemory = []

-- ---- plans

abbrev pub item_line : DraftItem → List ℕ
item_line i = line (codes "plan") (i.name ∷ i.version ∷ [])

abbrev pub boot_line : List ℕ → List ℕ
boot_line name = line (codes "boot") (name ∷ [])

-- the items in their order, and then the bootstraps in theirs
abbrev pub plan_lines : Draft → List ℕ
plan_lines d = flat_map item_line d.items ++ flat_map boot_line d.boots
