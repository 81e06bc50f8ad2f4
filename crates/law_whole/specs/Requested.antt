-- What requests made at the device leave: of one of its own group that group's list, of a change one configuration.
use Rattle.std.specs.Prelude.{◌≡◌, ◌⊎◌, ℕ, true, false, List, [], ◌∷◌, Result, Ok, Err, Option, Some, None, if◌then◌else◌, ⊤}
use Rattle.std.specs.List.{AllZip}
use Rattle.std.specs.Str.{bytes_eq}
use Rattle.nuc_base.specs.declared.kinds.Outcome.{Outcome}
use Rattle.nuc_base.specs.declared.platform.Platform.{Platform}
use Rattle.tree_core.specs.View.{view}
use Rattle.config_ops.specs.NewConfig.{change_of, new_config}
use Rattle.config_ops.specs.declared.update.Update.{Update}
use Rattle.config_cmd.specs.declared.change.Change.{Change}
use Rattle.recipe_reader.specs.OneRecipe.{IsRecipeFor}
use Rattle.recipe_reader.specs.declared.recipe.Recipe.{Recipe}
use Rattle.records.specs.Stored.{Item, Plan, Record, Accepted, Closed, plan_view}
use Rattle.records.specs.declared.record.Plan as code
use Rattle.records.specs.declared.record.Group.{Group}
use Rattle.records.specs.declared.record.Origin.{Origin}
use Rattle.library_core.specs.Library.{Content}
use Rattle.library_core.specs.Nothing.{no_content}
use Rattle.device.specs.Devices.{Device}
use Rattle.device.specs.Grouped.{find_group, with_group}
use Rattle.device.specs.Lawful.{Run, takes_plan}
use Rattle.device.specs.Sound.{IsSound}
use Rattle.deployment_doc.specs.declared.document.Document.{Document}
use Rattle.local_deploy.specs.Documents.{IsLocalDocument}
use Rattle.local_deploy.specs.Lists.{IsLocalList, local_arn, local_asked}
use Rattle.local_deploy.specs.declared.request.LocalRequest.{LocalRequest}
use Rattle.plan_core.specs.declared.fault.PlanFault.TheVariants as planning
use Rattle.plan_core.specs.declared.fault.Refusal.TheVariants as refusal
use Rattle.artifact_store.specs.Staged.{IsOutside}
use Rattle.admission.specs.Requests.{AsksChange, AsksLocal, IsChangeOn, IsLocalOn, TakesBy}
use Rattle.admission.specs.Takes.{TakesIn}
use Rattle.admission.specs.declared.fault.Declined.{Declined}
use Rattle.admission.specs.declared.fault.Declined.TheVariants.{Refused, Unstaged}
use Rattle.law_whole.specs.Whole.{Whole}

-- ---- the run of one plan

-- no plan is accepted among these records
abbrev pub AcceptsNone : List Record → Type 0
AcceptsNone [] = ⊤
AcceptsNone (Accepted p ∷ records) = ⊥
AcceptsNone (r ∷ records) = AcceptsNone records

-- how the deployment closed that was pending before these records, where it did
abbrev pub outcome_in : List Record → Option Outcome
outcome_in [] = None
outcome_in (Closed o ∷ records) = Some o
outcome_in (r ∷ records) = outcome_in records

-- the groups then: with the plan's list where the plan takes the place of the set, and else as they were
abbrev pub groups_then : Option Outcome → List Group → Plan → List Group
groups_then None groups p = groups
groups_then (Some o) groups p = if takes_plan o then with_group groups p else groups

-- so it is from its acceptance on, in however many calls
abbrev pub PlansMoveOneGroup : Type 0
PlansMoveOneGroup = (d e : Device) (p : Plan) (rest : List Record) → Run d (Accepted p ∷ rest) e → AcceptsNone rest
    → e.groups ≡ groups_then (outcome_in rest) d.groups p

-- ---- a request of the group of the device itself

-- What these groups are of the device's, behind a close as this: the list of `local` is the one of the request, where the plan takes
-- the place of the set, and each other group has its list and its revision; else no group changed.
pub record LocalLeaves (d : Device) (r : LocalRequest) (o : Outcome) (groups : List Group) : Type 0 where
  pub list : takes_plan o ≡ true → IsLocalList (local_asked d.groups) r.merge r.remove (local_asked groups)
  pub others : (arn : List ℕ) → bytes_eq arn local_arn ≡ false → find_group arn groups ≡ find_group arn d.groups
  pub same : takes_plan o ≡ false → groups ≡ d.groups

abbrev pub LocalLeavesBy : Device → LocalRequest → Option Outcome → List Group → Type 0
LocalLeavesBy d r None groups = groups ≡ d.groups
LocalLeavesBy d r (Some o) groups = LocalLeaves d r o groups

-- the plan of a request's document, and so it is along each run of it
abbrev pub LocalsMoveOneList : Type 0
LocalsMoveOneList = (d : Device) (origin : Origin) (content : Content) (before after : ℕ) (bytes : List ℕ) (taken : code.Plan)
    → TakesBy (AsksLocal bytes) d origin content before after (Ok taken)
    → (r : LocalRequest) × IsLocalOn bytes d r
    × ((document : Document) × IsLocalDocument d r document × TakesIn d origin content before after document (Ok taken))
    × ((e : Device) (rest : List Record) → Run d (Accepted (plan_view taken) ∷ rest) e → AcceptsNone rest → LocalLeavesBy d r (outcome_in rest) e.groups)

-- ---- a change of one component's configuration

-- The plan's item j is the device's item i, but for the configuration of the component of this name: that is computed from the kept
-- one, the recipe's default and the update.
pub record IsChangedItem (p : Platform) (name : List ℕ) (update : Update) (i j : Item) : Type 0 where
  pub name_is : j.name ≡ i.name
  pub version : j.version ≡ i.version
  pub recipe : j.recipe ≡ i.recipe
  pub artifacts : j.artifacts ≡ i.artifacts
  pub kept : bytes_eq name i.name ≡ false → j.config ≡ i.config
  pub changed : i.name ≡ name → (r : Recipe) → IsRecipeFor i.recipe p r
      → j.config ≡ new_config (Some i.config) (view r.default_config) (Some (change_of update))

-- each item is so, and no group changes in any later device
pub record IsChangePlan (d : Device) (origin : Origin) (name : List ℕ) (c : Change) (plan : Plan) : Type 0 where
  pub items : AllZip (IsChangedItem origin.platform name c.update) d.set plan.items
  pub groups : (e : Device) (rest : List Record) → Run d (Accepted plan ∷ rest) e → AcceptsNone rest → e.groups ≡ d.groups

-- Such a plan; or the change is declined, but neither for its candidates, nor because no version is valid, nor for a file.
abbrev pub KeepsAll : Device → Origin → List ℕ → List ℕ → Result code.Plan Declined → Type 0
KeepsAll d origin name bytes (Ok taken) = (c : Change) × IsChangeOn name bytes d c × IsChangePlan d origin name c (plan_view taken)
KeepsAll d origin name bytes (Err (Refused (refusal.Candidates fault))) = ⊥
KeepsAll d origin name bytes (Err (Refused (refusal.Plan planning.NoVersion))) = ⊥
KeepsAll d origin name bytes (Err (Unstaged fault)) = IsOutside fault
KeepsAll d origin name bytes (Err x) = ⊤

-- so it is on a whole device, over no library
abbrev pub ChangesKeepAll : Type 0
ChangesKeepAll = (d : Device) (origin : Origin) (name bytes : List ℕ) (taken : Result code.Plan Declined)
    → IsSound d → Whole d → d.origin ≡ Some origin
    → TakesBy (AsksChange name bytes) d origin no_content 0 0 taken → KeepsAll d origin name bytes taken
