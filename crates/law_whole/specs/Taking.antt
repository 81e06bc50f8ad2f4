-- What keeps a device whole, and what a whole device gives.
use Rattle.std.specs.Prelude.{◌≡◌, ◌⊎◌, ℕ, false, List, [], ◌∷◌, ◌++◌, map, Ok, Err, Some, None, option_map, IfSome, Contains}
use Rattle.std.specs.List.{AllZip}
use Rattle.std.specs.Str.{bytes_eq}
use Rattle.serde_json.specs.Data.{Data}
use Rattle.nuc_base.specs.declared.platform.Platform.{Platform}
use Rattle.npm_ranges.specs.Ranges.{IsInRange}
use Rattle.recipe_reader.specs.Candidates.{IsReadFor}
use Rattle.recipe_reader.specs.OneRecipe.{IsRecipeFor}
use Rattle.recipe_reader.specs.declared.recipe.Recipe.{Recipe}
use Rattle.deployment_doc.specs.declared.document.Root.{Root}
use Rattle.tree_core.specs.Regular.{IsRegular}
use Rattle.tree_core.specs.View.{view}
use Rattle.config_ops.specs.Join.{filled}
use Rattle.config_ops.specs.Laws.{IsRegularChange}
use Rattle.config_ops.specs.NewConfig.{new_config}
use Rattle.config_cmd.specs.Documents.{IsChangeDocument}
use Rattle.config_cmd.specs.declared.change.Change.{Change}
use Rattle.recipe_reader.specs.SetLaws.{AreAmong}
use Rattle.recipe_reader.specs.declared.candidate.Candidate.{Candidate}
use Rattle.records.specs.Stored.{Draft, Plan, Record, Accepted, Item, plan_view}
use Rattle.records.specs.declared.record.Plan as code
use Rattle.records.specs.declared.record.Requirement.{Requirement}
use Rattle.records.specs.declared.record.Origin.{Origin}
use Rattle.library_core.specs.Library.{Artifacts, Content}
use Rattle.library_core.specs.Sources.{own}
use Rattle.library_core.specs.Gathered.{AreGathered, IsGatheredOf}
use Rattle.library_core.specs.Faults.{Gathered}
use Rattle.library_core.specs.declared.fault.CandidatesFault.{CandidatesFault}
use Rattle.library_core.specs.declared.fault.CandidatesFault.TheVariants.{Library, NoMemory}
use Rattle.device.specs.Filled.{PlanFilled}
use Rattle.artifact_store.specs.Staged.{draft_lines}
use Rattle.deployment_doc.specs.Sound.{AreSound}
use Rattle.deployment_doc.specs.declared.document.Document.{Document}
use Rattle.device.specs.Devices.{Device, Group, IsRegularDevice}
use Rattle.device.specs.Grouped.{find_group, group_after, with_group}
use Rattle.device.specs.Lawful.{Lawful, Run}
use Rattle.device.specs.Sound.{IsSound}
use Rattle.plan_core.specs.Looks.{AreOf}
use Rattle.plan_core.specs.Plans.{HasNoSet, IsChoice, IsPlanned}
use Rattle.plan_core.specs.Requests.{root_requirement, wanted_of}
use Rattle.plan_core.specs.Set.{change_in, config_of}
use Rattle.nuc_base.specs.Tables.{AllHold}
use Rattle.admission.specs.Takes.{TakesIn}
use Rattle.law_whole.specs.Whole.{AreWholeOn, BringWhole, BringsWhole, IsBuiltIn, IsItemOf, Whole, asked_of}

abbrev pub StaysWhole : Type 0
StaysWhole = (d e : Device) (r : Record) → Whole d → Lawful d r e → BringsWhole d r → Whole e

abbrev pub RunsStayWhole : Type 0
RunsStayWhole = (d e : Device) (records : List Record) → Whole d → Run d records e → BringWhole d records → Whole e

-- a plan over gathered candidates leaves a whole device whole
abbrev pub PlansAreWhole : Type 0
PlansAreWhole = (o : Origin) (d : Device) (cs : List Candidate) (document : Document) (draft : Draft) (plan : Plan)
    → IsSound d → IsRegularDevice d → Whole d → d.origin ≡ Some o → IsGatheredOf o d.set cs → AreSound document.roots
    → IsPlanned o d cs document draft → PlanFilled draft plan → BringsWhole d (Accepted plan)

-- the document asks of its group what the group asks already
abbrev pub AsksTheSame : Device → Document → Type 0
AsksTheSame d document = AreAmong (wanted_of d.groups document) (asked_of d.groups) × AreAmong (asked_of d.groups) (wanted_of d.groups document)

-- over its own candidates a whole device has one set, and that is its set
abbrev pub OwnSetIsChosen : Type 0
OwnSetIsChosen = (o : Origin) (d : Device) (cs choice : List Candidate) (document : Document)
    → IsSound d → Whole d → d.origin ≡ Some o → AreGathered (own o d.set) o.platform [] cs → AsksTheSame d document
    → IsChoice d cs document choice → AreOf choice d.set

-- and there is always one
abbrev pub OwnSetIsThere : Type 0
OwnSetIsThere = (o : Origin) (d : Device) (cs : List Candidate) (document : Document)
    → IsSound d → Whole d → d.origin ≡ Some o → AreGathered (own o d.set) o.platform [] cs → AsksTheSame d document
    → HasNoSet d cs document → ⊥

-- a document that asks of a group of the device what the group asks already
abbrev pub KeepsGroup : Device → Document → Type 0
KeepsGroup d document = (g : Group) × Contains d.groups g × (document.group ≡ g.arn) × (map root_requirement document.roots ≡ g.requirements)

-- the document of a change of one component's configuration is such a document
abbrev pub ChangesKeepGroup : Type 0
ChangesKeepGroup = (d : Device) (name : List ℕ) (change : Change) (document : Document) → IsChangeDocument d name change document → KeepsGroup d document

abbrev pub KeptGroupAsksTheSame : Type 0
KeptGroupAsksTheSame = (d : Device) (document : Document) → IsSound d → KeepsGroup d document → AsksTheSame d document

-- where the document changes nothing of it, an item keeps its configuration
abbrev pub OwnConfigStays : Type 0
OwnConfigStays = (o : Origin) (d : Device) (cs choice : List Candidate) (document : Document)
    → IsSound d → Whole d → d.origin ≡ Some o → AreGathered (own o d.set) o.platform [] cs → AsksTheSame d document
    → IsChoice d cs document choice → (c : Candidate) (i : Item) → Contains choice c → Contains d.set i → c.recipe.name ≡ i.name
    → (change_in c.recipe.name document.roots ≡ None → config_of d.set document.roots c.recipe ≡ i.config)
    × (config_of d.set document.roots c.recipe ≡ new_config (Some i.config) (view c.recipe.default_config) (change_in c.recipe.name document.roots))

-- gathering a whole device's own candidates refuses nothing
abbrev pub OwnIsGathered : Type 0
OwnIsGathered = (o : Origin) (d : Device) (fault : CandidatesFault)
    → IsSound d → Whole d → d.origin ≡ Some o → Gathered [] o d.set (Err fault) → (fault ≡ Library) ⊎ (fault ≡ NoMemory)

-- its own plan needs no file, whatever a library holds
abbrev pub OwnNeedsNoFile : Type 0
OwnNeedsNoFile = (o : Origin) (d : Device) (cs : List Candidate) (document : Document) (draft : Draft)
    → IsSound d → Whole d → d.origin ≡ Some o → AreGathered (own o d.set) o.platform [] cs → AsksTheSame d document
    → IsPlanned o d cs document draft → (l : Artifacts) → AllHold (draft_lines l d.set draft)

-- The plan's item j is the device's item i, but for a configuration that the document changes: that is computed from the kept
-- one, the recipe's default and the update.
pub record IsKeptItem (p : Platform) (roots : List Root) (i j : Item) : Type 0 where
  pub name : j.name ≡ i.name
  pub version : j.version ≡ i.version
  pub recipe : j.recipe ≡ i.recipe
  pub artifacts : j.artifacts ≡ i.artifacts
  pub config : change_in i.name roots ≡ None → j.config ≡ i.config
  pub changed : (r : Recipe) → IsRecipeFor i.recipe p r → j.config ≡ new_config (Some i.config) (view r.default_config) (change_in i.name roots)

abbrev pub OwnItemsStay : Type 0
OwnItemsStay = (o : Origin) (d : Device) (cs : List Candidate) (document : Document) (draft : Draft) (plan : Plan)
    → IsSound d → Whole d → d.origin ≡ Some o → AreGathered (own o d.set) o.platform [] cs → AsksTheSame d document
    → IsPlanned o d cs document draft → PlanFilled draft plan → AllZip (IsKeptItem o.platform document.roots) d.set plan.items

-- ---- groups

-- a plan that asks of a group what it asks already, with no revision, leaves all groups as they are
abbrev pub KeptGroupStays : Type 0
KeptGroupStays = (d : Device) (document : Document) (plan : Plan) → IsSound d → KeepsGroup d document
    → plan.group ≡ document.group → plan.revision ≡ 0 → plan.requirements ≡ map root_requirement document.roots
    → with_group d.groups plan ≡ d.groups

-- any plan leaves the groups of other names as they are, and its own has its list
abbrev pub OtherGroupsStay : Type 0
OtherGroupsStay = (groups : List Group) (plan : Plan)
    → ((arn : List ℕ) → bytes_eq arn plan.group ≡ false → find_group arn (with_group groups plan) ≡ find_group arn groups)
    × (find_group plan.group (with_group groups plan) ≡ Some (group_after groups plan))

-- ---- along a call

-- a plan that is taken in on a whole device leaves it whole
abbrev pub TakenAreWhole : Type 0
TakenAreWhole = (d : Device) (o : Origin) (content : Content) (before after : ℕ) (document : Document) (plan : code.Plan)
    → IsSound d → IsRegularDevice d → Whole d → d.origin ≡ Some o → AreSound document.roots
    → TakesIn d o content before after document (Ok plan) → BringsWhole d (Accepted (plan_view plan))

-- each device that a prefix of the records makes of this one is whole, where this one is
abbrev pub StayWhole : Device → List Record → Type 0
StayWhole d records = Whole d → (prefix rest : List Record) (e : Device) → records ≡ prefix ++ rest → Run d prefix e → Whole e

abbrev pub BroughtStayWhole : Type 0
BroughtStayWhole = (d : Device) (records : List Record) → BringWhole d records → StayWhole d records

-- ---- that there are whole devices

-- one item without dependencies, for which one group asks, is whole
abbrev pub OneItemIsWhole : Type 0
OneItemIsWhole = (o : Origin) (c : Candidate) (g : Group) (r : Requirement) (i : Item)
    → IsReadFor o.platform c → c.recipe.dependencies ≡ [] → IsItemOf c i → IsBuiltIn o.nucleus i
    → r.name ≡ c.recipe.name → IsInRange c.recipe.version r.range → g.requirements ≡ r ∷ [] → AreWholeOn o (g ∷ []) (i ∷ [])
