-- What requests made at the device leave.
use Rattle.std.proofs.Common.{◌≡◌, ◌⊎◌, ℕ, Bool, true, false, List, [], ◌∷◌, map, refl, sym, ap, subst, ◌∙◌, inl, inr, arith}
use Rattle.std.specs.Prelude.{◌||◌, ◌↔◌, Option, Some, None, Result, Ok, Err, find, if◌then◌else◌, option_map, option_and_then}
use Rattle.std.specs.Option.{option_map_or}
use Rattle.std.specs.List.{AllZip, Contains, list_any}
use Rattle.std.specs.Str.{bytes_eq}
use Rattle.std.proofs.lemmas.Bool.{false≢true, true≢false}
use Rattle.std.proofs.lemmas.Slice.Eq.{bytes_eq-Decides}
use Rattle.nuc_base.specs.declared.kinds.Outcome.{Outcome}
use Rattle.nuc_base.specs.declared.kinds.Outcome.TheVariants as outcomes
use Rattle.nuc_base.specs.declared.platform.Platform.{Platform}
use Rattle.config_ops.specs.NewConfig.{Change as Computed, change_of, new_config}
use Rattle.tree_core.specs.View.{view}
use Rattle.config_ops.specs.declared.update.Update.{Update}
use Rattle.config_cmd.specs.Documents.{IsChangeDocument, group_for, requires_name, root_for as changed_root}
use Rattle.config_cmd.specs.declared.change.Change.{Change}
use Rattle.config_cmd.specs.declared.fault.SetFault.{SetFault}
use Rattle.config_cmd.specs.declared.fault.SetFault.TheVariants as setting
use Rattle.deployment_doc.specs.declared.fault.DocFault.{DocFault}
use Rattle.deployment_doc.specs.declared.fault.DocFault.TheVariants as doc
use Rattle.recipe_reader.specs.OneRecipe.{IsOneRecipe, IsRecipeFor}
use Rattle.recipe_reader.specs.SetLaws.{DependsOnElements}
use Rattle.recipe_reader.specs.Sound.{ReadsSound}
use Rattle.recipe_reader.specs.declared.candidate.Candidate.{Candidate}
use Rattle.records.specs.Stored.{Item, Plan, Record, Accepted, Closed, Draft, plan_view}
use Rattle.records.specs.declared.record.Plan as code
use Rattle.records.specs.declared.record.Group.{Group}
use Rattle.records.specs.declared.record.Origin.{Origin}
use Rattle.records.specs.declared.record.Requirement.{Requirement}
use Rattle.library_core.specs.Gathered.{AreGathered}
use Rattle.library_core.specs.Library.{Content}
use Rattle.library_core.specs.Nothing.{no_artifacts, no_content}
use Rattle.library_core.specs.Sources.{own}
use Rattle.library_core.specs.declared.fault.CandidatesFault.{CandidatesFault}
use Rattle.library_core.specs.declared.fault.CandidatesFault.TheVariants as gather
use Rattle.deployment_doc.specs.declared.document.Document.{Document}
use Rattle.deployment_doc.specs.declared.document.Root.{Root}
use Rattle.deployment_doc.specs.Sound.{AreSound}
use Rattle.device.specs.After.{After, Course, closing, course, course_after}
use Rattle.device.specs.Devices.{Device}
use Rattle.device.specs.Grouped.{find_group, group_after, with_group}
use Rattle.device.specs.Lawful.{Run, takes_plan}
use Rattle.device.specs.Sound.{IsSound}
use Rattle.device.proofs.Course.{run}
use Rattle.local_deploy.specs.Documents.{IsLocalDocument, root_for as local_root}
use Rattle.local_deploy.specs.Lists.{Asked, IsLocalList, asked_in, local_arn, local_asked, local_requirements}
use Rattle.local_deploy.specs.declared.request.LocalRequest.{LocalRequest}
use Rattle.plan_core.specs.Checks.{AreCandidatesOf, Facts, IsGatherFault, PassesAll, RefusalOf, facts, document_refusal, gather_refusal}
use Rattle.plan_core.specs.Checks.{plan_checks, plan_refusal}
use Rattle.plan_core.specs.Plans.{HasNoSet, IsPlanned, IsRefused, PlanOf, config_lines, room_lines}
use Rattle.plan_core.specs.Requests.{root_requirement}
use Rattle.plan_core.specs.Set.{bare, change_in, items_of, root_named}
use Rattle.plan_core.specs.declared.fault.PlanFault.{PlanFault}
use Rattle.plan_core.specs.declared.fault.PlanFault.TheVariants as planning
use Rattle.plan_core.specs.declared.fault.Refusal.{Refusal}
use Rattle.plan_core.specs.declared.fault.Refusal.TheVariants as refusal
use Rattle.nuc_base.specs.Tables.{AllHold, IsFirst, Table, each}
use Rattle.device.specs.Filled.{PlanFilled}
use Rattle.artifact_store.specs.Staged.{IsOutside, draft_lines}
use Rattle.artifact_store.specs.declared.fault.StageFault.{StageFault}
use Rattle.admission.specs.Requests.{AsksChange, AsksLocal, IsChangeOn, TakesBy, unset}
use Rattle.admission.specs.Takes.{IsFilled, AdmissionOutcome, TakesIn}
use Rattle.admission.specs.declared.fault.Declined.{Declined}
use Rattle.admission.specs.declared.fault.Declined.TheVariants.{Refused, Unstaged}
use Rattle.law_whole.specs.Requested.{AcceptsNone, ChangesKeepAll, IsChangedItem, KeepsAll, LocalLeaves, LocalLeavesBy, LocalsMoveOneList, PlansMoveOneGroup}
use Rattle.law_whole.specs.Requested.{groups_then, outcome_in}
use Rattle.law_whole.specs.Taking.{AsksTheSame, IsKeptItem, KeepsGroup}
use Rattle.law_whole.specs.Whole.{Whole}
use Rattle.law_whole.proofs.Asking.{kept_group_asks}
use Rattle.law_whole.proofs.Changing.{changes_keep_group}
use Rattle.law_whole.proofs.Grouping.{kept_group_stays, other_groups_stay}
use Rattle.law_whole.proofs.Items.{own_items_stay}
use Rattle.law_whole.proofs.Keeping.{own_is_gathered}
use Rattle.law_whole.proofs.Owning.{own_set_is_there}
use Rattle.law_whole.proofs.Taken.{own_needs_no_file}

-- ---- the run of one plan

-- where none is pending the groups stay
groups_none : (c : Course) (rest : List Record) → c.plan ≡ None → AcceptsNone rest → (After c rest).groups ≡ c.groups
groups_none c [] none accepts = refl
groups_none c (Accepted p ∷ rest) none accepts = absurd accepts
groups_none c (Closed o ∷ rest) none accepts =
    let same : closing o c c.plan ≡ c = ap (closing o c) none in
    ap (λ (x : Course). (After x rest).groups) same ∙ groups_none c rest none accepts
groups_none c (r ∷ rest) none accepts = groups_none c rest none accepts

groups_behind : (c : Course) (p : Plan) (rest : List Record) → c.plan ≡ Some p → AcceptsNone rest
    → (After c rest).groups ≡ groups_then (outcome_in rest) c.groups p
groups_behind c p [] is accepts = refl
groups_behind c p (Accepted q ∷ rest) is accepts = absurd accepts
groups_behind c p (Closed o ∷ rest) is accepts =
    ap (λ (x : Option Plan). (After (closing o c x) rest).groups) is ∙ groups_none (closing o c (Some p)) rest refl accepts
groups_behind c p (r ∷ rest) is accepts = groups_behind c p rest is accepts

pub plans_move_one_group : PlansMoveOneGroup
plans_move_one_group d e p rest runs accepts =
    ap (λ (c : Course). c.groups) (run (Accepted p ∷ rest) d e runs) ∙ groups_behind (record (course d) { plan = Some p }) p rest refl accepts

-- where the plan leaves the groups as they are they stay
groups_same : (o : Option Outcome) (groups : List Group) (p : Plan) → with_group groups p ≡ groups → groups_then o groups p ≡ groups
groups_same None groups p same = refl
groups_same (Some outcomes.Successful) groups p same = same
groups_same (Some outcomes.RollbackNotRequested) groups p same = same
groups_same (Some outcomes.RollbackComplete) groups p same = refl
groups_same (Some outcomes.UnableToRollback) groups p same = refl

-- ---- a request of the group of the device itself

listed : (updates : List (List ℕ × Update)) (list : Asked) → asked_in (map root_requirement (map (local_root updates) list)) ≡ list
listed updates [] = refl
listed updates (e ∷ list) = ap (λ (l : Asked). e ∷ l) (listed updates list)

module _ (d : Device) (p : Plan) (list : Asked) (merge : Asked) (remove : List (List ℕ)) (named : p.group ≡ local_arn)
    (own_list : asked_in p.requirements ≡ list) (is : IsLocalList (local_asked d.groups) merge remove list) where
  local_after : local_asked (with_group d.groups p) ≡ list
  local_after =
      let found : find_group local_arn (with_group d.groups p) ≡ Some (group_after d.groups p) =
      subst (λ (arn : List ℕ). find_group arn (with_group d.groups p) ≡ Some (group_after d.groups p)) named (other_groups_stay d.groups p).1 in
      ap (λ (o : Option Group). asked_in (option_map_or (λ (g : Group). g.requirements) o [])) found ∙ own_list

  list_after : IsLocalList (local_asked d.groups) merge remove (local_asked (with_group d.groups p))
  list_after = subst (IsLocalList (local_asked d.groups) merge remove) (sym local_after) is

  others_after : (arn : List ℕ) → bytes_eq arn local_arn ≡ false → find_group arn (with_group d.groups p) ≡ find_group arn d.groups
  others_after arn other = (other_groups_stay d.groups p).0 arn (ap (bytes_eq arn) named ∙ other)

locals_leave : (d : Device) (p : Plan) (r : LocalRequest) (list : Asked) → p.group ≡ local_arn → asked_in p.requirements ≡ list
    → IsLocalList (local_asked d.groups) r.merge r.remove list → (o : Option Outcome) → LocalLeavesBy d r o (groups_then o d.groups p)
locals_leave d p r list named own_list is None = refl
locals_leave d p r list named own_list is (Some outcomes.Successful) = record {
  list = λ takes. list_after d p list r.merge r.remove named own_list is;
  others = others_after d p list r.merge r.remove named own_list is;
  same = λ stays. absurd (true≢false stays);
}
locals_leave d p r list named own_list is (Some outcomes.RollbackNotRequested) = record {
  list = λ takes. list_after d p list r.merge r.remove named own_list is;
  others = others_after d p list r.merge r.remove named own_list is;
  same = λ stays. absurd (true≢false stays);
}
locals_leave d p r list named own_list is (Some outcomes.RollbackComplete) = record {
  list = λ takes. absurd (false≢true takes);
  others = λ arn other. refl;
  same = λ stays. refl;
}
locals_leave d p r list named own_list is (Some outcomes.UnableToRollback) = record {
  list = λ takes. absurd (false≢true takes);
  others = λ arn other. refl;
  same = λ stays. refl;
}

-- what the plan has of its document
record HasHead (document : Document) (p : Plan) : Type 0 where
  group : p.group ≡ document.group
  revision : p.revision ≡ document.revision
  requirements : p.requirements ≡ map root_requirement document.roots

head_of : (o : Origin) (d : Device) (cs : List Candidate) (document : Document) (draft : Draft) (p : Plan) → IsPlanned o d cs document draft
    → PlanFilled draft p →
    HasHead document p
head_of o d cs document draft p planned fills = record {
  group = fills.group ∙ planned.plan.head.group;
  revision = fills.revision ∙ planned.plan.head.revision;
  requirements = fills.requirements ∙ planned.plan.head.requirements;
}

pub locals_move_one_list : LocalsMoveOneList
locals_move_one_list d origin content before after bytes taken (inl memory) = absurd cc
locals_move_one_list d origin content before after bytes taken (inr (inl (x, asks, is))) = absurd cc
locals_move_one_list d origin content before after bytes taken (inr (inr (document, (r, on, made), sound, takes))) =
    let p = plan_view taken in
    let head = head_of origin d takes.0 document takes.1 p takes.2.0.1.1.1.1.0 takes.2.1.fills in
    let own_list : asked_in p.requirements ≡ made.list =
    ap asked_in (head.requirements ∙ ap (map root_requirement) made.roots) ∙ listed r.updates made.list in (
      r,
      on,
      (document, made, takes),
      λ e rest runs accepts. subst (LocalLeavesBy d r (outcome_in rest)) (sym (plans_move_one_group d e p rest runs accepts))
          (locals_leave d p r made.list (head.group ∙ made.group) own_list made.after.is (outcome_in rest)),
    )

-- ---- a change of one component's configuration

change_step : (n name : List ℕ) (update : Update) (r : Requirement) (rs : List Requirement) → bytes_eq name n ≡ false
    → change_in n (map (changed_root name update) rs) ≡ None
    → (b : Bool) → bytes_eq n r.name ≡ b → change_in n (changed_root name update r ∷ map (changed_root name update) rs) ≡ None
change_step n name update r rs other more true is =
    let differs : bytes_eq name r.name ≡ false = ap (bytes_eq name) (sym ((bytes_eq-Decides n r.name).0 is)) ∙ other in
    ap (λ (b : Bool). option_and_then (λ (root : Root). option_map change_of root.update)
    (if b then Some (changed_root name update r) else root_named n (map (changed_root name update) rs))) is
    ∙ ap (λ (b : Bool). option_map change_of (if b then Some update else None)) differs
change_step n name update r rs other more false is =
    ap (λ (b : Bool). option_and_then (λ (root : Root). option_map change_of root.update)
    (if b then Some (changed_root name update r) else root_named n (map (changed_root name update) rs))) is ∙ more

change_other : (n name : List ℕ) (update : Update) (rs : List Requirement) → bytes_eq name n ≡ false → change_in n (map (changed_root name update) rs) ≡ None
change_other n name update [] other = refl
change_other n name update (r ∷ rs) other = change_step n name update r rs other (change_other n name update rs other) (bytes_eq n r.name) refl

change_here : (name : List ℕ) (update : Update) (rs : List Requirement) → list_any (λ (r : Requirement). bytes_eq name r.name) rs ≡ true
    → change_in name (map (changed_root name update) rs) ≡ Some (change_of update)
change_here name update [] some = absurd (false≢true some)
change_here name update (r ∷ rs) some = by (bytes_eq name r.name) refl (change_here name update rs) some
  where
    by : (b : Bool) → bytes_eq name r.name ≡ b
        → (list_any (λ (r : Requirement). bytes_eq name r.name) rs ≡ true → change_in name (map (changed_root name update) rs) ≡ Some (change_of update))
        → (b || list_any (λ (r : Requirement). bytes_eq name r.name) rs) ≡ true
        → change_in name (map (changed_root name update) (r ∷ rs)) ≡ Some (change_of update)
    by true is more here = ap (λ (b : Bool). option_and_then (λ (root : Root). option_map change_of root.update)
        (if b then Some (record { name = r.name; range = r.range; update = if b then Some update else None }) else root_named name
        (map (changed_root name update) rs))) is
    by false is more here = ap (λ (b : Bool). option_and_then (λ (root : Root). option_map change_of root.update)
        (if b then Some (changed_root name update r) else root_named name (map (changed_root name update) rs))) is ∙ more here

requires_of : (name : List ℕ) (groups : List Group) (g : Group) → group_for name groups ≡ Some g → requires_name name g ≡ true
requires_of name [] g is = absurd cc
requires_of name (h ∷ groups) g is = by (requires_name name h) refl (requires_of name groups g) is
  where
    some_is : (x y : Group) → ◌≡◌ {A = Option Group} (Some x) (Some y) → x ≡ y
    some_is x y same = cc

    by : (b : Bool) → requires_name name h ≡ b → (group_for name groups ≡ Some g → requires_name name g ≡ true)
        → (if b then Some h else group_for name groups) ≡ Some g → requires_name name g ≡ true
    by true here more found = ap (requires_name name) (sym (some_is h g found)) ∙ here
    by false here more found = more found

-- the item that is kept is changed by the change alone
changed_item : (platform : Platform) (name : List ℕ) (update : Update) (rs : List Requirement) (roots : List Root) → roots ≡ map (changed_root name update) rs
    → list_any (λ (r : Requirement). bytes_eq name r.name) rs ≡ true → (i j : Item) → IsKeptItem platform roots i j → IsChangedItem platform name update i j
changed_item platform name update rs roots is some i j h = record {
  name_is = h.name;
  version = h.version;
  recipe = h.recipe;
  artifacts = h.artifacts;
  kept = λ other. h.config (ap (change_in i.name) is ∙ change_other i.name name update rs other);
  changed = λ named r reads. h.changed r reads ∙ ap (λ (x : Option Computed). new_config (Some i.config) (view r.default_config) x)
      (ap (change_in i.name) is ∙ ap (λ (n : List ℕ). change_in n (map (changed_root name update) rs)) named ∙ change_here name update rs some);
}

changed_items : (platform : Platform) (name : List ℕ) (update : Update) (rs : List Requirement) (roots : List Root) → roots ≡ map (changed_root name update) rs
    → list_any (λ (r : Requirement). bytes_eq name r.name) rs ≡ true → (is js : List Item) → AllZip (IsKeptItem platform roots) is js
    → AllZip (IsChangedItem platform name update) is js
changed_items platform name update rs roots same some [] [] z = tt
changed_items platform name update rs roots same some [] (j ∷ js) z = absurd z
changed_items platform name update rs roots same some (i ∷ is) [] z = absurd z
changed_items platform name update rs roots same some (i ∷ is) (j ∷ js) z = (
  changed_item platform name update rs roots same some i j z.0,
  changed_items platform name update rs roots same some is js z.1,
)

-- ---- what is not declined

no_first : {Fault : Type 0} (lines : Table Fault) (fault : Fault) → AllHold lines → IsFirst lines fault → ⊥
no_first [] fault all first = first
no_first (line ∷ lines) fault all (inl fails) = fails.0 all.0
no_first (line ∷ lines) fault all (inr later) = no_first lines fault all.1 later.1

gather_never : (fault refused : CandidatesFault) → (fault ≡ gather.Library → ⊥) → (fault ≡ gather.Library) ⊎ (fault ≡ gather.NoMemory)
    → refusal.Candidates refused ≡ gather_refusal fault → ⊥
gather_never fault refused never (inl library) is = never library
gather_never fault refused never (inr memory) is =
    let wrong : refusal.Candidates refused ≡ refusal.NoMemory = is ∙ ap gather_refusal memory in cc

plan_never : (fault : PlanFault) → refusal.Plan planning.NoVersion ≡ plan_refusal fault → fault ≡ planning.NoVersion
plan_never planning.NoVersion is = refl
plan_never (planning.TooManyClosed n) is = absurd cc
plan_never (planning.TooManyGroups n) is = absurd cc
plan_never (planning.TooManyComponents n) is = absurd cc
plan_never (planning.ConfigTooLarge name n) is = absurd cc
plan_never planning.NoMemory is = absurd cc

candidates_plan : (fault : CandidatesFault) (f : PlanFault) → refusal.Candidates fault ≡ plan_refusal f → ⊥
candidates_plan fault planning.NoVersion is = cc
candidates_plan fault (planning.TooManyClosed n) is = cc
candidates_plan fault (planning.TooManyGroups n) is = cc
candidates_plan fault (planning.TooManyComponents n) is = cc
candidates_plan fault (planning.ConfigTooLarge name n) is = cc
candidates_plan fault planning.NoMemory is = cc

plan_candidates : (fault : CandidatesFault) → refusal.Plan planning.NoVersion ≡ gather_refusal fault → ⊥
plan_candidates gather.Library is = cc
plan_candidates (gather.TooManyRecipes n) is = cc
plan_candidates (gather.Recipe at fault) is = cc
plan_candidates (gather.RecipeDiffers name version) is = cc
plan_candidates (gather.TwoRecipes name version) is = cc
plan_candidates gather.NoMemory is = cc

-- a fault of the bytes, or of the device, is none of these
abbrev is_plain : Refusal → Bool
is_plain (refusal.Candidates fault) = false
is_plain (refusal.Plan fault) = false
is_plain r = true

document_plain : (f : DocFault) → is_plain (document_refusal f) ≡ true
document_plain (doc.Tree x) = refl
document_plain (doc.Missing x) = refl
document_plain (doc.WrongKind x) = refl
document_plain (doc.TooMany x) = refl
document_plain (doc.DuplicateKey x) = refl
document_plain (doc.BadName x) = refl
document_plain doc.BadRevision = refl
document_plain doc.BadPolicy = refl
document_plain (doc.BadRange x) = refl
document_plain (doc.BadPointer x) = refl
document_plain (doc.BadMerge x) = refl
document_plain doc.NoMemory = refl

refused_is : (a b : Refusal) → ◌≡◌ {A = Declined} (Refused a) (Refused b) → a ≡ b
refused_is a b same = cc

document_never : (fault : CandidatesFault) (f : DocFault) → Refused (refusal.Candidates fault) ≡ Refused (document_refusal f) → ⊥
document_never fault f same = true≢false (sym (document_plain f) ∙ ap is_plain (sym (refused_is (refusal.Candidates fault) (document_refusal f) same)))

document_no_plan : (f : DocFault) → Refused (refusal.Plan planning.NoVersion) ≡ Refused (document_refusal f) → ⊥
document_no_plan f same = true≢false (sym (document_plain f) ∙ ap is_plain (sym (refused_is (refusal.Plan planning.NoVersion) (document_refusal f) same)))

set_never : (name : List ℕ) (fault : CandidatesFault) (f : SetFault) → Refused (refusal.Candidates fault) ≡ unset name f → ⊥
set_never name fault setting.NoComponent same = cc
set_never name fault setting.NotListed same = cc
set_never name fault setting.NoMemory same = cc

set_no_plan : (name : List ℕ) (f : SetFault) → Refused (refusal.Plan planning.NoVersion) ≡ unset name f → ⊥
set_no_plan name setting.NoComponent same = cc
set_no_plan name setting.NotListed same = cc
set_no_plan name setting.NoMemory same = cc

set_no_file : (name : List ℕ) (fault : StageFault) (f : SetFault) → Unstaged fault ≡ unset name f → ⊥
set_no_file name fault setting.NoComponent same = cc
set_no_file name fault setting.NotListed same = cc
set_no_file name fault setting.NoMemory same = cc

no_room : (d : Device) (document : Document) → IsFirst (room_lines d document) planning.NoVersion → ⊥
no_room d document (inl fails) = let wrong = fails.1 in cc
no_room d document (inr (room, inl fails)) = let wrong = fails.1 in cc
no_room d document (inr (room, inr (more, never))) = never

no_version_config : (items : List Item) → IsFirst (each config_lines items) planning.NoVersion → ⊥
no_version_config [] first = first
no_version_config (i ∷ items) (inl fails) = let wrong = fails.1 in cc
no_version_config (i ∷ items) (inr later) = no_version_config items later.1

-- no set was valid
has_none : (d : Device) (cs : List Candidate) (document : Document) → IsRefused d cs document planning.NoVersion → HasNoSet d cs document
has_none d cs document (inl room) = absurd (no_room d document room)
has_none d cs document (inr (inl none)) = none.2
has_none d cs document (inr (inr (room, (choice, is, inl fails)))) = let wrong = fails.1 in absurd cc
has_none d cs document (inr (inr (room, (choice, is, inr later)))) = absurd (no_version_config (map bare (items_of d.set document.roots choice)) later.1)

-- ---- over no library

module _ (one : IsOneRecipe) (elements : DependsOnElements) (d : Device) (o : Origin) (document : Document) (sound : IsSound d) (whole : Whole d)
    (is : d.origin ≡ Some o) (same : AsksTheSame d document) where
  gathered_in : (f : Facts) → f.origin ≡ o → f.device ≡ d → f.content ≡ no_content → AreCandidatesOf f
      → AreGathered (own o d.set) o.platform [] f.candidates
  gathered_in f origin device content are =
      subst (λ (x : Origin). AreGathered (own x d.set) x.platform [] f.candidates) origin
      (subst (λ (x : Device). AreGathered (own f.origin x.set) f.origin.platform [] f.candidates) device (are.told [] (ap (λ (x : Content). x.recipes) content)).2)

  module _ (cs : List Candidate) (draft : Draft) where
    no_candidates : (fault : CandidatesFault) → RefusalOf (facts d o no_content 0 0 document cs draft) plan_checks (refusal.Candidates fault) → ⊥
    no_candidates fault (inl memory) = cc
    no_candidates fault (inr (inl opens)) = let wrong = opens.2 in cc
    no_candidates fault (inr (inr (opened, inl memory))) = cc
    no_candidates fault (inr (inr (opened, inr (inl ages)))) = let wrong = ages.1 in cc
    no_candidates fault (inr (inr (opened, inr (inr (aged, inl memory))))) = cc
    no_candidates fault (inr (inr (opened, inr (inr (aged, inr (inl gathers)))))) =
        gather_never gathers.0 fault (λ library. omega (arith, gathers.1.cause library))
        (own_is_gathered o d gathers.0 sound whole is (gathers.1.told [] refl)) gathers.2
    no_candidates fault (inr (inr (opened, inr (inr (aged, inr (inr (gathered, inl memory))))))) = cc
    no_candidates fault (inr (inr (opened, inr (inr (aged, inr (inr (gathered, inr (inl room)))))))) = candidates_plan fault room.0 room.2
    no_candidates fault (inr (inr (opened, inr (inr (aged, inr (inr (gathered, inr (inr (roomy, inl memory))))))))) = cc
    no_candidates fault (inr (inr (opened, inr (inr (aged, inr (inr (gathered, inr (inr (roomy, inr (inl plans)))))))))) =
        candidates_plan fault plans.0 plans.2
    no_candidates fault (inr (inr (opened, inr (inr (aged, inr (inr (gathered, inr (inr (roomy, inr (inr none)))))))))) = absurd none.1

    no_version : RefusalOf (facts d o no_content 0 0 document cs draft) plan_checks (refusal.Plan planning.NoVersion) → ⊥
    no_version (inl memory) = cc
    no_version (inr (inl opens)) = let wrong = opens.2 in cc
    no_version (inr (inr (opened, inl memory))) = cc
    no_version (inr (inr (opened, inr (inl ages)))) = let wrong = ages.1 in cc
    no_version (inr (inr (opened, inr (inr (aged, inl memory))))) = cc
    no_version (inr (inr (opened, inr (inr (aged, inr (inl gathers)))))) = plan_candidates gathers.0 gathers.2
    no_version (inr (inr (opened, inr (inr (aged, inr (inr (gathered, inl memory))))))) = cc
    no_version (inr (inr (opened, inr (inr (aged, inr (inr (gathered, inr (inl room)))))))) =
        no_room d document (subst (IsFirst (room_lines d document)) (plan_never room.0 room.2) room.1)
    no_version (inr (inr (opened, inr (inr (aged, inr (inr (gathered, inr (inr (roomy, inl memory))))))))) = cc
    no_version (inr (inr (opened, inr (inr (aged, inr (inr (gathered, inr (inr (roomy, inr (inl plans)))))))))) =
        own_set_is_there one elements o d cs document sound whole is
        (gathered_in (facts d o no_content 0 0 document cs draft) refl refl refl gathered) same
        (has_none d cs document (subst (IsRefused d cs document) (plan_never plans.0 plans.2) plans.1))
    no_version (inr (inr (opened, inr (inr (aged, inr (inr (gathered, inr (inr (roomy, inr (inr none)))))))))) = absurd none.1

-- ---- the whole

module _ (one : IsOneRecipe) (reads_sound : ReadsSound) (elements : DependsOnElements) (d : Device) (o : Origin) (name bytes : List ℕ) (sound : IsSound d)
    (whole : Whole d) (is : d.origin ≡ Some o) where
  -- no document
  unmade_keeps : (x : Declined) → AsksChange name bytes d (Err x) → KeepsAll d o name bytes (Err x)
  unmade_keeps (Refused (refusal.Candidates fault)) (inl reads) = absurd (document_never fault reads.0 reads.2)
  unmade_keeps (Refused (refusal.Candidates fault)) (inr (inl closed)) = let wrong = closed.2.2 in cc
  unmade_keeps (Refused (refusal.Candidates fault)) (inr (inr sets)) = absurd (set_never name fault sets.2.0 sets.2.2)
  unmade_keeps (Refused (refusal.Plan planning.NoVersion)) (inl reads) = absurd (document_no_plan reads.0 reads.2)
  unmade_keeps (Refused (refusal.Plan planning.NoVersion)) (inr (inl closed)) = let wrong = closed.2.2 in cc
  unmade_keeps (Refused (refusal.Plan planning.NoVersion)) (inr (inr sets)) = absurd (set_no_plan name sets.2.0 sets.2.2)
  unmade_keeps (Unstaged fault) (inl reads) = let wrong = reads.2 in cc
  unmade_keeps (Unstaged fault) (inr (inl closed)) = let wrong = closed.2.2 in cc
  unmade_keeps (Unstaged fault) (inr (inr sets)) = absurd (set_no_file name fault sets.2.0 sets.2.2)
  unmade_keeps x asks = tt

  module _ (document : Document) (c : Change) (on : IsChangeOn name bytes d c) (made : IsChangeDocument d name c document) where
    same_asks : AsksTheSame d document
    same_asks = kept_group_asks d document sound (changes_keep_group d name c document made)

    made_keeps : (taken : Result code.Plan Declined) → TakesIn d o no_content 0 0 document taken → KeepsAll d o name bytes taken
    made_keeps (Ok taken) takes =
        let p = plan_view taken in
        let planned = takes.2.0.1.1.1.1.0 in
        let fills = takes.2.1.fills in
        let head = head_of o d takes.0 document takes.1 p planned fills in
        let gathered = gathered_in one elements d o document sound whole is same_asks (facts d o no_content 0 0 document takes.0 takes.1) refl refl refl
        takes.2.0.1.1.0 in (
          c,
          on,
          record {
            items = changed_items o.platform name c.update made.group.requirements document.roots made.roots
                (requires_of name d.groups made.group made.first) d.set p.items
                (own_items_stay one reads_sound elements o d takes.0 document takes.1 p sound whole is gathered same_asks planned fills);
            groups = λ e rest runs accepts. plans_move_one_group d e p rest runs accepts
                ∙ groups_same (outcome_in rest) d.groups p (kept_group_stays d document p sound (changes_keep_group d name c document made) head.group
                (head.revision ∙ made.revision) head.requirements);
          },
        )
    made_keeps (Err (Refused (refusal.Candidates fault))) takes =
        absurd (no_candidates one elements d o document sound whole is same_asks takes.0 takes.1 fault takes.2)
    made_keeps (Err (Refused (refusal.Plan planning.NoVersion))) takes =
        absurd (no_version one elements d o document sound whole is same_asks takes.0 takes.1 takes.2)
    made_keeps (Err (Unstaged fault)) takes =
        let gathered = gathered_in one elements d o document sound whole is same_asks (facts d o no_content 0 0 document takes.0 takes.1) refl refl refl
        takes.2.0.1.1.0 in
        outside fault (own_needs_no_file one elements o d takes.0 document takes.1 sound whole is gathered same_asks takes.2.0.1.1.1.1.0 no_artifacts)
        (takes.2.1 no_artifacts refl)
      where
        outside : (f : StageFault) → AllHold (draft_lines no_artifacts d.set takes.1) → IsOutside f ⊎ IsFirst (draft_lines no_artifacts d.set takes.1) f →
            IsOutside f
        outside f all (inl is) = is
        outside f all (inr first) = absurd (no_first (draft_lines no_artifacts d.set takes.1) f all first)
    made_keeps (Err x) takes = tt

pub changes_keep_all : IsOneRecipe → ReadsSound → DependsOnElements → ChangesKeepAll
changes_keep_all one reads_sound elements d o name bytes taken sound whole is (inl memory) = subst (KeepsAll d o name bytes) (sym memory) tt
changes_keep_all one reads_sound elements d o name bytes taken sound whole is (inr (inl (x, asks, same))) =
    subst (KeepsAll d o name bytes) (sym same) (unmade_keeps one reads_sound elements d o name bytes sound whole is x asks)
changes_keep_all one reads_sound elements d o name bytes taken sound whole is (inr (inr (document, (c, on, made), roots, takes))) =
    made_keeps one reads_sound elements d o name bytes sound whole is document c on made taken takes
