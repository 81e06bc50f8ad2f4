-- The plan that a document makes of a device and the candidates, or the first reason why there is none.
use Rattle.std.specs.Prelude.{◌≡◌, ◌⊎◌, ℕ, ◌+◌, ◌<◌, ◌≤◌, IsTrue, List, ◌++◌, length, map, Result, MatchResult}
use Rattle.serde_json.specs.Written.{compact_text}
use Rattle.nuc_base.specs.Tables.{Table, AllHold, IsFirst, each}
use Rattle.tree_core.specs.Parts.{check}
use Rattle.recipe_reader.specs.Members.{members}
use Rattle.recipe_reader.specs.Sets.{IsPreferred, IsValid}
use Rattle.recipe_reader.specs.declared.candidate.Candidate.{Candidate}
use Rattle.records.specs.Stored.{Item, DraftItem, Draft, draft_view}
use Rattle.records.specs.declared.record.Origin.{Origin}
use Rattle.device.specs.Devices.{Device}
use Rattle.device.specs.Grouped.{has_group}
use Rattle.device.specs.Limits.{most_closed, most_groups, most_elements, most_config}
use Rattle.device.specs.Plans.{AreRegularItems}
use Rattle.deployment_doc.specs.declared.document.Document.{Document}
use Rattle.records.specs.declared.record.Draft as code
use Rattle.plan_core.specs.Requests.{wanted_of, root_requirement}
use Rattle.plan_core.specs.Set.{chosen, items_of, bare}
use Rattle.plan_core.specs.Boots.{AreBoots}
use Rattle.plan_core.specs.declared.fault.PlanFault.{PlanFault}
use Rattle.plan_core.specs.declared.fault.PlanFault.TheVariants as fault

-- ---- what is checked

-- one more deployment may close, of this group
abbrev pub room_lines : Device → Document → Table PlanFault
room_lines d document =
    check (length d.closed < most_closed) (fault.TooManyClosed most_closed)
    ++ check (IsTrue (has_group document.group d.groups) ⊎ (length d.groups < most_groups)) (fault.TooManyGroups (most_groups + 1))

-- the text of the configuration is short
abbrev pub config_lines : Item → Table PlanFault
config_lines i = check (length (compact_text i.config) ≤ most_config) (fault.ConfigTooLarge i.name (length (compact_text i.config)))

-- few items, each with a short configuration
abbrev pub size_lines : List DraftItem → Table PlanFault
size_lines items = check (length items ≤ most_elements) (fault.TooManyComponents (length items)) ++ each config_lines (map bare items)

-- ---- the plan

-- the preferred set for what all groups ask, as the candidates at its places
abbrev pub IsChoice : Device → List Candidate → Document → List Candidate → Type 0
IsChoice d cs document choice =
    (set : List ℕ) × IsPreferred (members cs) (wanted_of d.groups document) set × (choice ≡ chosen cs set)

abbrev pub HasNoSet : Device → List Candidate → Document → Type 0
HasNoSet d cs document = (set : List ℕ) → IsValid (members cs) (wanted_of d.groups document) set → ⊥

-- what the draft has of the document
pub record IsHeadOf (document : Document) (draft : Draft) : Type 0 where
  pub id : draft.id ≡ document.id
  pub group : draft.group ≡ document.group
  pub revision : draft.revision ≡ document.revision
  pub policy : draft.policy ≡ document.policy
  pub requirements : draft.requirements ≡ map root_requirement document.roots

pub record PlanOf (origin : Origin) (d : Device) (cs : List Candidate) (document : Document) (draft : Draft) : Type 0 where
  pub head : IsHeadOf document draft
  pub choice : List Candidate
  pub is_choice : IsChoice d cs document choice
  pub items : draft.items ≡ items_of d.set document.roots choice
  pub boots : AreBoots origin d.set choice (map bare draft.items) draft.boots

-- ---- the answer

-- the first check that fails: room for one more deployment, a set, and the sizes of its items
abbrev pub IsRefused : Device → List Candidate → Document → PlanFault → Type 0
IsRefused d cs document f =
    IsFirst (room_lines d document) f
    ⊎ (AllHold (room_lines d document) × (f ≡ fault.NoVersion) × HasNoSet d cs document)
    ⊎ (AllHold (room_lines d document)
    × ((choice : List Candidate) × IsChoice d cs document choice × IsFirst (size_lines (items_of d.set document.roots choice)) f))

-- every check holds, and this is the plan, whose configurations are regular trees
pub record IsPlanned (origin : Origin) (d : Device) (cs : List Candidate) (document : Document) (draft : Draft) : Type 0 where
  pub room : AllHold (room_lines d document)
  pub plan : PlanOf origin d cs document draft
  pub sizes : AllHold (size_lines draft.items)
  pub regular : AreRegularItems (map bare draft.items)

-- want of memory is free
abbrev pub PlanOutcome : Origin → Device → List Candidate → Document → Result code.Draft PlanFault → Type 0
PlanOutcome origin d cs document result = MatchResult result
    (λ draft. IsPlanned origin d cs document (draft_view draft))
    (λ f. (f ≡ fault.NoMemory) ⊎ IsRefused d cs document f)
