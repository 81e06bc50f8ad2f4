-- The steps by which a plan is made.
use Rattle.std.specs.Prelude.{◌≡◌, ◌⊎◌, ℕ, ◌≤◌, ◌<◌, List, length, map, All, Result, MatchResult}
use Rattle.nuc_base.specs.Tables.{AllHold, IsFaultBy, each}
use Rattle.dep_order.specs.Orders.{IsAcyclic}
use Rattle.recipe_reader.specs.Candidates.{IsReadFor}
use Rattle.recipe_reader.specs.Members.{members}
use Rattle.recipe_reader.specs.Sets.{IsPreferred}
use Rattle.recipe_reader.specs.declared.candidate.Candidate.{Candidate}
use Rattle.records.specs.Stored.{draft_item_view}
use Rattle.records.specs.declared.record.Origin.{Origin}
use Rattle.records.specs.declared.record.DraftItem as code
use Rattle.device.specs.Devices.{Device}
use Rattle.device.specs.Plans.{AreItems, AreRegularItems}
use Rattle.library_core.specs.Gathered.{KeepBytes}
use Rattle.deployment_doc.specs.Sound.{AreSound}
use Rattle.deployment_doc.specs.declared.document.Document.{Document}
use Rattle.plan_core.specs.Requests.{wanted_of}
use Rattle.plan_core.specs.Set.{items_of, bare}
use Rattle.plan_core.specs.Boots.{edges_of, AreBoots}
use Rattle.device.specs.Limits.{most_elements}
use Rattle.plan_core.specs.Plans.{config_lines, HasNoSet, IsChoice}
use Rattle.plan_core.specs.declared.fault.PlanFault.{PlanFault}
use Rattle.plan_core.specs.declared.fault.PlanFault.TheVariants as fault

-- the choice of the preferred set, which is small
pub record IsFewChoice (d : Device) (cs : List Candidate) (document : Document) (choice : List Candidate) : Type 0 where
  pub is_choice : IsChoice d cs document choice
  pub few : length choice ≤ most_elements

-- no set is valid, or the preferred one has too many members
abbrev pub HasNoFewChoice : Device → List Candidate → Document → PlanFault → Type 0
HasNoFewChoice d cs document f =
    ((f ≡ fault.NoVersion) × HasNoSet d cs document)
    ⊎ ((choice : List Candidate) × IsChoice d cs document choice × (most_elements < length choice) × (f ≡ fault.TooManyComponents (length choice)))

-- what choosing a set answers
abbrev pub ChoiceOutcome : Device → List Candidate → Document → Result (List ℕ) PlanFault → Type 0
ChoiceOutcome d cs document result = MatchResult result
    (λ set. IsPreferred (members cs) (wanted_of d.groups document) set)
    (λ f. (f ≡ fault.NoMemory) ⊎ ((f ≡ fault.NoVersion) × HasNoSet d cs document))

-- what is known of the chosen candidates before their items are made
pub record MayMake (origin : Origin) (d : Device) (document : Document) (choice : List Candidate) : Type 0 where
  pub set : AreItems origin.platform d.set
  pub regular : AreRegularItems d.set
  pub few : length choice ≤ 128
  pub read : All (IsReadFor origin.platform) choice
  pub kept : KeepBytes d.set choice
  pub acyclic : IsAcyclic (edges_of choice)
  pub roots : AreSound document.roots

-- the items and the boots, or the first configuration that is too long
abbrev pub ItemsOutcome : Origin → Device → Document → List Candidate → Result (List code.DraftItem × List (List ℕ)) PlanFault → Type 0
ItemsOutcome origin d document choice result = MatchResult result
    (λ made. (map draft_item_view made.0 ≡ items_of d.set document.roots choice)
    × AllHold (each config_lines (map bare (items_of d.set document.roots choice)))
    × AreRegularItems (map bare (items_of d.set document.roots choice))
    × AreBoots origin d.set choice (map bare (items_of d.set document.roots choice)) made.1)
    (IsFaultBy fault.NoMemory (each config_lines (map bare (items_of d.set document.roots choice))))
