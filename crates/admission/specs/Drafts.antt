-- What a draft has to be for its files to be taken in, and what then may be accepted.
use Rattle.std.specs.Prelude.{List, map}
use Rattle.std.specs.List.{AllByRecursion}
use Rattle.records.specs.Stored.{Accepted, Draft, DraftItem, Item, Plan}
use Rattle.device.specs.Devices.{Device}
use Rattle.device.specs.Lawful.{Allowed}
use Rattle.device.specs.Plans.{AreRegularItems, AreRising}
use Rattle.device.specs.Filled.{PlanFilled}
use Rattle.artifact_store.specs.Paths.{IsNamed, IsNamedDraft}
use Rattle.artifact_store.specs.Staged.{HasItsFiles, KeepsFiles, draft_name}

-- beside the items that are kept
pub record MayStage (set : List Item) (items : List DraftItem) : Type 0 where
  pub named : AllByRecursion IsNamed set
  pub drafted : AllByRecursion IsNamedDraft items
  pub rise : AreRising (map draft_name items)
  pub differ : AllByRecursion HasItsFiles items
  pub keeps : AllByRecursion (KeepsFiles set) items

-- the device may take the plan, whose configurations are regular trees
pub record MayTake (d : Device) (plan : Plan) : Type 0 where
  pub allowed : Allowed d (Accepted plan)
  pub regular : AreRegularItems plan.items

-- whatever plan fills the draft
abbrev pub MayTakeFilled : Device → Draft → Type 0
MayTakeFilled d draft = (plan : Plan) → PlanFilled draft plan → MayTake d plan
